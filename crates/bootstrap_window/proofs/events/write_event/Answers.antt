use Rattle.std.proofs.Common.{◌≡◌, ◌+◌, ◌∙◌, ◌==◌, ap, rules, to_z, of_z, w64}
use Rattle.json_members.specs.Tokens.{tokens_of}
use Rattle.rule_book.specs.Calendar.{CalendarFacts}
use Rattle.season_book.specs.Events.{average_of, average_score, event_with, gameweek_name, highest_entry, highest_score}
use Rattle.bootstrap_window.proofs.Retold.{retold}
use Rattle.bootstrap_window.proofs.events.write_event.Goals as goal

pub returns : goal.returns
returns g c = λ those told.
    let facts = c.args.seen.now.facts in
    let gw = c.args.gameweek in
    let scores = c.args.scores.now in
    let number : c.get-number.result ≡ gw = c.get-number.ensures.value in
    let locked : c.locked-locked.result ≡ facts.calendar.locked = c.locked-locked.ensures.value ∙ ap (λ (those : CalendarFacts). those.locked) c.calendar.ensures in
    let total : to_z w64 (of_z w64 scores.total) ≡ scores.total = search rules in
    let plain : to_z w64 (of_z w64 c.average_of.result) ≡ c.average_of.result = search rules in
    let average : to_z w64 (of_z w64 c.average_of.result) ≡ average_score those = plain ∙ c.average_of.ensures ∙ ap (λ z. average_of z scores.many) total ∙ (λ i. average_of (told.total i) (told.many i)) in
    let highest : c.highest_of.result ≡ highest_score those = c.highest_of.ensures ∙ told.highest in
    let entry : c.entry_of.result ≡ highest_entry those = c.entry_of.ensures ∙ told.entry in
    let name : c.as_str.result.now ≡ gameweek_name gw = c.as_str.ensures.value ∙ c.in_ok-name.ensures ∙ ap gameweek_name number in
    retold (λ i. tokens_of (event_with gw c.args.deadline (average i) (highest i) (entry i) (c.is_over.ensures i) (number i == locked i) (number i == locked i + 1) (number i + 1 == locked i) (name i))) c.write_row.ensures
