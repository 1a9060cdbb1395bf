use Rattle.std.proofs.Common.{◌≡◌, ◌≤◌, ◌<◌, ◌∙◌, ◌&&◌, ℕ, false, nat_le, arith, ap, sym}
use Rattle.std.specs.List.{list_all}
use Rattle.std.proofs.lemmas.Bool.{le-leb}
use Rattle.std.proofs.lemmas.Bool.Decides.{nat_tests}
use Rattle.rule_book.specs.Calendar.{CalendarFacts, has_ended, standing}
use Rattle.rule_book.specs.MatchFacts.{is_finished}
use Rattle.bootstrap_window.proofs.events.is_over.Goals as goal

open_is : (g locked : ℕ) → locked < g → nat_le g locked ≡ false
open_is g locked late = grind (arith, nat_tests, late)

pub returns-then-get-locked : goal.returns-then-get-locked
returns-then-get-locked g c =
    let facts = c.args.seen.now.facts in
    let gw = c.args.gameweek in
    let late : facts.calendar.locked < gw = omega (arith, c.get.ensures.value, c.locked.ensures.value, ap (λ (those : CalendarFacts). those.locked) c.calendar.ensures, c.if-get-locked.true) in
    sym (ap (λ b. b && has_ended facts.calendar (is_finished facts.matches) gw) (open_is gw facts.calendar.locked late))

pub returns : goal.returns
returns g c =
    let facts = c.args.seen.now.facts in
    let gw = c.args.gameweek in
    let locked : gw ≤ facts.calendar.locked = omega (arith, c.get.ensures.value, c.locked.ensures.value, ap (λ (those : CalendarFacts). those.locked) c.calendar.ensures, c.if-get-locked.false) in
    let those = c.standing.ensures.value ∙ ap (λ (calendar : CalendarFacts). standing calendar gw) c.calendar-2.ensures in
    c.all_finished.ensures ∙ ap (list_all (is_finished facts.matches)) those
    ∙ sym (ap (λ b. b && has_ended facts.calendar (is_finished facts.matches) gw) (le-leb gw facts.calendar.locked locked))
