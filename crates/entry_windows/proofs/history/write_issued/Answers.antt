use Rattle.std.proofs.Common.{◌≡◌, ◌≤◌, ◌+◌, ◌*◌, Some, length, arith, rules, subst, sym, ◌∙◌}
use Rattle.rule_book.specs.HistoryRules.{FirstTold}
use Rattle.rule_book.specs.PlayerFigures.{position_in}
use Rattle.rule_book.specs.Players.{ArePlayers}
use Rattle.rule_book.specs.UpTo.{start_of}
use Rattle.rule_book.proofs.TeamFacts.{first_is_the_start}
use Rattle.season_views.specs.Seen.{WritesShown}
use Rattle.season_views.proofs.Numbered.{as_many}
use Rattle.season_book.specs.HistoryWindow.{history_window}
use Rattle.entry_windows.proofs.Due.{nothing_shown}
use Rattle.entry_windows.proofs.Own.{of_entry}
use Rattle.entry_windows.proofs.HistoryShown.{history_is, no_history_yet}
use Rattle.entry_windows.proofs.history.write_issued.Goals as goal

pub returns-in-Some-clause-value : goal.returns-in-Some-clause-value
returns-in-Some-clause-value g c = λ entries are row there.
    let seen = c.args.seen.now in
    let e = c.args.entry in
    let one : 1 ≤ e = search rules in
    let lawful : ArePlayers seen.facts.players = subst ArePlayers c.players.ensures c.len-count.ensures.lawful in
    let told = of_entry seen.facts seen.managers entries e row (λ h. FirstTold h c.first.result) lawful one are there (c.first.ensures.history (position_in seen.facts.players)) in
    let start : start_of row.history ≡ Some c.in-Some.first = sym ((first_is_the_start row.history c.first.result).0 told) ∙ c.in-Some.is in
    subst (λ due. WritesShown due c.write_registered.result c.args.out.now c.write_registered.new.out) (sym (history_is seen.facts entries e row c.in-Some.first there start))
    (c.write_registered.ensures.value entries are row there start)

pub returns-in-None-clause-value : goal.returns-in-None-clause-value
returns-in-None-clause-value g c = λ entries are row there.
    let seen = c.args.seen.now in
    let e = c.args.entry in
    let one : 1 ≤ e = search rules in
    let lawful : ArePlayers seen.facts.players = subst ArePlayers c.players.ensures c.len-count.ensures.lawful in
    let told = of_entry seen.facts seen.managers entries e row (λ h. FirstTold h c.first.result) lawful one are there (c.first.ensures.history (position_in seen.facts.players)) in
    nothing_shown (history_window seen.facts entries e) c.args.out.now c.args.out.now
    (no_history_yet seen.facts entries e row there (sym ((first_is_the_start row.history c.first.result).0 told) ∙ c.in-None.is))

pub returns-in-Some-clause-cost : goal.returns-in-Some-clause-cost
returns-in-Some-clause-cost g c = λ entries are.
    let seen = c.args.seen.now in
    let locked = seen.facts.calendar.locked in
    let many = as_many seen.facts.players seen.managers.managers entries are in
    let reads : (length seen.managers.managers + 21) * (2 * locked) ≡ (length entries + 21) * (2 * locked) = λ i. (many i + 21) * (2 * locked) in
    omega (arith, c.write_registered.ensures.cost, reads)
