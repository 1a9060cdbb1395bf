use Rattle.std.proofs.Common.{◌≡◌, ◌≤◌, Some, rules, subst, sym, ◌∙◌}
use Rattle.rule_book.specs.HistoryRules.{FirstTold}
use Rattle.rule_book.specs.PlayerFigures.{position_in}
use Rattle.rule_book.specs.Players.{ArePlayers}
use Rattle.rule_book.specs.UpTo.{start_of}
use Rattle.rule_book.proofs.TeamFacts.{first_is_the_start}
use Rattle.season_views.specs.Seen.{WritesShown}
use Rattle.entry_windows.proofs.Due.{nothing_shown}
use Rattle.entry_windows.proofs.Own.{of_entry}
use Rattle.season_book.specs.EntryWindow.{entry_window}
use Rattle.entry_windows.proofs.WindowShown.{entry_is, not_yet}
use Rattle.entry_windows.proofs.window.write_issued.Goals as goal

pub returns-in-Some-clause-value : goal.returns-in-Some-clause-value
returns-in-Some-clause-value g c = λ entries are row there.
    let seen = c.args.seen.now in
    let e = c.args.entry in
    let one : 1 ≤ e = search rules in
    let lawful : ArePlayers seen.facts.players = subst ArePlayers c.players.ensures c.len-count.ensures.lawful in
    let told = of_entry seen.facts seen.managers entries e row (λ h. FirstTold h c.first.result) lawful one are there (c.first.ensures.history (position_in seen.facts.players)) in
    let start : start_of row.history ≡ Some c.in-Some.first = sym ((first_is_the_start row.history c.first.result).0 told) ∙ c.in-Some.is in
    subst (λ due. WritesShown due c.write_registered.result c.args.out.now c.write_registered.new.out) (sym (entry_is seen.facts entries seen.leagues e row c.in-Some.first there start))
    (c.write_registered.ensures.value entries are row there start)

pub returns-in-None-clause-value : goal.returns-in-None-clause-value
returns-in-None-clause-value g c = λ entries are row there.
    let seen = c.args.seen.now in
    let e = c.args.entry in
    let one : 1 ≤ e = search rules in
    let lawful : ArePlayers seen.facts.players = subst ArePlayers c.players.ensures c.len-count.ensures.lawful in
    let told = of_entry seen.facts seen.managers entries e row (λ h. FirstTold h c.first.result) lawful one are there (c.first.ensures.history (position_in seen.facts.players)) in
    nothing_shown (entry_window seen.facts entries seen.leagues e) c.args.out.now c.args.out.now
    (not_yet seen.facts entries seen.leagues e row there (sym ((first_is_the_start row.history c.first.result).0 told) ∙ c.in-None.is))
