use Rattle.std.proofs.Common.{◌≡◌, ◌≤◌, Some, None, rules, subst, sym, ap, ◌∙◌, if◌then◌else◌}
use Rattle.std.proofs.lemmas.Option.{cond_some}
use Rattle.rule_book.specs.HistoryTeam.{is_begun}
use Rattle.rule_book.specs.Players.{ArePlayers}
use Rattle.season_views.specs.Seen.{WritesShown}
use Rattle.season_views.proofs.Scores.{none_of}
use Rattle.season_book.specs.PicksWindow.{picks_if_begun, picks_of}
use Rattle.entry_windows.specs.Told.{played_by}
use Rattle.entry_windows.proofs.Due.{nothing_shown}
use Rattle.entry_windows.proofs.Own.{of_entry}
use Rattle.entry_windows.proofs.Shown.{none_before}
use Rattle.entry_windows.proofs.picks.write_locked.Goals as goal

pub returns-in-Some-clause-value : goal.returns-in-Some-clause-value
returns-in-Some-clause-value g c = λ entries are row there.
    let seen = c.args.seen.now in
    let e = c.args.entry in
    let gw = c.args.gameweek in
    let one : 1 ≤ e = search rules in
    let lawful : ArePlayers seen.facts.players = subst ArePlayers c.players.ensures c.len-count.ensures.lawful in
    let told = of_entry seen.facts seen.managers entries e row (λ h. c.played.result ≡ (if is_begun h gw then Some (played_by seen.facts h gw) else None)) lawful one are there c.played.ensures.value in
    let is = cond_some (is_begun row.history gw) (played_by seen.facts row.history gw) c.in-Some.played (sym (sym c.in-Some.is ∙ told)) in
    subst (λ due. WritesShown due c.write_played.result c.args.out.now c.write_played.new.out)
    (sym (ap (λ b. if b then Some (picks_of seen.facts entries (e, row) gw) else None) is.0))
    (c.write_played.ensures.value entries are row there (sym is.1))

pub returns-in-None-clause-value : goal.returns-in-None-clause-value
returns-in-None-clause-value g c = λ entries are row there.
    let seen = c.args.seen.now in
    let e = c.args.entry in
    let gw = c.args.gameweek in
    let one : 1 ≤ e = search rules in
    let lawful : ArePlayers seen.facts.players = subst ArePlayers c.players.ensures c.len-count.ensures.lawful in
    let told = of_entry seen.facts seen.managers entries e row (λ h. c.played.result ≡ (if is_begun h gw then Some (played_by seen.facts h gw) else None)) lawful one are there c.played.ensures.value in
    nothing_shown (picks_if_begun seen.facts entries (e, row) gw) c.args.out.now c.args.out.now
    (none_before seen.facts entries e gw row (none_of (is_begun row.history gw) (played_by seen.facts row.history gw) (sym c.in-None.is ∙ told)))
