use Rattle.std.proofs.Common.{◌≡◌, ◌<◌, ◌≤◌, ◌+◌, ◌-◌, Some, None, rules, arith, get_or, of_z, pos, subst, sym, ap, to_z, w32, ◌∙◌, if◌then◌else◌}
use Rattle.std.proofs.lemmas.Option.{cond_some}
use Rattle.rule_book.specs.HistoryTeam.{is_begun}
use Rattle.rule_book.specs.Players.{ArePlayers}
use Rattle.season_views.proofs.Scores.{none_of}
use Rattle.season_views.proofs.Told.{chosen, passed_over}
use Rattle.entry_windows.specs.declared.shapes.Played.{Played}
use Rattle.season_book.specs.EntryTotals.{overall_rank, total_through}
use Rattle.entry_windows.specs.Told.{played_by}
use Rattle.entry_windows.proofs.Own.{of_entry}
use Rattle.entry_windows.specs.EntrySummary.{summary_of}
use Rattle.entry_windows.proofs.summary.summary_in.Goals as goal

pub returns-in_err-played-clause-value : goal.returns-in_err-played-clause-value
returns-in_err-played-clause-value g c = λ entries are row there.
    let seen = c.args.seen.now in
    let facts = seen.facts in
    let e = c.args.entry in
    let gw = c.args.last in
    let one : 1 ≤ e = search rules in
    let lawful : ArePlayers facts.players = subst ArePlayers c.players.ensures c.len-count.ensures.lawful in
    let none : c.from_residual.result ≡ None = search rules in
    let told = of_entry facts seen.managers entries e row (λ h. None ≡ (if is_begun h gw then Some (played_by facts h gw) else None)) lawful one are there c.in_err-played.ensures.value in
    none ∙ passed_over (is_begun row.history gw) (Some (summary_of facts entries (e, row) gw)) None (none_of (is_begun row.history gw) (played_by facts row.history gw) told)

pub returns-clause-value : goal.returns-clause-value
returns-clause-value g c = λ entries are row there.
    let seen = c.args.seen.now in
    let facts = seen.facts in
    let e = c.args.entry in
    let gw = c.args.last in
    let one : 1 ≤ e = search rules in
    let from : 1 ≤ gw = search rules in
    let lawful : ArePlayers facts.players = subst ArePlayers c.players.ensures c.len-count.ensures.lawful in
    let played = c.in_ok-played.played in
    let told = of_entry facts seen.managers entries e row (λ h. Some played ≡ (if is_begun h gw then Some (played_by facts h gw) else None)) lawful one are there c.in_ok-played.ensures.value in
    let is = cond_some (is_begun row.history gw) (played_by facts row.history gw) played (sym told) in
    let same = sym is.1 in
    let race = c.race-race.ensures.value entries are row there in
    let place = c.from-place.result - 1 in
    let at : place + 1 ≡ gw = omega (arith, from, c.from-place.ensures, c.get.ensures.value) in
    let low : place < gw = omega (arith, at) in
    let gross = played.score.gross in
    let gross_fits : to_z w32 (of_z w32 gross) ≡ gross = search rules in
    let points = gross_fits ∙ ap (λ (p : Played). p.score.gross) same in
    let rank = c.event_rank.ensures.value entries are (e, row) points in
    let so_far = get_or c.race-race.result.course.totals place (pos 0) in
    let total_fits : to_z w32 (of_z w32 so_far) ≡ so_far = search rules in
    let total = total_fits ∙ (race.totals place low ∙ ap (λ k. total_through facts row.history k) at) in
    let overall = race.ranks place low ∙ ap (λ k. overall_rank facts entries k (e, row)) at in
    (λ i. Some (record { bank = (same i).team.bank; points = points i; rank = rank i; total = total i; overall = overall i }))
    ∙ chosen (is_begun row.history gw) (Some (summary_of facts entries (e, row) gw)) None is.0
