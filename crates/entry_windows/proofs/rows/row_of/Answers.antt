use Rattle.std.proofs.Common.{◌≡◌, ◌<◌, ◌≤◌, ◌+◌, ◌-◌, rules, arith, get_or, of_z, pos, subst, ap, to_z, w32, ◌∙◌}
use Rattle.rule_book.specs.Players.{ArePlayers}
use Rattle.rule_book.specs.TeamScores.{points_of_slots}
use Rattle.season_book.specs.EntryRows.{benched, transfers_in}
use Rattle.season_book.specs.EntryTotals.{overall_rank, total_through}
use Rattle.entry_windows.specs.Told.{figures_in}
use Rattle.entry_windows.specs.declared.shapes.Played.{Played}
use Rattle.entry_windows.proofs.Own.{of_entry}
use Rattle.entry_windows.proofs.rows.row_of.Goals as goal

pub returns-clause-value : goal.returns-clause-value
returns-clause-value g c = λ entries are row there is race.
    let seen = c.args.seen.now in
    let e = c.args.entry in
    let gw = c.args.gameweek in
    let one : 1 ≤ e = search rules in
    let from : 1 ≤ gw = search rules in
    let lawful : ArePlayers seen.facts.players = subst ArePlayers c.players.ensures c.len-count.ensures.lawful in
    let place = c.from-place.result - 1 in
    let at : place + 1 ≡ gw = omega (arith, from, c.from-place.ensures, c.get.ensures.value) in
    let low : place < gw = omega (arith, at) in
    let transfers = of_entry seen.facts seen.managers entries e row (λ h. c.transfers_in.result ≡ transfers_in h gw) lawful one are there c.transfers_in.ensures.value in
    let bench = c.bench_points.ensures.value ∙ ap (λ (p : Played). points_of_slots (figures_in seen.facts p.team gw) (benched p.team p.score.eleven.slots)) is in
    let rank = race.ranks place low ∙ ap (λ k. overall_rank seen.facts entries k (e, row)) at in
    let total = race.totals place low ∙ ap (λ k. total_through seen.facts row.history k) at in
    let gross = c.args.played.now.score.gross in
    let gross_fits : to_z w32 (of_z w32 gross) ≡ gross = search rules in
    let bench_fits : to_z w32 (of_z w32 c.bench_points.result) ≡ c.bench_points.result = search rules in
    let so_far = get_or c.args.race.now.course.totals place (pos 0) in
    let total_fits : to_z w32 (of_z w32 so_far) ≡ so_far = search rules in
    let points = gross_fits ∙ ap (λ (p : Played). p.score.gross) is in
    let benched_points = bench_fits ∙ bench in
    let totals = total_fits ∙ total in
    λ i. record {
      bank = (is i).team.bank;
      event = gw;
      transfers = transfers i;
      cost = (is i).score.cost;
      rank = rank i;
      points = points i;
      bench = benched_points i;
      total = totals i;
    }
