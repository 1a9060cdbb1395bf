use Rattle.std.proofs.Common.{◌≡◌, ◌≤◌, ◌-◌, FitsSigned, rules, ap, subst, w32, ◌∙◌}
use Rattle.std.specs.Prelude.{◌-ℤ◌}
use Rattle.rule_book.specs.HistoryTransfers.{counted_through}
use Rattle.rule_book.specs.PlayerFigures.{position_in}
use Rattle.rule_book.specs.Players.{ArePlayers}
use Rattle.season_book.specs.LeagueViews.{net_in}
use Rattle.season_views.proofs.Histories.{in_books}
use Rattle.league_windows.proofs.Widths.{wide_difference}
use Rattle.league_windows.proofs.classic.standing_before.Goals as goal

pub returns-clause-value : goal.returns-clause-value
returns-clause-value g c entries are =
    let seen = c.args.seen.now in
    let facts = seen.facts in
    let e = c.args.row.now.0 in
    let total = c.args.row.now.1 in
    let last = facts.calendar.locked in
    let lawful : ArePlayers facts.players = subst ArePlayers c.players.ensures c.len-count.ensures.lawful in
    let one : 1 ≤ e = subst (λ n. 1 ≤ n) c.get-number.ensures.value c.get-number.ensures.range in
    let points : c.net-points.result ≡ net_in facts entries e last = c.net-points.ensures.value entries are ∙ ap (net_in facts entries e) c.requires.last in
    let transfers = in_books facts seen.managers e (λ h. c.counted_transfers-transfers.result ≡ counted_through h (last - 1)) lawful one
    (λ h stands. c.counted_transfers-transfers.ensures.history (position_in facts.players) h stands ∙ ap (λ n. counted_through h (n - 1)) (c.get.ensures.value ∙ c.requires.last)) entries are in
    let fits : FitsSigned w32 total = search rules in
    let also : FitsSigned w32 c.net-points.result = search rules in
    let less = wide_difference total c.net-points.result c.from.result c.from-2.result fits also c.from.ensures c.from-2.ensures ∙ ap (λ z. total -ℤ z) points in
    λ i. record { total = record { 0 = less i }; transfers = transfers i }
