use Rattle.std.proofs.Common.{◌≡◌, ◌≤◌, ◌∙◌, ℕ, None, Some, ap, arith, nat_le, rules, slice_index, subst}
use Rattle.rule_book.specs.LeagueRows.{match_in}
use Rattle.rule_book.specs.Players.{ArePlayers}
use Rattle.season_book.specs.LeagueViews.{net_in}
use Rattle.season_nodes.specs.Held.{held_values}
use Rattle.season_nodes.specs.Season.{scores_held}
use Rattle.season_nodes.specs.declared.nodes.Node.TheVariants as node
use Rattle.league_windows.proofs.LockedShown.{locked_is, missed, open_is, passed}
use Rattle.league_windows.proofs.MatchHeld.{scores_due}
use Rattle.league_windows.proofs.head_matches.scores_of.Goals as goal

pub returns-in_err-locked-clause-value : goal.returns-in_err-locked-clause-value
returns-in_err-locked-clause-value g c = λ entries are.
    let facts = c.args.seen.now.facts in
    let league = c.args.league.now in
    let gw = c.args.at.0 in
    let place = c.args.at.1 in
    let one : 1 ≤ gw = omega (arith, c.get-start.ensures.range, c.get-start.ensures.value, c.start.ensures, c.requires.since) in
    let none : c.from_residual.result ≡ None = search rules in
    none ∙ missed (nat_le gw facts.calendar.locked) (Some (match_in (net_in facts entries) league (slice_index league.order place) place gw)) None
    (open_is gw c.from.result facts.calendar.locked c.from.ensures one c.in_err-locked.ensures)

pub returns-clause-value : goal.returns-clause-value
returns-clause-value g c = λ entries are.
    let seen = c.args.seen.now in
    let facts = seen.facts in
    let league = c.args.league.now in
    let l = c.args.id in
    let gw = c.args.at.0 in
    let place = c.args.at.1 in
    let one : 1 ≤ gw = omega (arith, c.get-start.ensures.range, c.get-start.ensures.value, c.start.ensures, c.requires.since) in
    let is = locked_is gw c.from.result facts.calendar.locked c.in_ok-locked.locked c.from.ensures one c.in_ok-locked.ensures in
    let lawful : ArePlayers facts.players = subst ArePlayers c.players.ensures c.len-count.ensures.lawful in
    ap Some (
    c.scores_held.ensures.value
    ∙ ap (λ k. scores_held (held_values c.args.cells.now (node.Match l k place))) is.1
    ∙ scores_due facts seen.managers seen.leagues seen.cups entries lawful c.rows_tell.ensures c.requires.kept.profile are c.args.cells.now l gw place league c.requires.kept.kept.evaluated
    c.requires.there one c.requires.since is.0 c.requires.within c.requires.first)
    ∙ passed (nat_le gw facts.calendar.locked) (Some (match_in (net_in facts entries) league (slice_index league.order place) place gw)) None is.0

pub returns-clause-cost : goal.returns-clause-cost
returns-clause-cost g c =
    let locked = c.args.seen.now.facts.calendar.locked in
    let gw = c.args.at.0 in
    let one : 1 ≤ gw = omega (arith, c.get-start.ensures.range, c.get-start.ensures.value, c.start.ensures, c.requires.since) in
    let is = locked_is gw c.from.result locked c.in_ok-locked.locked c.from.ensures one c.in_ok-locked.ensures in
    let here = passed {X = ℕ} (nat_le gw locked) 1 0 is.0 in
    let read = c.scores_held.ensures.cost in
    omega (arith, here, read)
