use Rattle.std.proofs.Common.{◌≡◌, ◌≤◌, if◌then◌else◌, length, arith, rules}
use Rattle.season_nodes.specs.BookFacts.{facts_of}
use Rattle.season_nodes.specs.Held.{held_values}
use Rattle.season_nodes.specs.Season.{figures_held, is_there, no_figures}
use Rattle.season_nodes.specs.declared.nodes.Node.TheVariants as node
use Rattle.season_nodes.proofs.Lists.{made_whole}
use Rattle.season_rules.proofs.teams.team_figures.Goals as goal

pub returns-clause-value : goal.returns-clause-value
returns-clause-value g c =
    let picks = c.args.team.now.picks in
    let fifteen : length picks ≡ 15 = search rules in
    let done : 15 ≤ c.loop-place.place = search rules in
    made_whole (λ pick. if is_there (facts_of c.args.books.now) pick.player then figures_held (held_values c.args.cells.now (node.PlayerGw pick.player c.args.gameweek)) else no_figures) picks c.loop-place.figures c.loop-place.place
    (omega (arith, fifteen, done)) (omega (arith, c.loop-place.invariant.long, done)) c.loop-place.invariant.made
