use Rattle.std.proofs.Common.{◌≡◌, ◌+◌, rules, subst}
use Rattle.season_nodes.specs.Dependents.{gameweek_dependents}
use Rattle.season_nodes.specs.IndexFacts.{holders_in}
use Rattle.season_graph.specs.Followed.{Refreshes}
use Rattle.season_graph.proofs.holding.refresh_holders_numbered.Goals as goal

pub returns : goal.returns
returns c =
    let e : c.in-Some.gameweek ≡ c.args.number + 1 = search rules in
    subst (λ g. Refreshes c.args.books.now (gameweek_dependents (holders_in c.args.index.now c.args.player g) g) c.args.cells.now c.refresh_holders.new.cells) e c.in_ok-refresh_holders.ensures
