use Rattle.std.proofs.Common.{length, ap, subst, arith}
use Rattle.season_nodes.specs.Rounds.{order_in}
use Rattle.season_nodes.specs.declared.nodes.Node.TheVariants as node
use Rattle.season_graph.specs.declared.parts.Part.TheVariants as part
use Rattle.season_graph.proofs.PartFacts.{in_mapped, past_mapped}
use Rattle.season_graph.proofs.parts.match_at.Goals as goal

pub returns-then-place-order : goal.returns-then-place-order
returns-then-place-order c =
    let n = length (order_in c.args.books.now.leagues.now c.args.league) in
    past_mapped (λ i. part.One (node.Match c.args.league c.args.gameweek i)) n c.args.place (omega (arith, ap length c.order.ensures.value, c.if-place-order.true))

pub returns : goal.returns
returns c =
    let n = length (order_in c.args.books.now.leagues.now c.args.league) in
    in_mapped (λ i. part.One (node.Match c.args.league c.args.gameweek i)) n c.args.place (omega (arith, ap length c.order.ensures.value, c.if-place-order.false))
