use Rattle.season_nodes.proofs.OrderFacts.{by_order}
use Rattle.season_nodes.proofs.laws.order_of_one.Goals as goal

pub returns : goal.returns
returns c =
    let order = c.order-order in
    by_order c.args.league.now order.result.now order.ensures.value order.ensures.differ order.ensures.drawn
