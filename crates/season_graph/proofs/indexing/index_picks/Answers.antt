use Rattle.std.proofs.Common.{take, subst, sym}
use Rattle.season_graph.specs.Indexed.{PicksIndexed}
use Rattle.season_nodes.proofs.Lists.{take_next}
use Rattle.season_graph.proofs.IndexingFacts.{picks_more, picks_none}
use Rattle.season_graph.proofs.indexing.index_picks.Goals as goal

pub loop-pick-init : goal.loop-pick-init
loop-pick-init c = picks_none c.args.index.now c.args.entry c.args.gameweek

pub loop-pick-preserved : goal.loop-pick-preserved
loop-pick-preserved c =
    subst (λ ps. PicksIndexed c.args.entry c.args.gameweek ps c.args.index.now c.hold.new.self) (sym (take_next c.args.picks.now c.loop-pick.pick-index c.pick-item.result c.loop-pick-test.true c.pick-item.is))
    (picks_more c.args.index.now c.loop-pick.index c.hold.new.self c.args.entry c.args.gameweek (take c.loop-pick.pick-index c.args.picks.now) c.pick-item.result c.loop-pick.invariant c.in_ok-hold.ensures)
