use Rattle.std.proofs.Common.{take}
use Rattle.season_graph.specs.Indexed.{PicksIndexed}
use Rattle.season_graph.proofs.indexing.index_picks.Given as goal

abbrev pub invariant-loop-pick : goal.invariant-loop-pick
invariant-loop-pick l = PicksIndexed l.entry l.gameweek (take l.pick-index l.picks) l.fn.index l.index
