use Rattle.std.proofs.Common.{◌∙◌}
use Rattle.rescore_graph.proofs.HashFacts.{found}
use Rattle.rescore_graph.proofs.cells.slot_of.Goals as goal

pub returns : goal.returns
returns g c = c.get.ensures.value ∙ found g.N.Ord.cmp g.N.PartialEq.eq g.met.N.Ord.matches_eq c.args.n c.args.slots.now.entries
