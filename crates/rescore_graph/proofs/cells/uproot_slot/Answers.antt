use Rattle.std.proofs.Common.{None}
use Rattle.rescore_graph.proofs.HashFacts.{puts}
use Rattle.rescore_graph.proofs.cells.uproot_slot.Goals as goal

pub returns : goal.returns
returns g c = puts g.N.Ord.cmp g.N.PartialEq.eq g.met.N.Ord.matches_eq c.args.n c.args.slots.now.entries c.remove.new.self.entries None c.remove.ensures.updates.0
