use Rattle.rescore_graph.specs.States.{planted}
use Rattle.rescore_graph.proofs.HashFacts.{puts}
use Rattle.rescore_graph.proofs.cells.plant_slot.Goals as goal

pub returns-clause-ok : goal.returns-clause-ok
returns-clause-ok g c = puts g.N.Ord.cmp g.N.PartialEq.eq g.met.N.Ord.matches_eq c.args.n c.args.slots.now.entries c.insert.new.self.entries planted c.in_ok-insert.ensures.updates.0
