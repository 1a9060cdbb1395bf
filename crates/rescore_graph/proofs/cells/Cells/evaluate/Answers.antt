use Rattle.rescore_graph.specs.States.{look, stored}
use Rattle.rescore_graph.proofs.ReplayFacts.{inputs_replayed}
use Rattle.rescore_graph.proofs.WorkFacts.{all_stored, put_here, put_others}
use Rattle.rescore_graph.proofs.cells.Cells.evaluate.Goals as goal

pub eval-requires-clause-inputs : goal.eval-requires-clause-inputs
eval-requires-clause-inputs g c = inputs_replayed (g.R.Rules.graph c.args.rules.now) (g.met.R.Rules.lawful c.args.rules.now c.requires.order) (look g.N.Ord.cmp c.args.self.now) c.requires.sound c.args.n c.requires.dirty c.requires.least

pub returns-clause-ok : goal.returns-clause-ok
returns-clause-ok g c =
    let cmp = g.N.Ord.cmp in (
      c.in_ok-value.value,
      look cmp c.spread.new.self,
      record {
        dirty = c.requires.dirty;
        least = c.requires.least;
        value = c.in_ok-value.ensures.value;
        raised = c.spread.ensures.raised;
        change = c.in_ok-spread.ensures.change;
        calm = c.spread.ensures.calm;
        here = put_here cmp g.met.N.Ord.total g.met.R.Rules.exact c.args.n (look cmp c.spread.new.self) (look cmp c.store.new.self) (stored c.in_ok-value.value (look cmp c.spread.new.self c.args.n)) c.store.ensures.puts;
        others = put_others cmp g.met.N.Ord.total g.met.R.Rules.exact c.args.n (look cmp c.spread.new.self) (look cmp c.store.new.self) (stored c.in_ok-value.value (look cmp c.spread.new.self c.args.n)) c.store.ensures.puts;
      },
    )

pub returns-clause-work : goal.returns-clause-work
returns-clause-work g c = let cmp = g.N.Ord.cmp in
    all_stored cmp g.met.N.Ord.total g.met.R.Rules.exact c.args.n c.in_ok-value.value (look cmp c.spread.new.self) (look cmp c.store.new.self) c.store.ensures.puts c.spread.new.work c.in_ok-spread.ensures.work
