use Rattle.rescore_graph.specs.States.{look, is_dirty}
use Rattle.rescore_graph.proofs.WorkFacts.{puts_raised, all_pushed, all_kept, was_dirty}
use Rattle.rescore_graph.proofs.cells.Cells.mark_one.Goals as goal

pub returns-in_err-push-clause-raised : goal.returns-in_err-push-clause-raised
returns-in_err-push-clause-raised g c = puts_raised g.N.Ord.cmp g.met.N.Ord.total g.met.R.Rules.exact c.args.n (look g.N.Ord.cmp c.args.self.now) (look g.N.Ord.cmp c.raise.new.self) c.in_ok-raise.ensures.ok

pub returns-in_ok-push-clause-raised : goal.returns-in_ok-push-clause-raised
returns-in_ok-push-clause-raised g c = puts_raised g.N.Ord.cmp g.met.N.Ord.total g.met.R.Rules.exact c.args.n (look g.N.Ord.cmp c.args.self.now) (look g.N.Ord.cmp c.raise.new.self) c.in_ok-raise.ensures.ok

pub returns-in_ok-push-clause-work : goal.returns-in_ok-push-clause-work
returns-in_ok-push-clause-work g c = all_pushed g.N.Ord.cmp g.met.N.Ord.total g.met.R.Rules.exact c.args.n (look g.N.Ord.cmp c.args.self.now) (look g.N.Ord.cmp c.raise.new.self) c.in_ok-raise.ensures.ok
    c.args.work.now c.requires.all c.push.new.self c.in_ok-push.ensures.ok

pub returns-else-branch-clause-raised : goal.returns-else-branch-clause-raised
returns-else-branch-clause-raised g c = puts_raised g.N.Ord.cmp g.met.N.Ord.total g.met.R.Rules.exact c.args.n (look g.N.Ord.cmp c.args.self.now) (look g.N.Ord.cmp c.raise.new.self) c.in_ok-raise.ensures.ok

pub returns-else-branch-clause-work : goal.returns-else-branch-clause-work
returns-else-branch-clause-work g c = all_kept g.N.Ord.cmp g.met.N.Ord.total g.met.R.Rules.exact c.args.n (look g.N.Ord.cmp c.args.self.now) (look g.N.Ord.cmp c.raise.new.self) c.in_ok-raise.ensures.ok
    c.args.work.now c.requires.all (was_dirty (is_dirty (look g.N.Ord.cmp c.args.self.now c.args.n)) c.in_ok-raise.field-0 c.in_ok-raise.ensures.clean c.if-branch.false)
