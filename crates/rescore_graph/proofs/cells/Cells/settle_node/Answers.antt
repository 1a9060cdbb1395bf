use Rattle.std.proofs.Common.{rules, ◌≡◌, ◌∙◌, sym, arith, subst}
use Rattle.rescore_graph.specs.States.{look, State, IsDirty}
use Rattle.rescore_graph.specs.Settling.{Progress, Remains}
use Rattle.rescore_graph.proofs.RaisedFacts.{dirty_some}
use Rattle.rescore_graph.proofs.RemainsFacts.{remains, remains_within}
use Rattle.rescore_graph.proofs.ProgressFacts.{evaluated_sound, next}
use Rattle.rescore_graph.proofs.WorkFacts.{apart}
use Rattle.rescore_graph.proofs.LevelFacts.{left_after}
use Rattle.rescore_graph.proofs.cells.Cells.settle_node.Goals as goal

pub returns-in_err-push-clause-remains : goal.returns-in_err-push-clause-remains
returns-in_err-push-clause-remains g c =
    let cmp = g.N.Ord.cmp in
    let graph = g.R.Rules.graph c.args.rules.now in
    let left : (s : State g.row.N.Denot g.row.V.Denot) → Progress graph s (look cmp c.args.self.now) c.args.evaluated.now → Remains graph s (look cmp c.args.self.now)
    = λ s p. remains graph (g.met.R.Rules.lawful c.args.rules.now c.requires.order) (apart cmp g.met.N.Ord.total g.met.R.Rules.exact) s (look cmp c.args.self.now) c.args.evaluated.now p in
    search rules

pub returns-in_err-evaluate-clause-remains : goal.returns-in_err-evaluate-clause-remains
returns-in_err-evaluate-clause-remains g c =
    let cmp = g.N.Ord.cmp in
    let graph = g.R.Rules.graph c.args.rules.now in
    let left : (s : State g.row.N.Denot g.row.V.Denot) → Progress graph s (look cmp c.args.self.now) c.args.evaluated.now → Remains graph s (look cmp c.evaluate.new.self)
    = λ s p. remains_within graph (g.met.R.Rules.lawful c.args.rules.now c.requires.order) (apart cmp g.met.N.Ord.total g.met.R.Rules.exact) s (look cmp c.args.self.now) c.args.evaluated.now p
    c.args.n (sym c.is_dirty.ensures ∙ c.if-is_dirty.true) (look cmp c.evaluate.new.self) c.in_err-evaluate.ensures.err in
    search rules

pub returns-in_ok-evaluate-clause-on : goal.returns-in_ok-evaluate-clause-on
returns-in_ok-evaluate-clause-on g c =
    let cmp = g.N.Ord.cmp in
    let graph = g.R.Rules.graph c.args.rules.now in
    let e = c.in_ok-evaluate.ensures.ok in λ s p.
    subst (λ xs. Progress graph s (look cmp c.evaluate.new.self) xs) (sym c.in_ok-push.ensures.ok)
    (next graph (g.met.R.Rules.lawful c.args.rules.now c.requires.order) (apart cmp g.met.N.Ord.total g.met.R.Rules.exact) c.args.n e.0 (look cmp c.args.self.now) e.1 (look cmp c.evaluate.new.self) c.requires.sound e.2 s c.args.evaluated.now p)

pub returns-in_ok-evaluate-clause-sound : goal.returns-in_ok-evaluate-clause-sound
returns-in_ok-evaluate-clause-sound g c =
    let cmp = g.N.Ord.cmp in
    let e = c.in_ok-evaluate.ensures.ok in
    evaluated_sound (g.R.Rules.graph c.args.rules.now) (g.met.R.Rules.lawful c.args.rules.now c.requires.order) (apart cmp g.met.N.Ord.total g.met.R.Rules.exact) c.args.n e.0 (look cmp c.args.self.now) e.1 (look cmp c.evaluate.new.self) c.requires.sound e.2

pub returns-in_ok-evaluate-clause-left : goal.returns-in_ok-evaluate-clause-left
returns-in_ok-evaluate-clause-left g c =
    let cmp = g.N.Ord.cmp in
    let e = c.in_ok-evaluate.ensures.ok in
    let graph = g.R.Rules.graph c.args.rules.now in
    let dirty : IsDirty (look cmp c.args.self.now) c.args.n = sym c.is_dirty.ensures ∙ c.if-is_dirty.true in
    let level : c.level.result ≡ graph.level c.args.n = c.level.ensures c.requires.order ((c.requires.sound.cells c.args.n).0 (dirty_some (look cmp c.args.self.now c.args.n) dirty)) in
    left_after graph (g.met.R.Rules.lawful c.args.rules.now c.requires.order) (apart cmp g.met.N.Ord.total g.met.R.Rules.exact) c.args.n e.0 (look cmp c.args.self.now) e.1 (look cmp c.evaluate.new.self) c.requires.sound e.2
    c.args.level (omega arith) c.requires.least
