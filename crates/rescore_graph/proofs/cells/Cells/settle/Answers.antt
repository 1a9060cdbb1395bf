use Rattle.std.proofs.Common.{◌<◌, ◌+◌, [], ap, arith, sym, subst, ◌∙◌}
use Rattle.std.specs.List.{list_any}
use Rattle.std.specs.BTreeMap.{is_at}
use Rattle.rescore_graph.specs.Graph.{Among}
use Rattle.rescore_graph.specs.States.{look, is_dirty}
use Rattle.rescore_graph.specs.Settling.{Settles, Progress, Remains}
use Rattle.rescore_graph.specs.Work.{AreAll}
use Rattle.rescore_graph.proofs.RemainsFacts.{remains}
use Rattle.rescore_graph.proofs.ProgressFacts.{begins, ends}
use Rattle.rescore_graph.proofs.WorkFacts.{apart, all_listed}
use Rattle.rescore_graph.proofs.LevelFacts.{clean_above, least_levels}
use Rattle.rescore_graph.proofs.cells.Cells.settle.Goals as goal

pub returns-in_err-work-clause-remains : goal.returns-in_err-work-clause-remains
returns-in_err-work-clause-remains g c =
    let cmp = g.N.Ord.cmp in
    let graph = g.R.Rules.graph c.args.rules.now in
    let law = g.met.R.Rules.lawful c.args.rules.now c.requires.order in
    let s = look cmp c.args.self.now in
    let distinct = apart cmp g.met.N.Ord.total g.met.R.Rules.exact in
    remains graph law distinct s s [] (begins graph law distinct s c.requires.sound)

pub levels-init : goal.levels-init
levels-init g c =
    let cmp = g.N.Ord.cmp in
    let graph = g.R.Rules.graph c.args.rules.now in
    let s = look cmp c.args.self.now in
    let listed : AreAll s c.in_ok-work.work = subst (AreAll s) (sym c.in_ok-work.ensures)
    (all_listed cmp g.met.N.Ord.total g.met.R.Rules.exact s c.as_slice.result.now
    (λ n d. ap (list_any (is_at (cmp n))) c.as_slice.ensures.value ∙ c.self.invariant n (ap (λ e. is_dirty (look cmp e n)) c.self.view_is ∙ d))) in record {
      progress = subst (λ xs. Progress (g.R.Rules.graph c.args.rules.now) (look g.N.Ord.cmp c.args.self.now) (look g.N.Ord.cmp c.args.self.now) xs) (sym c.new-evaluated.ensures)
          (begins (g.R.Rules.graph c.args.rules.now) (g.met.R.Rules.lawful c.args.rules.now c.requires.order) (apart g.N.Ord.cmp g.met.N.Ord.total g.met.R.Rules.exact) (look g.N.Ord.cmp c.args.self.now) c.requires.sound);
      all = listed;
      least = least_levels (g.R.Rules.graph c.args.rules.now) (look g.N.Ord.cmp c.args.self.now) c.requires.sound c.in_ok-work.work (listed) 0 c.level_from-level.result
          (λ q a. c.level_from-level.ensures.least q (subst (λ xs. Among xs q) (sym c.as_slice-2.ensures) a)) (λ d k. omega arith);
      most = c.level_from-level.ensures.most;
      cost = omega arith;
    }

pub returns-in_err-settle_level-clause-remains : goal.returns-in_err-settle_level-clause-remains
returns-in_err-settle_level-clause-remains g c = c.in_err-settle_level.ensures.remains (look g.N.Ord.cmp c.args.self.now) c.levels.invariant.progress

pub levels-preserved : goal.levels-preserved
levels-preserved g c = let cmp = g.N.Ord.cmp in let graph = g.R.Rules.graph c.args.rules.now in
    let on = c.in_ok-settle_level.ensures.on (look cmp c.args.self.now) c.levels.invariant.progress in record {
      progress = on;
      all = c.in_ok-settle_level.ensures.all;
      least = least_levels graph (look cmp c.settle_level.new.self) on.sound c.settle_level.new.work c.in_ok-settle_level.ensures.all (c.levels.level + 1) c.level_from-level-in-levels.result
          (λ q a. c.level_from-level-in-levels.ensures.least q (subst (λ xs. Among xs q) (sym c.as_slice-in-levels.ensures) a)) (λ d k. let h : c.levels.level < graph.level d = c.in_ok-settle_level.ensures.past d k in omega arith);
      most = c.level_from-level-in-levels.ensures.most;
      cost = omega arith;
    }

pub returns-clause-settles : goal.returns-clause-settles
returns-clause-settles g c =
    let cmp = g.N.Ord.cmp in
    let graph = g.R.Rules.graph c.args.rules.now in
    let law = g.met.R.Rules.lawful c.args.rules.now c.requires.order in
    let s = look cmp c.args.self.now in
    subst (λ es. Settles graph s (look cmp es) c.levels.evaluated) (sym c.self-2.view_is)
    (ends graph law (apart cmp g.met.N.Ord.total g.met.R.Rules.exact) s (look cmp c.levels.self) c.levels.evaluated c.levels.invariant.progress
    (clean_above graph (look cmp c.levels.self) c.levels.level (omega arith) c.levels.invariant.least))

pub returns-clause-remains : goal.returns-clause-remains
returns-clause-remains g c =
    let cmp = g.N.Ord.cmp in
    let graph = g.R.Rules.graph c.args.rules.now in
    let law = g.met.R.Rules.lawful c.args.rules.now c.requires.order in
    let s = look cmp c.args.self.now in
    subst (λ es. Remains graph s (look cmp es)) (sym c.self-2.view_is)
    (remains graph law (apart cmp g.met.N.Ord.total g.met.R.Rules.exact) s (look cmp c.levels.self) c.levels.evaluated c.levels.invariant.progress)
