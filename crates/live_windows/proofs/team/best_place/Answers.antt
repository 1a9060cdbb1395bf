use Rattle.std.proofs.Common.{arith, pos}
use Rattle.squad_rules.specs.Elevens.{Row}
use Rattle.fpl_base.specs.declared.kinds.Position.TheVariants.{Keeper}
use Rattle.live_windows.proofs.Tops.{best_is_top, one_more}
use Rattle.live_windows.proofs.team.best_place.Goals as goal

pub loop-place-init : goal.loop-place-init
loop-place-init c = record { within = c.requires.some; best = λ k d lt. absurd (omega (arith, lt)) }

pub loop-place-preserved : goal.loop-place-preserved
loop-place-preserved c =
    let none : Row = (0, Keeper, pos 0) in
    let more = one_more c.args.rows.now none c.loop-place.place c.loop-place.best c.loop-place-test.true c.loop-place.invariant.within c.loop-place.invariant.best
    c.better_place-best.result (c.better_place-best.ensures none) in
    record { within = more.0; best = more.1 }

pub returns-clause-best : goal.returns-clause-best
returns-clause-best c = λ e.
    best_is_top c.args.rows.now (0, Keeper, pos 0) e c.loop-place.place c.loop-place.best c.loop-place-test.false c.loop-place.invariant.within c.requires.differ c.loop-place.invariant.best
