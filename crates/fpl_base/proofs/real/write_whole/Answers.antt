use Rattle.std.proofs.Common.{rules, arith, length, ◌≡◌, length-drop}
use Rattle.fpl_base.proofs.Written.{written_more, written_slice, written_front, written_kept, written_whole, on_ok, on_err}
use Rattle.fpl_base.proofs.real.write_whole.Goals as goal

pub loop-rest-preserved : goal.loop-rest-preserved
loop-rest-preserved g c = written_slice _ _ _ _ _ c.in-Ok.count _ c.loop-rest.invariant c.in-Ok.ensures.bytes (omega (arith, length-drop c.in-Ok.count c.loop-rest.rest.now))

pub returns-in_default-clause-failed : goal.returns-in_default-clause-failed
returns-in_default-clause-failed g c = written_front _ _ _ _ (written_more _ _ _ _ _ c.in-Ok.count c.loop-rest.invariant c.in-Ok.ensures.bytes)

pub returns-in_default-2-clause-failed : goal.returns-in_default-2-clause-failed
returns-in_default-2-clause-failed g c = written_front _ _ _ _ (written_kept _ _ _ _ _ c.loop-rest.invariant c.in_default.ensures.bytes)

pub returns-clause-ok : goal.returns-clause-ok
returns-clause-ok g c =
    let none_left : length c.loop-rest.rest.now ≡ 0 = search rules in
    on_ok c.map_err.result (written_whole _ _ _ _ (written_kept _ _ _ _ _ c.loop-rest.invariant c.flush.ensures.bytes) none_left)

pub returns-clause-failed : goal.returns-clause-failed
returns-clause-failed g c = on_err c.map_err.result (written_front _ _ _ _ (written_kept _ _ _ _ _ c.loop-rest.invariant c.flush.ensures.bytes))
