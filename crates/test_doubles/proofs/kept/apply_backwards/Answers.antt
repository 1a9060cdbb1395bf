use Rattle.std.proofs.Common.{rules, arith, ◌∙◌, ap, sym}
use Rattle.fpl_base.specs.Keeping.{applied_one, map_of}
use Rattle.fpl_base.proofs.RowLemmas.{next_is}
use Rattle.test_doubles.proofs.kept.apply_backwards.Goals as goal

pub loop-change-preserved-in-Put : goal.loop-change-preserved-in-Put
loop-change-preserved-in-Put c =
    let is = c.put.ensures.map ∙ ap (applied_one (map_of c.loop-change.rows.items)) (sym c.in-Put.is) in
    (next_is c.loop-change.changes.items c.pop.new.self.items c.in-Some.change _ _ (search rules) is ∙ c.loop-change.invariant.0, (c.put.ensures.rise, omega (arith, c.put.ensures.room.0, c.put.ensures.room.1, c.loop-change.invariant.1.1, c.in-Some.ensures.len)))

pub loop-change-preserved : goal.loop-change-preserved
loop-change-preserved c =
    let is = c.delete.ensures.map ∙ ap (applied_one (map_of c.loop-change.rows.items)) (sym c.in-Delete.is) in
    (next_is c.loop-change.changes.items c.pop.new.self.items c.in-Some.change _ _ (search rules) is ∙ c.loop-change.invariant.0, (c.delete.ensures.rise, omega (arith, c.delete.ensures.room.0, c.delete.ensures.room.1, c.loop-change.invariant.1.1, c.in-Some.ensures.len)))
