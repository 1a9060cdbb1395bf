use Rattle.std.proofs.Common.{◌∙◌}
use Rattle.record_keepers.proofs.TreeLemmas.{former_less, places_less}
use Rattle.record_keepers.proofs.tree.put_back.Goals as goal

pub loop-was-preserved : goal.loop-was-preserved
loop-was-preserved c =
    let at = c.loop-was in
    record {
      map = former_less at.tree.entries c.fill.new.tree.entries at.former.items c.pop.new.self.items c.in-Some.was c.in-Some.ensures.items at.invariant.places c.fill.ensures.filled ∙ at.invariant.map;
      places = places_less at.tree.entries c.fill.new.tree.entries at.former.items c.pop.new.self.items c.in-Some.was c.in-Some.ensures.items at.invariant.places c.fill.ensures.filled;
      order = c.fill.ensures.order;
    }
