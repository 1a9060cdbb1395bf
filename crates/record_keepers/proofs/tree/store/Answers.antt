use Rattle.std.proofs.Common.{◌∙◌, ap, sym, subst, arith}
use Rattle.std.specs.List.{All}
use Rattle.std.proofs.lemmas.List.Elements.{All-same}
use Rattle.fpl_base.specs.Keeping.{applied_one}
use Rattle.record_keepers.specs.Records.{bodies_in, undone, HasPlace}
use Rattle.record_keepers.proofs.TreeLemmas.{applied_more, former_more, places_more}
use Rattle.record_keepers.proofs.tree.store.Goals as goal

pub put_back-requires-clause-places : goal.put_back-requires-clause-places
put_back-requires-clause-places c =
    subst (λ entries. All (HasPlace entries) c.loop-op.former.items) (sym c.in-Err.ensures.kept) c.loop-op.invariant.places

pub loop-op-preserved : goal.loop-op-preserved
loop-op-preserved c =
    let at = c.loop-op in
    let old = at.tree.entries in
    let new = c.change.new.tree.entries in
    let first = bodies_in c.args.tree.now.entries in
    let was = c.in-Ok.was in
    let pushed = c.push_reserved.ensures.items in
    record {
      stored =
          c.in-Ok.ensures.stored
          ∙ ap (λ m. applied_one m c.op-item.result) at.invariant.stored
          ∙ sym (applied_more first c.args.ops.now at.op-index c.op-item.result c.loop-op-test.true c.op-item.is);
      before = ap (undone (bodies_in new)) pushed ∙ former_more first old new at.former.items was c.in-Ok.ensures.was at.invariant.before;
      places = All-same (HasPlace new) _ _ pushed (places_more old new at.former.items was c.in-Ok.ensures.was at.invariant.places);
      order = c.change.ensures.order;
      size = omega (arith, c.push_reserved.ensures.len);
      room = omega (arith, c.push_reserved.ensures.capacity);
    }
