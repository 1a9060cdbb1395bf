use Rattle.std.proofs.Common.{false, Some, sym, ap, is_some}
use Rattle.rescore_graph.specs.declared.cells.Slot.{Slot}
use Rattle.rescore_graph.specs.States.{stored}
use Rattle.rescore_graph.proofs.HashFacts.{rewrites, stored_some}
use Rattle.rescore_graph.proofs.cells.store_slot.Goals as goal

pub returns-in-Some : goal.returns-in-Some
returns-in-Some g c =
    let s = c.in-Some.slot.now in
    let w : Slot g.row.V.Denot = record { value = Some c.args.value; count = c.saturating_add-slot.result; dirty = false } in
    record {
      puts = rewrites g.N.Ord.cmp g.N.PartialEq.eq g.met.N.Ord.matches_eq (stored c.args.value) c.args.n c.args.slots.now.entries (c.get_mut.follows.lender w).entries s w
          c.in-Some.ensures.value (stored_some c.args.value s c.saturating_add-slot.result c.saturating_add-slot.ensures) ((c.get_mut.follows.holds w).3 (sym (ap is_some c.in-Some.ensures.value))).0;
    }
