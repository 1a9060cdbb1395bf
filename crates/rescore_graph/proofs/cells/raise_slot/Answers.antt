use Rattle.std.proofs.Common.{true, not, refl, sym, ◌∙◌, ap, is_some}
use Rattle.rescore_graph.specs.declared.cells.Slot.{Slot}
use Rattle.rescore_graph.specs.States.{is_dirty, raise}
use Rattle.rescore_graph.proofs.HashFacts.{found, rewrites}
use Rattle.rescore_graph.proofs.cells.raise_slot.Goals as goal

pub returns-in-Some-clause-puts : goal.returns-in-Some-clause-puts
returns-in-Some-clause-puts g c =
    let s = c.in-Some.slot.now in
    let w : Slot g.row.V.Denot = record { value = s.value; count = s.count; dirty = true } in
    rewrites g.N.Ord.cmp g.N.PartialEq.eq g.met.N.Ord.matches_eq raise c.args.n c.args.slots.now.entries (c.get_mut.follows.lender w).entries s w
    c.in-Some.ensures.value refl ((c.get_mut.follows.holds w).3 (sym (ap is_some c.in-Some.ensures.value))).0

pub returns-in-Some-clause-clean : goal.returns-in-Some-clause-clean
returns-in-Some-clause-clean g c = ap (λ o. not (is_dirty o)) (c.in-Some.ensures.value ∙ found g.N.Ord.cmp g.N.PartialEq.eq g.met.N.Ord.matches_eq c.args.n c.args.slots.now.entries)
