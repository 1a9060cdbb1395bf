use Rattle.std.proofs.Common.{◌≤◌, ◌≡◌, ◌++◌, [], ◌∷◌, length, subst, sym, true, false, nat_le}
use Rattle.std.specs.List.Sorted.{IsPartitionPoint}
use Rattle.leagues_and_cups.specs.Places.{Ascend, of_entry}
use Rattle.leagues_and_cups.proofs.PlaceFacts.{still_ascend, put_behind}
use Rattle.leagues_and_cups.proofs.drawn.put_row.Goals as goal

within : (c : goal.In_ok-insert) → c.end_of-at.result ≤ length c.args.rows.now.items
within c = rw c.deref.ensures.value at c.end_of-at.ensures.within

parts : (c : goal.In_ok-insert) → IsPartitionPoint (λ r. nat_le r.0 c.args.entry ≡ true) (λ r. nat_le r.0 c.args.entry ≡ false) c.args.rows.now.items c.end_of-at.result
parts c = rw c.deref.ensures.value at c.end_of-at.ensures.parts

pub returns-clause-ascend : goal.returns-clause-ascend
returns-clause-ascend c =
    subst Ascend (sym c.in_ok-insert.ensures.items) (still_ascend c.args.rows.now.items (c.args.entry, c.args.place) c.end_of-at.result (within c) (parts c) c.requires.ascend)

pub returns-clause-put : goal.returns-clause-put
returns-clause-put c e =
    subst (λ rows. of_entry e rows ≡ of_entry e c.args.rows.now.items ++ of_entry e ((c.args.entry, c.args.place) ∷ [])) (sym c.in_ok-insert.ensures.items)
    (put_behind c.args.rows.now.items (c.args.entry, c.args.place) c.end_of-at.result (within c) (parts c) e)
