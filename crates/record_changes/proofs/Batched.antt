-- A batch of one slot more.
use Rattle.std.proofs.Common.{◌≡◌, ◌+◌, ◌<◌, ◌≤◌, ◌++◌, ℕ, List, [], ◌∷◌, Option, get_or, length, subst, take, ap, sym, ◌∙◌}
use Rattle.std.specs.List.{All, AllByRecursion}
use Rattle.std.specs.Prelude.{IfSome}
use Rattle.std.proofs.lemmas.List.{map-append, take_all, take_more}
use Rattle.std.proofs.lemmas.List.Elements.{All-more, recursion_from_All}
use Rattle.fpl_base.specs.declared.records.Op.{Op}
use Rattle.season_records.specs.Ranges.{IsItem}
use Rattle.season_records.specs.declared.item.Item.{Item}
use Rattle.season_records.specs.declared.slot.Slot.{Slot}
use Rattle.season_records.specs.Touched.{batch, op_of}
use Rattle.record_changes.specs.Batches.{Keeps}

module _ (told : Slot → Option Item) (slots : List Slot) where
  abbrev InRange : Slot → Type 0
  InRange s = IfSome (told s) IsItem

  pub one_more : (i : ℕ) (d : Slot) (old new : List Op) (op : Op) → i < length slots → (old ≡ batch told (take i slots)) × All InRange (take i slots)
      → new ≡ old ++ op ∷ [] → Keeps (get_or slots i d) (told (get_or slots i d)) op → (new ≡ batch told (take (i + 1) slots)) × All InRange (take (i + 1) slots)
  one_more i d old new op within so_far next keeps = (
    next ∙ ap (λ (l : List Op). l ++ op ∷ []) so_far.0 ∙ ap (λ o. batch told (take i slots) ++ o ∷ []) keeps.0
        ∙ sym (map-append (λ s. op_of s (told s)) (take i slots) (get_or slots i d ∷ [])) ∙ ap (batch told) (sym (take_more slots i d within)),
    All-more InRange slots i d within so_far.1 keeps.1,
  )

  pub all_of_them : (i : ℕ) → length slots ≤ i → All InRange (take i slots) → AllByRecursion InRange slots
  all_of_them i end each = recursion_from_All InRange slots (subst (All InRange) (take_all i slots end) each)
