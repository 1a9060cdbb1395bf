-- The records of a league's members stand one behind another.
use Rattle.std.proofs.Common.{◌≡◌, ◌∙◌, ℕ, true, not, ◌&&◌, ◌||◌, ◌==◌, get_or, ap, inl, inr, arith}
use Rattle.std.specs.List.Sorted.{IsPartitionedBy}
use Rattle.std.proofs.lemmas.Bool.{cases_eq}
use Rattle.std.proofs.lemmas.Bool.Decides.{nat_tests}
use Rattle.fpl_base.specs.declared.records.RecordKey.{RecordKey}
use Rattle.fpl_base.specs.Keeping.{KeysRise, precedes}
use Rattle.stored_records.specs.Stored.{Rows, stands_before}

-- a key is a member's where it does not stand before all of them, and not behind all of them
pub apart : (k : RecordKey) (l : ℕ) → (k.kind == 10 && k.a == l) ≡ (not (stands_before l k) && (stands_before l k || k.kind == 10 && k.a == l))
apart k l = grind (arith, nat_tests)

low_down : (x y : RecordKey) (l : ℕ) → precedes x y ≡ true → stands_before l y ≡ true → stands_before l x ≡ true
low_down x y l p h = grind (arith, nat_tests)

high_down : (x y : RecordKey) (l : ℕ) → precedes x y ≡ true → (stands_before l y || y.kind == 10 && y.a == l) ≡ true → (stands_before l x || x.kind == 10 && x.a == l) ≡ true
high_down x y l p h = grind (arith, nat_tests)

pub low_first : (rows : Rows) (l : ℕ) → KeysRise rows → IsPartitionedBy (λ row. stands_before l row.0) rows
low_first rows l rise i j d le lt before = elim (cases_eq i j) [
  | inl same ↦ ap (λ k. stands_before l (get_or rows k d).0) same ∙ before
  | inr other ↦ low_down (get_or rows i d).0 (get_or rows j d).0 l (rise i j d (omega (arith, other)) lt) before
]

pub high_first : (rows : Rows) (l : ℕ) → KeysRise rows → IsPartitionedBy (λ row. stands_before l row.0 || row.0.kind == 10 && row.0.a == l) rows
high_first rows l rise i j d le lt before = elim (cases_eq i j) [
  | inl same ↦ ap (λ k. stands_before l (get_or rows k d).0 || (get_or rows k d).0.kind == 10 && (get_or rows k d).0.a == l) same ∙ before
  | inr other ↦ high_down (get_or rows i d).0 (get_or rows j d).0 l (rise i j d (omega (arith, other)) lt) before
]
