-- The records of one kind among all, and the map of the first of some records.
use Rattle.std.proofs.Common.{◌≡◌, ◌<◌, ◌+◌, ◌∙◌, ◌&&◌, ◌==◌, ℕ, Bool, true, false, not, nat_le, nat_lt, IsTrue, List, [], ◌∷◌, ◌++◌, length, get_or, take, filter, Option, Some, refl, sym, ap, subst, inl, inr, arith, if◌then◌else◌}
use Rattle.std.specs.List.{All}
use Rattle.std.proofs.lemmas.Bool.{cases_eq, true≢false}
use Rattle.std.proofs.lemmas.Bool.Decides.{nat_tests}
use Rattle.std.specs.List.Sorted.{IsPartitionedBy}
use Rattle.std.proofs.lemmas.List.{append-nil, get_or_default, take_more}
use Rattle.std.proofs.lemmas.List.Elements.{filter_passes}
use Rattle.std.proofs.lemmas.List.Kept.{AllPairs-filter}
use Rattle.fpl_base.proofs.Around.{All-take_from}
use Rattle.fpl_base.proofs.KeyLemmas.{same_key}
use Rattle.fpl_base.proofs.RowLemmas.{AgreeBut, Before, put_is}
use Rattle.fpl_base.specs.Keeping.{KeysRise, applied_one, is_same_key, map_of, precedes}
use Rattle.fpl_base.specs.declared.records.Op.TheVariants.{Put}
use Rattle.fpl_base.specs.declared.records.RecordKey.{RecordKey as Key}
use Rattle.stored_records.specs.Stored.{Rows}
use Rattle.stored_records.proofs.Found.{found_at}

-- what a test of keys keeps of some records
abbrev pub kept_by : (Key → Bool) → Rows → Rows
kept_by keeps rows = filter (λ row. keeps row.0) rows

-- under a key that is kept stands the same among what is kept
pub map_kept : (keeps : Key → Bool) (rows : Rows) (k : Key) → keeps k ≡ true → map_of (kept_by keeps rows) k ≡ map_of rows k
map_kept keeps [] k is = refl
map_kept keeps (row ∷ rows) k is = by (keeps row.0) refl (is_same_key row.0 k) refl (map_kept keeps rows k is)
  where
    clash : keeps row.0 ≡ false → is_same_key row.0 k ≡ true → ⊥
    clash away same = true≢false (sym is ∙ (sym (ap keeps (same_key row.0 k same)) ∙ away))

    by : (b : Bool) → keeps row.0 ≡ b → (s : Bool) → is_same_key row.0 k ≡ s → map_of (kept_by keeps rows) k ≡ map_of rows k → map_of (kept_by keeps (row ∷ rows)) k ≡ map_of (row ∷ rows) k
    by true here s same rest = rw here (ap (λ (m : Option (List ℕ)). if is_same_key row.0 k then Some row.1 else m) rest)
    by false away false other rest = rw (away, other) rest
    by false away true same rest = absurd (clash away same)

pub rise_kept : (keeps : Key → Bool) (rows : Rows) → KeysRise rows → KeysRise (kept_by keeps rows)
rise_kept keeps rows rise = AllPairs-filter (λ x y. IsTrue (precedes x.0 y.0)) (λ row. keeps row.0) rows rise

-- a record of a part is kept, and is found among all
pub row_kept : (keeps : Key → Bool) (part : Rows) (i : ℕ) (row : Key × List ℕ) (rows : Rows) → part ≡ kept_by keeps rows → i < length part → row ≡ get_or part i row → keeps row.0 ≡ true
row_kept keeps part i row rows is lt at =
    ap (λ x. keeps x.0) at ∙ subst (All (λ x. keeps x.0 ≡ true)) (sym is) (filter_passes (λ x. keeps x.0) rows) i row lt

pub row_found : (keeps : Key → Bool) (part : Rows) (i : ℕ) (row : Key × List ℕ) (rows : Rows) → KeysRise rows → part ≡ kept_by keeps rows → i < length part → row ≡ get_or part i row → map_of rows row.0 ≡ Some row.1
row_found keeps part i row rows rise is lt at =
    let up : KeysRise part = subst KeysRise (sym is) (rise_kept keeps rows rise) in
    let here : map_of part row.0 ≡ Some row.1 = subst (λ x. map_of part x.0 ≡ Some x.1) (sym at) (found_at part i row up lt) in
    sym (ap (λ l. map_of l row.0) is ∙ map_kept keeps rows row.0 (row_kept keeps part i row rows is lt at)) ∙ here

-- the first records with one more
pub map_more : (rows : Rows) (i : ℕ) (row : Key × List ℕ) → KeysRise rows → i < length rows → row ≡ get_or rows i row → map_of (take (i + 1) rows) ≡ applied_one (map_of (take i rows)) (Put row.0 row.1)
map_more rows i row rise lt at =
    ap map_of (take_more rows i row lt ∙ ap (λ r. take i rows ++ r ∷ []) (sym at)) ∙ put_is (take i rows) [] row.0 row.1 (map_of (take i rows)) before agree
  where
    before : Before row.0 (take i rows)
    before = All-take_from (λ x. precedes x.0 row.0 ≡ true) rows i (omega (arith, lt)) (λ k d less.
        subst (λ (x : Key × List ℕ). precedes (get_or rows k d).0 x.0 ≡ true) (get_or_default rows i d row lt ∙ sym at) (rise k i d less lt))

    agree : AgreeBut row.0 (map_of (take i rows)) (map_of (take i rows ++ []))
    agree other away = ap (λ l. map_of l other) (sym (append-nil (take i rows)))

-- Where a kind begins and ends.

pub between_kinds : (k kind : ℕ) → (k == kind) ≡ (not (nat_lt k kind) && nat_le k kind)
between_kinds k kind = grind (arith, nat_tests)

pub below_first : (rows : Rows) (kind : ℕ) → KeysRise rows → IsPartitionedBy (λ row. nat_lt row.0.kind kind) rows
below_first rows kind rise i j d le lt before = elim (cases_eq i j) [
  | inl same ↦ ap (λ n. nat_lt (get_or rows n d).0.kind kind) same ∙ before
  | inr other ↦ down (get_or rows i d).0 (get_or rows j d).0 (rise i j d (omega (arith, other)) lt) before
]
  where
    down : (x y : Key) → precedes x y ≡ true → nat_lt y.kind kind ≡ true → nat_lt x.kind kind ≡ true
    down x y p h = grind (arith, nat_tests)

pub up_first : (rows : Rows) (kind : ℕ) → KeysRise rows → IsPartitionedBy (λ row. nat_le row.0.kind kind) rows
up_first rows kind rise i j d le lt before = elim (cases_eq i j) [
  | inl same ↦ ap (λ n. nat_le (get_or rows n d).0.kind kind) same ∙ before
  | inr other ↦ down (get_or rows i d).0 (get_or rows j d).0 (rise i j d (omega (arith, other)) lt) before
]
  where
    down : (x y : Key) → precedes x y ≡ true → nat_le y.kind kind ≡ true → nat_le x.kind kind ≡ true
    down x y p h = grind (arith, nat_tests)
