-- Rows by ascending entry: what a search among them finds, and one more in its place.
use Rattle.std.proofs.Common.{◌≡◌, ◌∙◌, sym, ap, refl, subst, ℕ, ◌+◌, ◌-◌, ◌<◌, ◌≤◌, ◌==◌, nat_lt, nat_le, Bool, true, false, cond, List, [], ◌∷◌, ◌++◌, length, get_or, take, drop, insert, inl, inr, arith, append_assoc, append-nil, length-drop, take-append-drop}
use Rattle.std.specs.List.{All, range_with_len, zip}
use Rattle.std.specs.List.Sorted.{IsNonDecreasingBy, IsPartitionedBy, IsPartitionPoint}
use Rattle.std.proofs.lemmas.Bool.{cases_eq, cases_lt}
use Rattle.std.proofs.lemmas.Bool.Decides.{nat_tests}
use Rattle.std.proofs.lemmas.List.{get_or-drop}
use Rattle.std.proofs.lemmas.List.Elements.{All-head, All-tail, All-weaker, filter-append}
use Rattle.std.proofs.lemmas.List.Sorted.{IsPartitionedBy-leb, IsPartitionedBy-ltb}
use Rattle.fpl_base.proofs.Around.{All-take_from, All-drop_from, AllPairs-middle}
use Rattle.leagues_and_cups.specs.Places.{Ascend, numbered, of_entry, places_of}

never_falls : (rows : List (ℕ × ℕ)) → Ascend rows → IsNonDecreasingBy (λ r. r.0) rows
never_falls rows up i j d le lt = elim (cases_eq i j) [
  | inl same ↦ omega (arith, ap (λ k. (get_or rows k d).0) same)
  | inr other ↦ up i j d (omega arith) lt
]

pub parted_below : (e : ℕ) (rows : List (ℕ × ℕ)) → Ascend rows → IsPartitionedBy (λ r. nat_lt r.0 e) rows
parted_below e rows up = IsPartitionedBy-ltb (λ r. r.0) rows e (never_falls rows up)

pub parted_to : (e : ℕ) (rows : List (ℕ × ℕ)) → Ascend rows → IsPartitionedBy (λ r. nat_le r.0 e) rows
parted_to e rows up = IsPartitionedBy-leb (λ r. r.0) rows e (never_falls rows up)

-- rows of one entry are all its rows, and rows of others none of them
all_of : (e : ℕ) (rows : List (ℕ × ℕ)) → All (λ r. (r.0 == e) ≡ true) rows → of_entry e rows ≡ rows
all_of e [] h = refl
all_of e (r ∷ rows) h = ap (λ b. cond b (r ∷ of_entry e rows) (of_entry e rows)) (All-head (λ x. (x.0 == e) ≡ true) r rows h) ∙ ap (λ l. r ∷ l) (all_of e rows (All-tail (λ x. (x.0 == e) ≡ true) r rows h))

none_of : (e : ℕ) (rows : List (ℕ × ℕ)) → All (λ r. (r.0 == e) ≡ false) rows → of_entry e rows ≡ []
none_of e [] h = refl
none_of e (r ∷ rows) h = ap (λ b. cond b (r ∷ of_entry e rows) (of_entry e rows)) (All-head (λ x. (x.0 == e) ≡ false) r rows h) ∙ none_of e rows (All-tail (λ x. (x.0 == e) ≡ false) r rows h)

-- a row in front of those of greater entries
before : (e : ℕ) (x : ℕ × ℕ) (rows : List (ℕ × ℕ)) → All (λ r. x.0 < r.0) rows → of_entry e (x ∷ rows) ≡ of_entry e rows ++ of_entry e (x ∷ [])
before e x rows above = elim (cases_eq x.0 e) [
  | inl same ↦
      let is : (x.0 == e) ≡ true = grind (arith, nat_tests) in
      let none = none_of e rows (All-weaker (λ r. x.0 < r.0) (λ r. (r.0 == e) ≡ false) (λ r h. grind (arith, nat_tests)) rows above) in
      rw (is, none) refl
  | inr other ↦
      let is : (x.0 == e) ≡ false = grind (arith, nat_tests) in
      rw is (sym (append-nil (of_entry e rows)))
]

-- a row behind those of entries that are not greater
module _ (rows : List (ℕ × ℕ)) (x : ℕ × ℕ) (at : ℕ) (within : at ≤ length rows) (parts : IsPartitionPoint (λ r. nat_le r.0 x.0 ≡ true) (λ r. nat_le r.0 x.0 ≡ false) rows at) where
  front : All (λ r. r.0 ≤ x.0) (take at rows)
  front = All-take_from (λ r. r.0 ≤ x.0) rows at within (λ k d lt. grind (arith, nat_tests, parts.0 k d))

  back : All (λ r. x.0 < r.0) (drop at rows)
  back = All-drop_from (λ r. x.0 < r.0) rows at (λ k d le lt. grind (arith, nat_tests, parts.1 k d))

  pub still_ascend : Ascend rows → Ascend (insert rows at x)
  still_ascend up = AllPairs-middle (λ a b. a.0 ≤ b.0) (take at rows) (drop at rows) x (subst Ascend (sym (take-append-drop at rows)) up) front
      (All-weaker (λ r. x.0 < r.0) (λ r. x.0 ≤ r.0) (λ r h. omega arith) (drop at rows) back)

  pub put_behind : (e : ℕ) → of_entry e (insert rows at x) ≡ of_entry e rows ++ of_entry e (x ∷ [])
  put_behind e =
      let p : ℕ × ℕ → Bool = λ row. row.0 == e in
      let one = of_entry e (x ∷ []) in
      filter-append p (take at rows) (x ∷ drop at rows)
      ∙ ap (λ l. of_entry e (take at rows) ++ l) (before e x (drop at rows) back)
      ∙ sym (append_assoc (of_entry e (take at rows)) (of_entry e (drop at rows)) one)
      ∙ ap (λ l. l ++ one) (sym (filter-append p (take at rows) (drop at rows)) ∙ ap (of_entry e) (take-append-drop at rows))

-- the rows of an entry stand together
module _ (rows : List (ℕ × ℕ)) (e first end : ℕ) (most : first ≤ length rows) (within : end ≤ length rows)
    (low : IsPartitionPoint (λ r. nat_lt r.0 e ≡ true) (λ r. nat_lt r.0 e ≡ false) rows first)
    (high : IsPartitionPoint (λ r. nat_le r.0 e ≡ true) (λ r. nat_le r.0 e ≡ false) rows end) where
  pub in_order : first ≤ end
  in_order = elim (cases_lt end first) [
    | inl less ↦ let a = low.0 end (0, 0) (omega arith) less in let b = high.1 end (0, 0) (omega arith) (omega arith) in grind (arith, nat_tests, a, b)
    | inr more ↦ omega arith
  ]

  abbrev rest : List (ℕ × ℕ)
  rest = drop first rows

  smaller : All (λ r. (r.0 == e) ≡ false) (take first rows)
  smaller = All-take_from (λ r. (r.0 == e) ≡ false) rows first most (λ k d lt. grind (arith, nat_tests, low.0 k d))

  its : All (λ r. (r.0 == e) ≡ true) (take (end - first) rest)
  its = All-take_from (λ r. (r.0 == e) ≡ true) rest (end - first) (let long : length (drop first rows) ≡ length rows - first = length-drop first rows in let order : first ≤ end = in_order in omega (arith, long, order))
      (λ k d lt. rw (get_or-drop first rows k d) (let a = low.1 (first + k) d (omega arith) (omega (arith, in_order)) in let b = high.0 (first + k) d (omega arith) (omega (arith, in_order)) in grind (arith, nat_tests, a, b)))

  greater : All (λ r. (r.0 == e) ≡ false) (drop (end - first) rest)
  greater = All-drop_from (λ r. (r.0 == e) ≡ false) rest (end - first)
      (λ k d le lt. rw (get_or-drop first rows k d) (let b = high.1 (first + k) d (omega (arith, in_order)) (omega (arith, length-drop first rows)) in grind (arith, nat_tests, b)))

  pub stand_together : take (end - first) (drop first rows) ≡ of_entry e rows
  stand_together =
      let p : ℕ × ℕ → Bool = λ row. row.0 == e in
      sym (
      sym (ap (of_entry e) (take-append-drop first rows)) ∙ filter-append p (take first rows) rest
      ∙ ap (λ l. l ++ of_entry e rest) (none_of e (take first rows) smaller)
      ∙ sym (ap (of_entry e) (take-append-drop (end - first) rest)) ∙ filter-append p (take (end - first) rest) (drop (end - first) rest)
      ∙ ap (λ l. l ++ of_entry e (drop (end - first) rest)) (all_of e (take (end - first) rest) its)
      ∙ ap (λ l. take (end - first) rest ++ l) (none_of e (drop (end - first) rest) greater)
      ∙ append-nil (take (end - first) rest)
      )

-- one slot more
zipped_more : (n : ℕ) (slots : List ℕ) (slot : ℕ) → zip (slots ++ slot ∷ []) (range_with_len n (length (slots ++ slot ∷ []))) ≡ zip slots (range_with_len n (length slots)) ++ (slot, n + length slots) ∷ []
zipped_more n [] slot = ap (λ k. (slot, k) ∷ []) (omega arith)
zipped_more n (s ∷ slots) slot = ap (λ l. (s, n) ∷ l) (zipped_more (n + 1) slots slot ∙ ap (λ k. zip slots (range_with_len (n + 1) (length slots)) ++ (slot, k) ∷ []) (omega arith))

pub places_more : (slots : List ℕ) (slot n e : ℕ) → length slots ≡ n → places_of (slots ++ slot ∷ []) e ≡ places_of slots e ++ of_entry e ((slot, n) ∷ [])
places_more slots slot n e long =
    let at : 0 + length slots ≡ n = omega (arith, long) in
    ap (of_entry e) (zipped_more 0 slots slot ∙ ap (λ k. numbered slots ++ (slot, k) ∷ []) at)
    ∙ filter-append (λ row. row.0 == e) (numbered slots) ((slot, n) ∷ [])
