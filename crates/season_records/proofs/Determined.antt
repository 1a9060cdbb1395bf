-- Rows by rising ids are the same where the same is found by each id, and lists where the same stands under each number.
use Rattle.std.proofs.Common.{◌≡◌, ◌<◌, ◌≤◌, ◌==◌, ℕ, zero, suc, true, false, cond, List, [], ◌∷◌, Some, None, All, AllPairs, find, arith, refl, sym, ap, ap₂, ◌∙◌, inl, inr, slice_get}
use Rattle.std.specs.List.{AllByRecursion, list_any}
use Rattle.std.specs.Map.{keys_of}
use Rattle.std.specs.Ordering.{nat_cmp}
use Rattle.std.specs.Option.{option_map}
use Rattle.std.specs.declared.cmp.Ordering.TheVariants.{Less}
use Rattle.std.proofs.lemmas.Bool.{cases_eq, cases_order}
use Rattle.std.proofs.lemmas.Bool.Decides.{nat_tests}
use Rattle.std.proofs.lemmas.List.Elements.{All-head, All-tail}
use Rattle.std.proofs.lemmas.Map.Keys.{sorted_head, sorted_tail}
use Rattle.std.proofs.lemmas.Option.{same_Some, none-some}
use Rattle.rule_book.specs.ById.{AreSorted, at_id}
use Rattle.rule_book.specs.Entries.{entry_in}
use Rattle.season_records.proofs.Finds.{at_number}

differs : (a b : ℕ) → (b ≡ a → ⊥) → (a == b) ≡ false
differs a b other = grind (arith, nat_tests, other)

same_number : (a b : ℕ) → (a == b) ≡ true → a ≡ b
same_number a b is = grind (arith, nat_tests, is)

itself : (a : ℕ) → (a == a) ≡ true
itself a = grind (arith, nat_tests)

module _ {X : Type 0} (id : X → ℕ) where
  -- the ids rise
  abbrev pub Rise : List X → Type 0
  Rise [] = Unit {0}
  Rise (x ∷ xs) = AllByRecursion (λ y. id x < id y) xs × Rise xs

  none_at : (k q : ℕ) (xs : List X) → q ≤ k → AllByRecursion (λ b. k < id b) xs → find (λ x. id x == q) xs ≡ None
  none_at k q [] le all = refl
  none_at k q (x ∷ xs) le all = ap (λ b. cond b (Some x) (find (λ x. id x == q) xs)) (differs (id x) q (λ same. omega (arith, all.0, le, same))) ∙ none_at k q xs le all.1

  here : (x : X) (xs : List X) → find (λ y. id y == id x) (x ∷ xs) ≡ Some x
  here x xs = ap (λ b. cond b (Some x) (find (λ y. id y == id x) xs)) (itself (id x))

  past : (x : X) (xs : List X) (q : ℕ) → (q ≡ id x → ⊥) → find (λ y. id y == q) (x ∷ xs) ≡ find (λ y. id y == q) xs
  past x xs q other = ap (λ b. cond b (Some x) (find (λ y. id y == q) xs)) (differs (id x) q other)

  pub determined : (xs ys : List X) → Rise xs → Rise ys → ((q : ℕ) → find (λ x. id x == q) xs ≡ find (λ x. id x == q) ys) → xs ≡ ys
  determined [] [] up down same = refl
  determined [] (y ∷ ys) up down same = absurd (none-some y (same (id y) ∙ here y ys))
  determined (x ∷ xs) [] up down same = absurd (none-some x (sym (same (id x)) ∙ here x xs))
  determined (x ∷ xs) (y ∷ ys) up down same = elim (cases_order (id x) (id y)) [
    | inl tied ↦
        let first : x ≡ y = same_Some x y (sym (here x xs) ∙ same (id x) ∙ ap (λ k. find (λ z. id z == k) (y ∷ ys)) tied ∙ here y ys) in
        let rest : xs ≡ ys = determined xs ys up.1 down.1 (λ q. elim (cases_eq q (id x)) [
          | inl is ↦ none_at (id x) q xs (omega (arith, is)) up.0 ∙ sym (none_at (id y) q ys (omega (arith, is, tied)) down.0)
          | inr other ↦ sym (past x xs q other) ∙ same q ∙ past y ys q (λ is. other (is ∙ sym tied))
        ]) in
        ap₂ (λ z zs. z ∷ zs) first rest
    | inr (inl lt) ↦
        absurd (none-some x (sym (past y ys (id x) (λ is. omega (arith, is, lt)) ∙ none_at (id y) (id x) ys (omega (arith, lt)) down.0) ∙ sym (same (id x)) ∙ here x xs))
    | inr (inr gt) ↦
        absurd (none-some y (sym (past x xs (id y) (λ is. omega (arith, is, gt)) ∙ none_at (id x) (id y) xs (omega (arith, gt)) up.0) ∙ same (id y) ∙ here y ys))
  ]

  pairs_tail : (x : X) (xs : List X) → AllPairs (λ a b. id a < id b) (x ∷ xs) → AllPairs (λ a b. id a < id b) xs
  pairs_tail x xs up i j d lt within = up (suc i) (suc j) d (omega arith) (omega arith)

  above_head : (x : X) (xs : List X) → AllPairs (λ a b. id a < id b) (x ∷ xs) → All (λ b. id x < id b) xs
  above_head x xs up k d within = up zero (suc k) d (omega arith) (omega arith)

  each_of : (k : ℕ) (xs : List X) → All (λ b. k < id b) xs → AllByRecursion (λ b. k < id b) xs
  each_of k [] all = tt
  each_of k (x ∷ xs) all = (All-head (λ b. k < id b) x xs all, each_of k xs (All-tail (λ b. k < id b) x xs all))

  pub rise_of : (xs : List X) → AllPairs (λ a b. id a < id b) xs → Rise xs
  rise_of [] up = tt
  rise_of (x ∷ xs) up = (each_of (id x) xs (above_head x xs up), rise_of xs (pairs_tail x xs up))

  -- what is found has the id
  pub found_id : (xs : List X) (q : ℕ) (x : X) → find (λ x. id x == q) xs ≡ Some x → id x ≡ q
  found_id [] q x at = absurd (none-some x at)
  found_id (y ∷ ys) q x at =
      elim (id y == q) as (λ b. (id y == q) ≡ b → cond b (Some y) (find (λ x. id x == q) ys) ≡ Some x → id x ≡ q) [
        | true ↦ λ is at. sym (ap id (same_Some y x at)) ∙ same_number (id y) q is
        | false ↦ λ is at. found_id ys q x at
      ] refl at

-- rows
module _ {X : Type 0} where
  each_less : (k : ℕ) (rows : List (ℕ × X)) → AllByRecursion (λ j. nat_cmp k j ≡ Less) (keys_of rows) → AllByRecursion (λ row. k < row.0) rows
  each_less k [] less = tt
  each_less k (row ∷ rows) less = (grind (arith, nat_tests, less.0), each_less k rows less.1)

  pub sorted_rise : (rows : List (ℕ × X)) → AreSorted rows → Rise (λ row. row.0) rows
  sorted_rise [] sorted = tt
  sorted_rise (row ∷ rows) sorted = (each_less row.0 rows (sorted_head nat_cmp row.0 (keys_of rows) sorted), sorted_rise rows (sorted_tail nat_cmp row.0 (keys_of rows) sorted))

  row_found : (rows : List (ℕ × X)) (q : ℕ) → find (λ row. row.0 == q) rows ≡ option_map (λ x. (q, x)) (at_id rows q)
  row_found [] q = refl
  row_found (row ∷ rows) q =
      elim (row.0 == q) as (λ b. (row.0 == q) ≡ b → cond b (Some row) (find (λ row. row.0 == q) rows) ≡ option_map (λ x. (q, x)) (cond b (Some row.1) (at_id rows q))) [
        | true ↦ λ is. λ i. Some (same_number row.0 q is i, row.1)
        | false ↦ λ is. row_found rows q
      ] refl

  pub rows_determined : (rows others : List (ℕ × X)) → AreSorted rows → AreSorted others → ((q : ℕ) → at_id rows q ≡ at_id others q) → rows ≡ others
  rows_determined rows others up down same =
      determined (λ row. row.0) rows others (sorted_rise rows up) (sorted_rise others down)
      (λ q. row_found rows q ∙ ap (option_map (λ x. (q, x))) (same q) ∙ sym (row_found others q))

  -- lists by number
  placed : (xs ys : List X) → ((n : ℕ) → slice_get xs n ≡ slice_get ys n) → xs ≡ ys
  placed [] [] same = refl
  placed [] (y ∷ ys) same = absurd (none-some y (same zero))
  placed (x ∷ xs) [] same = absurd (none-some x (sym (same zero)))
  placed (x ∷ xs) (y ∷ ys) same = ap₂ (λ z zs. z ∷ zs) (same_Some x y (same zero)) (placed xs ys (λ n. same (suc n)))

  pub numbers_determined : (xs ys : List X) → ((n : ℕ) → entry_in xs n ≡ entry_in ys n) → xs ≡ ys
  numbers_determined xs ys same = placed xs ys (λ n. sym (at_number xs n) ∙ same (suc n) ∙ at_number ys n)

-- numbers in order, by what is among them
pub members_determined : (xs ys : List ℕ) → AllPairs (λ m n. m < n) xs → AllPairs (λ m n. m < n) ys
    → ((q : ℕ) → list_any (λ m. m == q) xs ≡ list_any (λ m. m == q) ys) → xs ≡ ys
members_determined xs ys up down same =
    determined (λ m. m) xs ys (rise_of (λ m. m) xs up) (rise_of (λ m. m) ys down)
    (λ q. found xs q ∙ ap (λ b. cond b (Some q) None) (same q) ∙ sym (found ys q))
  where
    found : (ms : List ℕ) (q : ℕ) → find (λ m. m == q) ms ≡ cond (list_any (λ m. m == q) ms) (Some q) None
    found [] q = refl
    found (m ∷ ms) q = grind (arith, nat_tests, found ms q)
