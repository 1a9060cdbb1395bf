-- Lists by rising ids stay so where one is put in at its place, or taken out.
use Rattle.std.proofs.Common.{◌≡◌, ◌<◌, ◌≤◌, ◌+◌, ℕ, zero, suc, Bool, true, false, cond, List, [], ◌∷◌, ◌++◌, AllPairs, filter, map, get_or, length, nat_lt, arith, refl, sym, subst}
use Rattle.std.specs.List.{AllByRecursion as Each}
use Rattle.std.specs.Map.{keys_of}
use Rattle.std.proofs.lemmas.Bool.Decides.{nat_tests}
use Rattle.std.proofs.lemmas.Map.Keys.{sorted_from_strictly_increasing}
use Rattle.rule_book.specs.ById.{AreSorted, placed_at}
use Rattle.season_records.proofs.Determined.{Rise, sorted_rise}

module _ {X : Type 0} where
  each_filter : (P : X → Type 0) (p : X → Bool) (xs : List X) → Each P xs → Each P (filter p xs)
  each_filter P p [] all = tt
  each_filter P p (x ∷ xs) all =
      let more = each_filter P p xs all.1 in
      elim (p x) as (λ b. Each P (cond b (x ∷ filter p xs) (filter p xs))) [
        | true ↦ (all.0, more)
        | false ↦ more
      ]

  -- what passes a test that shows something
  each_passes : (P : X → Type 0) (p : X → Bool) → ((x : X) → p x ≡ true → P x) → (xs : List X) → Each P (filter p xs)
  each_passes P p shows [] = tt
  each_passes P p shows (x ∷ xs) =
      let more = each_passes P p shows xs in
      elim (p x) as (λ b. p x ≡ b → Each P (cond b (x ∷ filter p xs) (filter p xs))) [
        | true ↦ λ is. (shows x is, more)
        | false ↦ λ is. more
      ] refl

  each_append : (P : X → Type 0) (xs ys : List X) → Each P xs → Each P ys → Each P (xs ++ ys)
  each_append P [] ys all more = more
  each_append P (x ∷ xs) ys all more = (all.0, each_append P xs ys all.1 more)

  each_also : (P Q : X → Type 0) → ((x : X) → P x → Q x) → (xs : List X) → Each P xs → Each Q xs
  each_also P Q shows [] all = tt
  each_also P Q shows (x ∷ xs) all = (shows x all.0, each_also P Q shows xs all.1)

  each_at : (P : X → Type 0) (xs : List X) (j : ℕ) (d : X) → Each P xs → j < length xs → P (get_or xs j d)
  each_at P [] j d all lt = absurd (omega (arith, lt))
  each_at P (x ∷ xs) zero d all lt = all.0
  each_at P (x ∷ xs) (suc j) d all lt = each_at P xs j d all.1 (omega (arith, lt))

module _ {X : Type 0} (id : X → ℕ) where
  rise_filter : (p : X → Bool) (xs : List X) → Rise id xs → Rise id (filter p xs)
  rise_filter p [] up = tt
  rise_filter p (x ∷ xs) up =
      let more = rise_filter p xs up.1 in
      elim (p x) as (λ b. Rise id (cond b (x ∷ filter p xs) (filter p xs))) [
        | true ↦ (each_filter (λ y. id x < id y) p xs up.0, more)
        | false ↦ more
      ]

  rise_two : (k : ℕ) (xs ys : List X) → Rise id xs → Each (λ x. id x < k) xs → Each (λ y. k ≤ id y) ys → Rise id ys → Rise id (xs ++ ys)
  rise_two k [] ys up below above also = also
  rise_two k (x ∷ xs) ys up below above also =
      let under : id x < k = below.0 in (
        each_append (λ y. id x < id y) xs ys up.0 (each_also (λ y. k ≤ id y) (λ y. id x < id y) (λ y le. omega (arith, under, le)) ys above),
        rise_two k xs ys up.1 below.1 above also,
      )

  below_of : (k : ℕ) (xs : List X) → Each (λ x. id x < k) (filter (λ x. nat_lt (id x) k) xs)
  below_of k xs = each_passes (λ x. id x < k) (λ x. nat_lt (id x) k) (λ x is. grind (arith, nat_tests, is)) xs

  above_of : (k : ℕ) (xs : List X) → Each (λ x. k < id x) (filter (λ x. nat_lt k (id x)) xs)
  above_of k xs = each_passes (λ x. k < id x) (λ x. nat_lt k (id x)) (λ x is. grind (arith, nat_tests, is)) xs

  upper : (k : ℕ) (xs : List X) → Each (λ x. k ≤ id x) (filter (λ x. nat_lt k (id x)) xs)
  upper k xs = each_also (λ x. k < id x) (λ x. k ≤ id x) (λ x lt. omega (arith, lt)) (filter (λ x. nat_lt k (id x)) xs) (above_of k xs)

  -- one put in, in place of what had its id; or that taken out
  pub rise_put : (k : ℕ) (new : X) (xs : List X) → id new ≡ k → Rise id xs → Rise id (filter (λ x. nat_lt (id x) k) xs ++ new ∷ filter (λ x. nat_lt k (id x)) xs)
  rise_put k new xs is up =
      rise_two k (filter (λ x. nat_lt (id x) k) xs) (new ∷ filter (λ x. nat_lt k (id x)) xs)
      (rise_filter (λ x. nat_lt (id x) k) xs up) (below_of k xs) (omega (arith, is), upper k xs)
      (each_also (λ x. k < id x) (λ x. id new < id x) (λ x lt. omega (arith, is, lt)) (filter (λ x. nat_lt k (id x)) xs) (above_of k xs), rise_filter (λ x. nat_lt k (id x)) xs up)

  pub rise_taken : (k : ℕ) (xs : List X) → Rise id xs → Rise id (filter (λ x. nat_lt (id x) k) xs ++ filter (λ x. nat_lt k (id x)) xs)
  rise_taken k xs up =
      rise_two k (filter (λ x. nat_lt (id x) k) xs) (filter (λ x. nat_lt k (id x)) xs)
      (rise_filter (λ x. nat_lt (id x) k) xs up) (below_of k xs) (upper k xs) (rise_filter (λ x. nat_lt k (id x)) xs up)

  -- each changed, but for its id
  each_map : (f : X → X) → ((x : X) → id (f x) ≡ id x) → (k : ℕ) (xs : List X) → Each (λ x. k < id x) xs → Each (λ x. k < id x) (map f xs)
  each_map f keeps k [] all = tt
  each_map f keeps k (x ∷ xs) all = (subst (λ n. k < n) (sym (keeps x)) all.0, each_map f keeps k xs all.1)

  pub rise_map : (f : X → X) → ((x : X) → id (f x) ≡ id x) → (xs : List X) → Rise id xs → Rise id (map f xs)
  rise_map f keeps [] up = tt
  rise_map f keeps (x ∷ xs) up = (subst (λ n. Each (λ y. n < id y) (map f xs)) (sym (keeps x)) (each_map f keeps (id x) xs up.0), rise_map f keeps xs up.1)

  -- by places
  pub pairs_of : (xs : List X) → Rise id xs → AllPairs (λ a b. id a < id b) xs
  pairs_of [] up i j d lt within = absurd (omega (arith, within))
  pairs_of (x ∷ xs) up zero zero d lt within = absurd (omega (arith, lt))
  pairs_of (x ∷ xs) up zero (suc j) d lt within = each_at (λ y. id x < id y) xs j d up.0 (omega (arith, within))
  pairs_of (x ∷ xs) up (suc i) zero d lt within = absurd (omega (arith, lt))
  pairs_of (x ∷ xs) up (suc i) (suc j) d lt within = pairs_of xs up.1 i j d (omega (arith, lt)) (omega (arith, within))

-- rows
module _ {X : Type 0} where
  each_key : (k : ℕ) (rows : List (ℕ × X)) → Each (λ row. k < row.0) rows → Each (λ j. k < j) (keys_of rows)
  each_key k [] all = tt
  each_key k (row ∷ rows) all = (all.0, each_key k rows all.1)

  keys_rise : (rows : List (ℕ × X)) → Rise (λ row. row.0) rows → Rise (λ k. k) (keys_of rows)
  keys_rise [] up = tt
  keys_rise (row ∷ rows) up = (each_key row.0 rows up.0, keys_rise rows up.1)

  pub rise_sorted : (rows : List (ℕ × X)) → Rise (λ row. row.0) rows → AreSorted rows
  rise_sorted rows up = sorted_from_strictly_increasing (keys_of rows) (λ k within. pairs_of (λ k. k) (keys_of rows) (keys_rise rows up) k (k + 1) 0 (omega arith) within)

  pub put_sorted : (rows : List (ℕ × X)) (k : ℕ) (x : X) → AreSorted rows → AreSorted (placed_at rows k ((k, x) ∷ []))
  put_sorted rows k x sorted = rise_sorted (placed_at rows k ((k, x) ∷ [])) (rise_put (λ row. row.0) k (k, x) rows refl (sorted_rise rows sorted))

  pub taken_sorted : (rows : List (ℕ × X)) (k : ℕ) → AreSorted rows → AreSorted (placed_at rows k [])
  taken_sorted rows k sorted = rise_sorted (placed_at rows k []) (rise_taken (λ row. row.0) k rows (sorted_rise rows sorted))

pub none_sorted : (X : Type 0) → AreSorted {X = X} []
none_sorted X = rise_sorted {X = X} [] tt
