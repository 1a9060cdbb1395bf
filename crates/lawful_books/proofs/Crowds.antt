-- How many there are once one was put in, or each was changed.
use Rattle.std.proofs.Common.{◌≡◌, ◌≤◌, ◌<◌, ◌+◌, ◌==◌, ℕ, Bool, true, false, not, cond, List, [], ◌∷◌, ◌++◌, filter, length, map, nat_lt, arith, ap, subst, ◌∙◌, inl, inr, length-append, if◌then◌else◌}
use Rattle.std.specs.List.{AllByRecursion as Each}
use Rattle.std.proofs.lemmas.Bool.{cases_eq}
use Rattle.std.proofs.lemmas.Bool.Decides.{nat_tests}
use Rattle.std.proofs.lemmas.List.{length-map}
use Rattle.std.proofs.lemmas.List.Elements.{filter-append}
use Rattle.season_records.proofs.Determined.{Rise}
use Rattle.lawful_books.proofs.Found.{parts_pass, put_in}

pub fewer_pass : {X : Type 0} (p : X → Bool) (xs : List X) → length (filter p xs) ≤ length xs
fewer_pass p [] = omega arith
fewer_pass p (x ∷ xs) = grind (arith, nat_tests, fewer_pass p xs)

module _ {X : Type 0} (id : X → ℕ) where
  parts_fewer : (k : ℕ) (xs : List X) → length (filter (λ x. nat_lt (id x) k) xs) + length (filter (λ x. nat_lt k (id x)) xs) ≤ length xs
  parts_fewer k [] = omega arith
  parts_fewer k (x ∷ xs) = grind (arith, nat_tests, parts_fewer k xs)

  pub length_put : (xs : List X) (new : X) → length (put_in id xs new) ≤ length xs + 1
  length_put xs new =
      omega (arith, parts_fewer (id new) xs, length-append (filter (λ x. nat_lt (id x) (id new)) xs) (new ∷ filter (λ x. nat_lt (id new) (id x)) xs))

  pub length_taken : (k : ℕ) (xs : List X) → length (filter (λ x. nat_lt (id x) k) xs ++ filter (λ x. nat_lt k (id x)) xs) ≤ length xs
  length_taken k xs =
      omega (arith, parts_fewer k xs, length-append (filter (λ x. nat_lt (id x) k) xs) (filter (λ x. nat_lt k (id x)) xs))

  -- the ids of those that pass a test, but for one
  abbrev pub others : (X → Bool) → List X → ℕ → List ℕ
  others p xs k = filter (λ i. not (i == k)) (map id (filter p xs))

  pub length_others : (p : X → Bool) (xs : List X) (k : ℕ) → length (others p xs k) ≤ length (filter p xs)
  length_others p xs k = omega (arith, fewer_pass (λ i. not (i == k)) (map id (filter p xs)), length-map (filter p xs) id)

  -- with one put in
  pub put_pass : (p : X → Bool) (xs : List X) (new : X) → length (filter p (put_in id xs new)) ≤ length (others p xs (id new)) + cond (p new) 1 0
  put_pass p xs new =
      let front : List X = filter (λ x. nat_lt (id x) (id new)) xs in
      let back : List X = filter (λ x. nat_lt (id new) (id x)) xs in
      let both : length (filter p (put_in id xs new)) ≡ length (filter p front) + length (filter p (new ∷ back))
      = ap length (filter-append p front (new ∷ back)) ∙ length-append (filter p front) (filter p (new ∷ back)) in
      let first : length (filter p (new ∷ back)) ≡ length (filter p back) + cond (p new) 1 0 = one_more (p new) in
      omega (arith, both, first, parts_pass id p (id new) xs)
    where
      one_more : (b : Bool) → length (cond b (new ∷ filter p (filter (λ x. nat_lt (id new) (id x)) xs)) (filter p (filter (λ x. nat_lt (id new) (id x)) xs)))
          ≡ length (filter p (filter (λ x. nat_lt (id new) (id x)) xs)) + cond b 1 0
      one_more true = omega arith
      one_more false = omega arith

  module _ (p : X → Bool) (k : ℕ) (change : X → X) where
    -- with one changed, where none has its id
    unchanged_pass : (xs : List X) → Each (λ x. k < id x) xs → length (filter p (map (λ x. if id x == k then change x else x) xs)) ≤ length (others p xs k)
    unchanged_pass [] above = omega arith
    unchanged_pass (x ∷ xs) above = grind (arith, nat_tests, above.0, unchanged_pass xs above.1)

    -- where one has it
    pub changed_pass : (xs : List X) → Rise id xs → length (filter p (map (λ x. if id x == k then change x else x) xs)) ≤ length (others p xs k) + 1
    changed_pass [] up = omega arith
    changed_pass (x ∷ xs) up = elim (cases_eq (id x) k) [
      | inl same ↦
          let rest = unchanged_pass xs (subst (λ n. Each (λ y. n < id y) xs) same up.0) in
          grind (arith, nat_tests, same, rest)
      | inr other ↦ grind (arith, nat_tests, other, changed_pass xs up.1)
    ]

    -- where the changed one does not pass
    pub gone_pass : ((x : X) → p (change x) ≡ false) → (xs : List X) → length (filter p (map (λ x. if id x == k then change x else x) xs)) ≤ length (filter p xs)
    gone_pass fails [] = omega arith
    gone_pass fails (x ∷ xs) = grind (arith, nat_tests, fails x, gone_pass fails xs)
