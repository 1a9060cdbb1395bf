-- Lists that a loop fills place by place, and counts over more and more of a list.
use Rattle.std.proofs.Common.{◌≡◌, ◌<◌, ◌≤◌, ◌+◌, ◌*◌, ℕ, suc, Bool, true, false, ⊎_elim, List, Some, All, length, get_or, set, take, arith, refl, sym, ap, subst, ◌∙◌, if◌then◌else◌}
use Rattle.std.specs.List.{count_by, slice_get}
use Rattle.std.proofs.Math.Nat.{suc-mul}
use Rattle.std.proofs.lemmas.Bool.{cases_eq}
use Rattle.std.proofs.lemmas.List.{get_or-set_other, get_or-set_same, get_or_default}
use Rattle.std.proofs.lemmas.List.Sums.{count_by_more_no, count_by_more_yes}
use Rattle.std.proofs.lemmas.Option.{get_or_from_slice_get, slice_get_within}

module _ {X : Type 0} where
  -- the places before i have what they should, and now i too
  pub filled_more : (xs : List X) (i : ℕ) (x d : X) (f : ℕ → X) → i < length xs → x ≡ f i → ((k : ℕ) → k < i → get_or xs k d ≡ f k)
      → (k : ℕ) → k < i + 1 → get_or (set xs i x) k d ≡ f k
  filled_more xs i x d f within is before k low = ⊎_elim
      (λ same. ap (λ j. get_or (set xs i x) j d) same ∙ get_or-set_same xs i x d within ∙ is ∙ ap f (sym same))
      (λ other. get_or-set_other xs i k x d other ∙ before k (let apart = other in omega (arith, low, apart)))
      (cases_eq k i)

-- the places before i are raised by what they should be, and those from i on are as they were
module _ (old xs : List ℕ) (i x : ℕ) (f : ℕ → ℕ) (within : i < length xs) (rest : (k : ℕ) → i ≤ k → get_or xs k 0 ≡ get_or old k 0) where
  pub raised_more : x ≡ f i → ((k : ℕ) → k < i → get_or xs k 0 ≡ get_or old k 0 + f k) → (k : ℕ) → k < i + 1 → get_or (set xs i (get_or xs i 0 + x)) k 0 ≡ get_or old k 0 + f k
  raised_more is before =
      filled_more xs i (get_or xs i 0 + x) 0 (λ k. get_or old k 0 + f k) within (ap (λ n. n + x) (rest i (omega arith)) ∙ ap (λ n. get_or old i 0 + n) is) before

  pub rest_less : (k : ℕ) → i + 1 ≤ k → get_or (set xs i (get_or xs i 0 + x)) k 0 ≡ get_or old k 0
  rest_less k high = get_or-set_other xs i k (get_or xs i 0 + x) 0 (λ same. absurd (omega (arith, high, same))) ∙ rest k (omega (arith, high))

  pub few_more : x ≤ 1 → ((k : ℕ) → get_or xs k 0 ≤ get_or old k 0 + 1) → (k : ℕ) → get_or (set xs i (get_or xs i 0 + x)) k 0 ≤ get_or old k 0 + 1
  few_more one before k = ⊎_elim
      (λ same.
      let here : get_or (set xs i (get_or xs i 0 + x)) k 0 ≡ get_or xs i 0 + x = ap (λ j. get_or (set xs i (get_or xs i 0 + x)) j 0) same ∙ get_or-set_same xs i (get_or xs i 0 + x) 0 within in
      let was : get_or xs i 0 ≡ get_or old k 0 = rest i (omega arith) ∙ ap (λ j. get_or old j 0) (sym same) in
      omega (arith, here, was, one))
      (λ other. let is = get_or-set_other xs i k (get_or xs i 0 + x) 0 other in let was = before k in omega (arith, is, was))
      (cases_eq k i)

-- the same where the place is told otherwise
module _ {X : Type 0} where
  pub filled_at : (xs : List X) (i j : ℕ) (x d : X) (f : ℕ → X) → j ≡ i → i < length xs → x ≡ f i → ((k : ℕ) → k < i → get_or xs k d ≡ f k)
      → (k : ℕ) → k < i + 1 → get_or (set xs j x) k d ≡ f k
  filled_at xs i j x d f same within is before =
      subst (λ p. (k : ℕ) → k < i + 1 → get_or (set xs p x) k d ≡ f k) (sym same) (filled_more xs i x d f within is before)

module _ (old xs : List ℕ) (i j x : ℕ) (f : ℕ → ℕ) (same : j ≡ i) (within : i < length xs) (rest : (k : ℕ) → i ≤ k → get_or xs k 0 ≡ get_or old k 0) where
  pub raised_at : x ≡ f i → ((k : ℕ) → k < i → get_or xs k 0 ≡ get_or old k 0 + f k) → (k : ℕ) → k < i + 1 → get_or (set xs j (get_or xs j 0 + x)) k 0 ≡ get_or old k 0 + f k
  raised_at is before =
      subst (λ p. (k : ℕ) → k < i + 1 → get_or (set xs p (get_or xs p 0 + x)) k 0 ≡ get_or old k 0 + f k) (sym same) (raised_more old xs i x f within rest is before)

  pub rest_at : (k : ℕ) → i + 1 ≤ k → get_or (set xs j (get_or xs j 0 + x)) k 0 ≡ get_or old k 0
  rest_at = subst (λ p. (k : ℕ) → i + 1 ≤ k → get_or (set xs p (get_or xs p 0 + x)) k 0 ≡ get_or old k 0) (sym same) (rest_less old xs i x f within rest)

  pub few_at : x ≤ 1 → ((k : ℕ) → get_or xs k 0 ≤ get_or old k 0 + 1) → (k : ℕ) → get_or (set xs j (get_or xs j 0 + x)) k 0 ≤ get_or old k 0 + 1
  few_at one before =
      subst (λ p. (k : ℕ) → get_or (set xs p (get_or xs p 0 + x)) k 0 ≤ get_or old k 0 + 1) (sym same) (few_more old xs i x f within rest one before)

-- none is more than n + 1 where none was more than n
pub all_few : (old xs : List ℕ) (n : ℕ) → length xs ≡ length old → ((k : ℕ) → get_or xs k 0 ≤ get_or old k 0 + 1) → All (λ rank. rank ≤ n) old → All (λ rank. rank ≤ n + 1) xs
all_few old xs n long few all k d within =
    let is = get_or_default xs k d 0 within in
    let was = all k 0 (omega (arith, long, within)) in
    let one = few k in
    omega (arith, is, was, one)

module _ {X : Type 0} (p : X → Bool) where
  by_test : (xs : List X) (i : ℕ) (x : X) (b : Bool) → p x ≡ b → i < length xs → get_or xs i x ≡ x → count_by p (take (i + 1) xs) ≡ count_by p (take i xs) + (if b then 1 else 0)
  by_test xs i x true passes within is = count_by_more_yes p xs i x within (ap p is ∙ passes)
  by_test xs i x false fails within is = let none = count_by_more_no p xs i x within (ap p is ∙ fails) in omega (arith, none)

  -- one more of a list is counted
  pub counted_more : (xs : List X) (i : ℕ) (x : X) → slice_get xs i ≡ Some x → count_by p (take (i + 1) xs) ≡ count_by p (take i xs) + (if p x then 1 else 0)
  counted_more xs i x at = by_test xs i x (p x) refl (slice_get_within xs i x at) (get_or_from_slice_get xs i x x at)

-- one time more
pub times_more : (p m : ℕ) → (p + 1) * m ≡ p * m + m
times_more p m = let next : p + 1 ≡ suc p = omega arith in ap (λ k. k * m) next ∙ suc-mul p m
