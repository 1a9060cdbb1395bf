-- What is found by id, or by number, once another was put in or changed.
use Rattle.std.proofs.Common.{◌≡◌, ◌+◌, ◌-◌, ◌<◌, ◌≤◌, ◌==◌, ℕ, zero, suc, Bool, true, false, ◌||◌, cond, List, [], ◌∷◌, ◌++◌, Option, Some, None, filter, find, map, length, nat_lt, nat_eq, arith, refl, sym, ap, ◌∙◌, ⊎_elim, ◌⊎◌, inl, inr, if◌then◌else◌, slice_get}
use Rattle.std.specs.List.{list_any}
use Rattle.std.specs.Option.{option_or}
use Rattle.std.proofs.lemmas.Bool.{cases_lt}
use Rattle.std.proofs.lemmas.Option.{none-some, same_Some, slice_get_past}
use Rattle.std.proofs.lemmas.Bool.Decides.{nat_tests}
use Rattle.std.proofs.lemmas.List.Folds.{find-append, list_any-append}
use Rattle.rule_book.specs.Entries.{changed_in, entry_in}

module _ {X : Type 0} where
  find_filter : (test p : X → Bool) (b : Bool) → ((x : X) → test x ≡ true → p x ≡ b) → (xs : List X) → find test (filter p xs) ≡ cond b (find test xs) None
  find_filter test p true agree [] = refl
  find_filter test p false agree [] = refl
  find_filter test p b agree (x ∷ xs) = grind (arith, nat_tests, agree x, find_filter test p b agree xs)

  -- another one put in, at its place
  pub found_beside : (id : X → ℕ) (xs : List X) (new : X) (q : ℕ) → (id new == q) ≡ false
      → find (λ x. id x == q) (filter (λ x. nat_lt (id x) (id new)) xs ++ new ∷ filter (λ x. nat_lt (id new) (id x)) xs) ≡ find (λ x. id x == q) xs
  found_beside id xs new q other =
      let test : X → Bool = λ x. id x == q in
      let below = find_filter test (λ x. nat_lt (id x) (id new)) (nat_lt q (id new)) (λ x is. grind (arith, nat_tests, is)) xs in
      let above = find_filter test (λ x. nat_lt (id new) (id x)) (nat_lt (id new) q) (λ x is. grind (arith, nat_tests, is)) xs in
      find-append test (filter (λ x. nat_lt (id x) (id new)) xs) (new ∷ filter (λ x. nat_lt (id new) (id x)) xs)
      ∙ ap (λ o. option_or o (cond (id new == q) (Some new) (find test (filter (λ x. nat_lt (id new) (id x)) xs)))) below
      ∙ ap (λ b. option_or (cond (nat_lt q (id new)) (find test xs) None) (cond b (Some new) (find test (filter (λ x. nat_lt (id new) (id x)) xs)))) other
      ∙ ap (option_or (cond (nat_lt q (id new)) (find test xs) None)) above
      ∙ joined (id new) q (find test xs) other
    where
      joined : (k q : ℕ) (o : Option X) → (k == q) ≡ false → option_or (cond (nat_lt q k) o None) (cond (nat_lt k q) o None) ≡ o
      joined k q None other = grind (arith, nat_tests, other)
      joined k q (Some x) other = grind (arith, nat_tests, other)

  -- another one changed
  pub found_unchanged : (id : X → ℕ) (change : X → X) → ((x : X) → id (change x) ≡ id x) → (k q : ℕ) → (k == q) ≡ false → (xs : List X)
      → find (λ x. id x == q) (map (λ x. if id x == k then change x else x) xs) ≡ find (λ x. id x == q) xs
  found_unchanged id change keeps k q other [] = refl
  found_unchanged id change keeps k q other (x ∷ xs) = grind (arith, nat_tests, keeps x, other, found_unchanged id change keeps k q other xs)

  -- by number: entry 1 is the first
  pub at_number : (xs : List X) (n : ℕ) → entry_in xs (suc n) ≡ slice_get xs n
  at_number xs n = let f : nat_eq (suc n) 0 ≡ false = grind (arith, nat_tests) in let m : suc n - 1 ≡ n = omega arith in rw (f, m) refl

  pub none_in : (n : ℕ) → entry_in {X = X} [] n ≡ None
  none_in zero = refl
  none_in (suc n) = at_number [] n

  -- what is looked up in lists by number is the same where it is at each place
  numbered : {Y : Type 0} (look : Option X → Y) (xs ys : List X) (n : ℕ) → ((m : ℕ) → n ≡ suc m → look (slice_get xs m) ≡ look (slice_get ys m))
      → look (entry_in xs n) ≡ look (entry_in ys n)
  numbered look xs ys zero same = refl
  numbered look xs ys (suc m) same = ap look (at_number xs m) ∙ same m refl ∙ sym (ap look (at_number ys m))

  -- one more at the end
  placed_more : {Y : Type 0} (look : Option X → Y) (xs : List X) (new : X) (n : ℕ) → (n ≡ length xs → look None ≡ look (Some new))
      → look (slice_get xs n) ≡ look (slice_get (xs ++ new ∷ []) n)
  placed_more look [] new zero blank = blank refl
  placed_more look [] new (suc n) blank = refl
  placed_more look (x ∷ xs) new zero blank = refl
  placed_more look (x ∷ xs) new (suc n) blank = placed_more look xs new n (λ is. blank (ap suc is))

  pub numbered_more : {Y : Type 0} (look : Option X → Y) (xs : List X) (new : X) (n : ℕ) → (n ≡ length xs + 1 → look None ≡ look (Some new))
      → look (entry_in xs n) ≡ look (entry_in (xs ++ new ∷ []) n)
  numbered_more look xs new n blank =
      numbered look xs (xs ++ new ∷ []) n (λ m is. placed_more look xs new m (λ last. blank (omega (arith, is, last))))

  -- some more at the end: the other places stay
  placed_beside : (xs more : List X) (n : ℕ) → (length xs ≤ n → n < length xs + length more → ⊥) → slice_get xs n ≡ slice_get (xs ++ more) n
  placed_beside [] more n other = sym (slice_get_past more n (no_less (length more) n (λ lt. other (omega arith) (omega (arith, lt)))))
    where
      no_less : (k n : ℕ) → (n < k → ⊥) → k ≤ n
      no_less k n not_less = ⊎_elim (λ (lt : n < k). absurd (not_less lt)) (λ (ge : k ≤ n). ge) (cases_lt n k)
  placed_beside (x ∷ xs) more zero other = refl
  placed_beside (x ∷ xs) more (suc n) other = placed_beside xs more n (λ le lt. other (omega (arith, le)) (omega (arith, lt)))

  pub numbered_beside : (xs more : List X) (n : ℕ) → (length xs < n → n ≤ length xs + length more → ⊥) → entry_in xs n ≡ entry_in (xs ++ more) n
  numbered_beside xs more n other =
      numbered (λ o. o) xs (xs ++ more) n (λ m is. placed_beside xs more m (λ le lt. other (omega (arith, is, le)) (omega (arith, is, lt))))

  -- one changed
  placed_changed : {Y : Type 0} (look : Option X → Y) (change : X → X) (xs : List X) (k n : ℕ)
      → (n ≡ k → (x : X) → slice_get xs k ≡ Some x → look (Some x) ≡ look (Some (change x)))
      → look (slice_get xs n) ≡ look (slice_get (changed_in change xs (suc k)) n)
  placed_changed look change [] k n keeps = refl
  placed_changed look change (x ∷ xs) zero zero keeps = keeps refl x refl
  placed_changed look change (x ∷ xs) zero (suc n) keeps = refl
  placed_changed look change (x ∷ xs) (suc k) zero keeps = refl
  placed_changed look change (x ∷ xs) (suc k) (suc n) keeps = placed_changed look change xs k n (λ is. keeps (ap suc is))

  nothing_changed : (change : X → X) (xs : List X) → changed_in change xs zero ≡ xs
  nothing_changed change [] = refl
  nothing_changed change (x ∷ xs) = refl

  pub numbered_changed : {Y : Type 0} (look : Option X → Y) (change : X → X) (xs : List X) (k n : ℕ)
      → (n ≡ k → (x : X) → entry_in xs k ≡ Some x → look (Some x) ≡ look (Some (change x)))
      → look (entry_in xs n) ≡ look (entry_in (changed_in change xs k) n)
  numbered_changed look change xs zero n keeps = ap (λ xs. look (entry_in xs n)) (sym (nothing_changed change xs))
  numbered_changed look change xs (suc k) n keeps =
      numbered look xs (changed_in change xs (suc k)) n (λ m is.
      placed_changed look change xs k m (λ same x at. keeps (is ∙ ap suc same) x (at_number xs k ∙ at)))

  placed_here : (change : X → X) (xs : List X) (k : ℕ) (x : X) → slice_get xs k ≡ Some x → slice_get (changed_in change xs (suc k)) k ≡ Some (change x)
  placed_here change [] k x at = absurd (none-some x at)
  placed_here change (y ∷ xs) zero x at = ap (λ z. Some (change z)) (same_Some y x at)
  placed_here change (y ∷ xs) (suc k) x at = placed_here change xs k x at

  pub numbered_here : (change : X → X) (xs : List X) (k : ℕ) (x : X) → entry_in xs k ≡ Some x → entry_in (changed_in change xs k) k ≡ Some (change x)
  numbered_here change xs zero x at = absurd (none-some x at)
  numbered_here change xs (suc k) x at = at_number (changed_in change xs (suc k)) k ∙ placed_here change xs k x (sym (at_number xs k) ∙ at)

  -- where an element of a changed list comes from
  placed_from : (change : X → X) (xs : List X) (k n : ℕ) (y : X) → slice_get (changed_in change xs (suc k)) n ≡ Some y
      → (x : X) × (slice_get xs n ≡ Some x) × ((y ≡ x) ⊎ (y ≡ change x))
  placed_from change [] k n y at = absurd (none-some y at)
  placed_from change (x ∷ xs) zero zero y at = (x, refl, inr (sym (same_Some (change x) y at)))
  placed_from change (x ∷ xs) zero (suc n) y at = (y, at, inl refl)
  placed_from change (x ∷ xs) (suc k) zero y at = (x, refl, inl (sym (same_Some x y at)))
  placed_from change (x ∷ xs) (suc k) (suc n) y at = placed_from change xs k n y at

  pub changed_from : (change : X → X) (xs : List X) (k n : ℕ) (y : X) → entry_in (changed_in change xs k) n ≡ Some y
      → (x : X) × (entry_in xs n ≡ Some x) × ((y ≡ x) ⊎ (y ≡ change x))
  changed_from change xs zero n y at = (y, ap (λ xs. entry_in xs n) (sym (nothing_changed change xs)) ∙ at, inl refl)
  changed_from change xs (suc k) zero y at = absurd (none-some y at)
  changed_from change xs (suc k) (suc n) y at =
      let from = placed_from change xs k n y (sym (at_number (changed_in change xs (suc k)) n) ∙ at) in
      (from.0, at_number xs n ∙ from.1, from.2)

  placed_more_from : (xs : List X) (new : X) (n : ℕ) (y : X) → slice_get (xs ++ new ∷ []) n ≡ Some y → (slice_get xs n ≡ Some y) ⊎ (y ≡ new)
  placed_more_from [] new zero y at = inr (sym (same_Some new y at))
  placed_more_from [] new (suc n) y at = absurd (none-some y at)
  placed_more_from (x ∷ xs) new zero y at = inl at
  placed_more_from (x ∷ xs) new (suc n) y at = placed_more_from xs new n y at

  pub more_from : (xs : List X) (new : X) (n : ℕ) (y : X) → entry_in (xs ++ new ∷ []) n ≡ Some y → (entry_in xs n ≡ Some y) ⊎ (y ≡ new)
  more_from xs new zero y at = absurd (none-some y at)
  more_from xs new (suc n) y at =
      ⊎_elim (λ old. inl (at_number xs n ∙ old)) (λ is. inr is) (placed_more_from xs new n y (sym (at_number (xs ++ new ∷ []) n) ∙ at))

-- a member beside another
pub member_beside : (members : List ℕ) (e x : ℕ) → (x ≡ e → ⊥)
    → list_any (λ m. m == x) members ≡ list_any (λ m. m == x) (filter (λ m. nat_lt m e) members ++ e ∷ filter (λ m. nat_lt e m) members)
member_beside members e x other =
    any_parts members
    ∙ sym (list_any-append (λ m. m == x) (filter (λ m. nat_lt m e) members) (e ∷ filter (λ m. nat_lt e m) members)
    ∙ ap (λ b. list_any (λ m. m == x) (filter (λ m. nat_lt m e) members) || (b || list_any (λ m. m == x) (filter (λ m. nat_lt e m) members))) not_new)
  where
    not_new : (e == x) ≡ false
    not_new = grind (arith, nat_tests, other)

    any_parts : (ms : List ℕ) → list_any (λ m. m == x) ms ≡ (list_any (λ m. m == x) (filter (λ m. nat_lt m e) ms) || list_any (λ m. m == x) (filter (λ m. nat_lt e m) ms))
    any_parts [] = refl
    any_parts (m ∷ ms) = grind (arith, nat_tests, other, any_parts ms)
