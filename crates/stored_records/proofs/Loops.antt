-- What a walk along a list comes to.
use Rattle.std.proofs.Common.{◌≡◌, ◌∙◌, ◌<◌, ◌≤◌, ◌+◌, ◌-◌, ℕ, zero, suc, Bool, true, false, not, cond, ◌&&◌, ◌==◌, List, [], ◌∷◌, length, get_or, map, filter, find, Some, None, refl, sym, ap, arith, map-id}
use Rattle.std.specs.List.{count_by, list_any, range_with_len}
use Rattle.std.proofs.lemmas.Bool.Decides.{nat_tests}
use Rattle.std.proofs.lemmas.List.{get_or_default}
use Rattle.std.proofs.lemmas.List.Sums.{length-filter}
use Rattle.std.proofs.lemmas.List.FromFn.{sum_by-map-range_with_len_more}
use Rattle.rule_book.specs.CupCalls.{entrants}

-- a test that each of the elements before a place fails
abbrev pub FailBefore : {X : Type 0} → (X → Bool) → List X → ℕ → Type 0
FailBefore {X} p xs i = (k : ℕ) (d : X) → k < i → p (get_or xs k d) ≡ false

pub fail_more : {X : Type 0} (p : X → Bool) (xs : List X) (i : ℕ) (x : X) → i < length xs → FailBefore p xs i → x ≡ get_or xs i x → p x ≡ false → FailBefore p xs (i + 1)
fail_more p xs i x lt before at fails k d low = by (k == i) refl
  where
    here : p (get_or xs i d) ≡ false
    here = ap p (get_or_default xs i d x lt ∙ sym at) ∙ fails

    by : (b : Bool) → (k == i) ≡ b → p (get_or xs k d) ≡ false
    by true same = let is : k ≡ i = grind (arith, nat_tests, same) in ap (λ n. p (get_or xs n d)) is ∙ here
    by false other = before k d (grind (arith, nat_tests, other, low))

pub none_found : {X : Type 0} (p : X → Bool) (xs : List X) (i : ℕ) → length xs ≤ i → FailBefore p xs i → find p xs ≡ None
none_found p [] i all before = refl
none_found p (x ∷ xs) i all before =
    rw (before 0 x (omega (arith, all))) (none_found p xs (i - 1) (omega (arith, all)) (λ k d lt. before (suc k) d (omega (arith, lt))))

pub found_first : {X : Type 0} (p : X → Bool) (xs : List X) (i : ℕ) (d : X) → i < length xs → FailBefore p xs i → p (get_or xs i d) ≡ true → find p xs ≡ Some (get_or xs i d)
found_first p [] i d lt before holds = absurd (omega (arith, lt))
found_first p (x ∷ xs) zero d lt before holds = rw holds refl
found_first p (x ∷ xs) (suc i) d lt before holds =
    rw (before 0 d (omega arith)) (found_first p xs i d (omega (arith, lt)) (λ k e low. before (suc k) e (omega (arith, low))) holds)

-- tests of what a filter keeps
pub any_kept : {X : Type 0} (p keeps : X → Bool) (xs : List X) → list_any p (filter keeps xs) ≡ list_any (λ x. keeps x && p x) xs
any_kept p keeps [] = refl
any_kept p keeps (x ∷ xs) = by (keeps x) refl (any_kept p keeps xs)
  where
    by : (b : Bool) → keeps x ≡ b → list_any p (filter keeps xs) ≡ list_any (λ x. keeps x && p x) xs → list_any p (filter keeps (x ∷ xs)) ≡ list_any (λ x. keeps x && p x) (x ∷ xs)
    by true is rest = rw (is, rest) refl
    by false is rest = rw (is, rest) refl

both_kept : {X : Type 0} (p keeps : X → Bool) (xs : List X) → filter p (filter keeps xs) ≡ filter (λ x. keeps x && p x) xs
both_kept p keeps [] = refl
both_kept {X} p keeps (x ∷ xs) = by (keeps x) refl (both_kept p keeps xs)
  where
    by : (b : Bool) → keeps x ≡ b → filter p (filter keeps xs) ≡ filter (λ x. keeps x && p x) xs → filter p (filter keeps (x ∷ xs)) ≡ filter (λ x. keeps x && p x) (x ∷ xs)
    by true is rest = rw (is, rest) refl
    by false is rest = rw (is, rest) refl

pub count_kept : {X : Type 0} (p keeps : X → Bool) (xs : List X) → count_by p (filter keeps xs) ≡ count_by (λ x. keeps x && p x) xs
count_kept p keeps xs =
    sym (length-filter p (filter keeps xs)) ∙ (ap length (both_kept p keeps xs) ∙ length-filter (λ x. keeps x && p x) xs)

pub any_entrant : (p : ℕ → Bool) (slots : List ℕ) → list_any p (entrants slots) ≡ list_any (λ e. not (e == 0) && p e) slots
any_entrant p slots = any_kept p (λ slot. not (slot == 0)) slots

pub any_mapped : {X Y : Type 0} (p : Y → Bool) (f : X → Y) (xs : List X) → list_any p (map f xs) ≡ list_any (λ x. p (f x)) xs
any_mapped p f [] = refl
any_mapped p f (x ∷ xs) = rw (any_mapped p f xs) refl

-- how many of the numbers from a on pass, with one more
pub count_up : (p : ℕ → Bool) (a n : ℕ) → count_by p (range_with_len a (n + 1)) ≡ count_by p (range_with_len a n) + cond (p (a + n)) 1 0
count_up p a n =
    let id : ℕ → ℕ = λ x. x in
    rw (map-id, map-id) at (sum_by-map-range_with_len_more (λ x. cond (p x) 1 0) id a n (a + n) refl)

-- two tests that agree on a list
pub any_same : {X : Type 0} (p q : X → Bool) (xs : List X) → ((k : ℕ) (d : X) → k < length xs → p (get_or xs k d) ≡ q (get_or xs k d)) → list_any p xs ≡ list_any q xs
any_same p q [] same = refl
any_same p q (x ∷ xs) same =
    rw (same 0 x (omega arith), any_same p q xs (λ k d lt. same (suc k) d (omega (arith, lt)))) refl
