-- The first place at which a test passes.
use Rattle.std.proofs.Common.{ℕ, ◌≡◌, ◌<◌, ◌≤◌, ◌∙◌, Bool, true, false, cond, List, [], ◌∷◌, zero, suc, Option, Some, None, length, get_or, nat_lt, arith, refl, sym, ap}
use Rattle.std.specs.List.{find, position, position_or_len, slice_get}
use Rattle.std.proofs.lemmas.Bool.Decides.{nat_tests}
use Rattle.std.proofs.lemmas.List.Folds.{find_at}

some_first : (b : Bool) (n place : ℕ) → Some place ≡ cond b (Some n) None → place ≡ n
some_first true n place is = cc
some_first false n place is = cc

none_first : (b : Bool) (n : ℕ) → None ≡ cond b (Some n) None → b ≡ false
none_first true n is = cc
none_first false n is = refl

-- a test that passes somewhere passes first at the place that a search names
pub first_is : {X : Type 0} (test : X → Bool) (xs : List X) (place : ℕ) → Some place ≡ position test xs → place ≡ position_or_len test xs
first_is test xs place is = some_first (nat_lt (position_or_len test xs) (length xs)) (position_or_len test xs) place is

-- where a search names none it passes nowhere
pub first_none : {X : Type 0} (test : X → Bool) (xs : List X) → None ≡ position test xs → length xs ≤ position_or_len test xs
first_none test xs is =
    let past = none_first (nat_lt (position_or_len test xs) (length xs)) (position_or_len test xs) is in
    grind (arith, nat_tests, past)

-- what stands at a place
got_at : {X : Type 0} (xs : List X) (i : ℕ) (d : X) → i < length xs → slice_get xs i ≡ Some (get_or xs i d)
got_at [] i d h = absurd (omega arith)
got_at (x ∷ xs) zero d h = refl
got_at (x ∷ xs) (suc i) d h = got_at xs i d (omega arith)

got_none : {X : Type 0} (xs : List X) (i : ℕ) → length xs ≤ i → slice_get xs i ≡ None
got_none [] i h = refl
got_none (x ∷ xs) zero h = absurd (omega arith)
got_none (x ∷ xs) (suc i) h = got_none xs i (omega arith)

-- the first that passes a test
pub found_first : {X : Type 0} (test : X → Bool) (xs : List X) (place : ℕ) (x : X) → place < length xs → x ≡ get_or xs place x → Some place ≡ position test xs → find test xs ≡ Some x
found_first test xs place x here at is =
    find_at test xs ∙ ap (slice_get xs) (sym (first_is test xs place is)) ∙ got_at xs place x here ∙ ap (λ y. Some y) (sym at)

pub found_none : {X : Type 0} (test : X → Bool) (xs : List X) → None ≡ position test xs → find test xs ≡ None
found_none test xs is = find_at test xs ∙ got_none xs (position_or_len test xs) (first_none test xs is)
