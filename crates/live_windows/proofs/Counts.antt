-- How many of a list pass a test, and the first that passes.
use Rattle.std.proofs.Common.{◌≡◌, ◌∙◌, sym, refl, ap, subst, zero, suc, ℕ, ◌+◌, ◌<◌, ◌≤◌, Bool, true, false, ◌&&◌, cond, List, [], ◌∷◌, length, filter, get_or, arith, All, Contains, count_by, Some, None}
use Rattle.std.specs.List.{find}
use Rattle.std.proofs.lemmas.List.Elements.{All-head, All-tail}
use Rattle.std.proofs.lemmas.List.Sums.{sum_by-cons}

-- one more
pub count_more : {X : Type 0} (p : X → Bool) (x : X) (xs : List X) (b : Bool) → p x ≡ b → count_by p (x ∷ xs) ≡ cond b 1 0 + count_by p xs
count_more p x xs b e = sum_by-cons (λ y. cond (p y) 1 0) x xs ∙ ap (λ t. cond t 1 0 + count_by p xs) e

kept_head : {X : Type 0} (p : X → Bool) (x : X) (xs : List X) (b : Bool) → p x ≡ b → filter p (x ∷ xs) ≡ cond b (x ∷ filter p xs) (filter p xs)
kept_head p x xs b e = ap (λ t. cond t (x ∷ filter p xs) (filter p xs)) e

-- what passes one test of a list passes the other
abbrev pub Within : {X : Type 0} → (X → Bool) → (X → Bool) → List X → Type 0
Within p q xs = All (λ x. p x ≡ true → q x ≡ true) xs

more_le : (m n : ℕ) (a b : Bool) → (a ≡ true → b ≡ true) → m ≤ n → cond a 1 0 + m ≤ cond b 1 0 + n
more_le m n true true imp le = omega (arith, le)
more_le m n true false imp le = absurd (cc (imp refl))
more_le m n false true imp le = omega (arith, le)
more_le m n false false imp le = omega (arith, le)

pub count_le : {X : Type 0} (p q : X → Bool) (xs : List X) → Within p q xs → count_by p xs ≤ count_by q xs
count_le p q [] all = omega arith
count_le p q (x ∷ xs) all =
    let le = more_le (count_by p xs) (count_by q xs) (p x) (q x) (All-head (λ y. p y ≡ true → q y ≡ true) x xs all) (count_le p q xs (All-tail (λ y. p y ≡ true → q y ≡ true) x xs all)) in
    let left = count_more p x xs (p x) refl in
    let right = count_more q x xs (q x) refl in
    omega (arith, le, left, right)

-- fewer pass a test that is narrower at one of them
pub count_less : {X : Type 0} (p q : X → Bool) (xs : List X) (x : X) → Within p q xs → Contains xs x → p x ≡ false → q x ≡ true → count_by p xs < count_by q xs
count_less p q [] x all (k, lt, is) fails passes = absurd (omega (arith, lt))
count_less p q (y ∷ xs) x all (zero, lt, is) fails passes =
    let le = count_le p q xs (All-tail (λ z. p z ≡ true → q z ≡ true) y xs all) in
    let left = count_more p y xs false (ap p is ∙ fails) in
    let right = count_more q y xs true (ap q is ∙ passes) in
    omega (arith, le, left, right)
count_less p q (y ∷ xs) x all (suc k, lt, is) fails passes =
    let le = more_le (count_by p xs + 1) (count_by q xs) (p y) (q y) (All-head (λ z. p z ≡ true → q z ≡ true) y xs all)
    (let less = count_less p q xs x (All-tail (λ z. p z ≡ true → q z ≡ true) y xs all) (k, omega (arith, lt), is) fails passes in omega (arith, less)) in
    let left = count_more p y xs (p y) refl in
    let right = count_more q y xs (q y) refl in
    omega (arith, le, left, right)

-- of what a filter keeps
pub count_kept : {X : Type 0} (p q : X → Bool) (xs : List X) → count_by p (filter q xs) ≡ count_by (λ x. q x && p x) xs
count_kept p q [] = refl
count_kept p q (x ∷ xs) = go (q x) refl (count_kept p q xs)
  where
    go : (b : Bool) → q x ≡ b → count_by p (filter q xs) ≡ count_by (λ y. q y && p y) xs → count_by p (filter q (x ∷ xs)) ≡ count_by (λ y. q y && p y) (x ∷ xs)
    go true e rest =
        ap (count_by p) (kept_head q x xs true e) ∙ count_more p x (filter q xs) (p x) refl ∙ ap (λ n. cond (p x) 1 0 + n) rest
        ∙ sym (count_more (λ y. q y && p y) x xs (p x) (ap (λ t. t && p x) e))
    go false e rest =
        let less = ap (count_by p) (kept_head q x xs false e) in
        let more = count_more (λ y. q y && p y) x xs false (ap (λ t. t && p x) e) in
        omega (arith, less, rest, more)

-- two tests that agree at each of a list keep the same, and as many
pub kept_alike : {X : Type 0} (p q : X → Bool) (xs : List X) → All (λ x. p x ≡ q x) xs → filter p xs ≡ filter q xs
kept_alike p q [] all = refl
kept_alike p q (x ∷ xs) all =
    let rest = kept_alike p q xs (All-tail (λ y. p y ≡ q y) x xs all) in
    ap (λ t. cond t (x ∷ filter p xs) (filter p xs)) (All-head (λ y. p y ≡ q y) x xs all) ∙ ap (λ l. cond (q x) (x ∷ l) l) rest

pub count_alike : {X : Type 0} (p q : X → Bool) (xs : List X) → All (λ x. p x ≡ q x) xs → count_by p xs ≡ count_by q xs
count_alike p q [] all = refl
count_alike p q (x ∷ xs) all =
    count_more p x xs (q x) (All-head (λ y. p y ≡ q y) x xs all) ∙ ap (λ n. cond (q x) 1 0 + n) (count_alike p q xs (All-tail (λ y. p y ≡ q y) x xs all))
    ∙ sym (count_more q x xs (q x) refl)

pub from_kept : {X : Type 0} (p : X → Bool) (xs : List X) (x : X) → Contains (filter p xs) x → (p x ≡ true) × Contains xs x
from_kept p [] x (k, lt, is) = absurd (omega (arith, lt))
from_kept p (y ∷ ys) x there = go (p y) refl (λ within. from_kept p ys x within)
  where
    later : Contains ys x → Contains (y ∷ ys) x
    later (k, lt, is) = (suc k, omega (arith, lt), is)

    at : p y ≡ true → (Contains (filter p ys) x → (p x ≡ true) × Contains ys x) → Contains (y ∷ filter p ys) x → (p x ≡ true) × Contains (y ∷ ys) x
    at e rest (zero, lt, is) = (ap p (sym is) ∙ e, (0, omega arith, is))
    at e rest (suc k, lt, is) = let r = rest (k, omega (arith, lt), is) in (r.0, later r.1)

    go : (b : Bool) → p y ≡ b → (Contains (filter p ys) x → (p x ≡ true) × Contains ys x) → (p x ≡ true) × Contains (y ∷ ys) x
    go true e rest = at e rest (subst (λ l. Contains l x) (kept_head p y ys true e) there)
    go false e rest = let r = rest (subst (λ l. Contains l x) (kept_head p y ys false e) there) in (r.0, later r.1)

-- the first that passes: one that does, where none before it does
pub first_is : {X : Type 0} (p : X → Bool) (xs : List X) (k : ℕ) (x : X) → k < length xs → get_or xs k x ≡ x → p x ≡ true → ((j : ℕ) (d : X) → j < k → p (get_or xs j d) ≡ false) → find p xs ≡ Some x
first_is p [] k x lt is passes before = absurd (omega (arith, lt))
first_is p (y ∷ ys) zero x lt is passes before = ap (λ t. cond t (Some y) (find p ys)) (ap p is ∙ passes) ∙ ap Some is
first_is p (y ∷ ys) (suc k) x lt is passes before =
    ap (λ t. cond t (Some y) (find p ys)) (before 0 x (omega arith)) ∙ first_is p ys k x (omega (arith, lt)) is passes (λ j d less. before (suc j) d (omega (arith, less)))

-- or the only one that does
pub only_one : {X : Type 0} (p : X → Bool) (xs : List X) (x : X) → Contains xs x → p x ≡ true → All (λ y. p y ≡ true → y ≡ x) xs → find p xs ≡ Some x
only_one p [] x (k, lt, is) passes only = absurd (omega (arith, lt))
only_one p (y ∷ ys) x there passes only = go (p y) refl (λ within. only_one p ys x within passes (All-tail (λ z. p z ≡ true → z ≡ x) y ys only))
  where
    here : p y ≡ true → y ≡ x
    here = All-head (λ z. p z ≡ true → z ≡ x) y ys only

    left : Contains (y ∷ ys) x → p y ≡ false → Contains ys x
    left (zero, lt, is) fails = absurd (cc (sym (ap p is ∙ passes) ∙ fails))
    left (suc k, lt, is) fails = (k, omega (arith, lt), is)

    go : (b : Bool) → p y ≡ b → (Contains ys x → find p ys ≡ Some x) → find p (y ∷ ys) ≡ Some x
    go true e rest = ap (λ t. cond t (Some y) (find p ys)) e ∙ ap Some (here e)
    go false e rest = ap (λ t. cond t (Some y) (find p ys)) e ∙ rest (left there e)

-- none is found where none passes
pub none_is : {X : Type 0} (p : X → Bool) (xs : List X) → All (λ x. p x ≡ false) xs → find p xs ≡ None
none_is p [] all = refl
none_is p (x ∷ xs) all = ap (λ t. cond t (Some x) (find p xs)) (All-head (λ y. p y ≡ false) x xs all) ∙ none_is p xs (All-tail (λ y. p y ≡ false) x xs all)
