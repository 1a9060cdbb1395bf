-- Filters and searches over a list that parts around a key: the elements before the key, and those after it.
use Rattle.std.proofs.Common.{◌≡◌, ◌∙◌, ap, refl, ℕ, ◌+◌, Bool, true, false, cond, List, [], ◌∷◌, ◌++◌, filter, find, Some, None, arith}
use Rattle.std.specs.List.{All}
use Rattle.std.proofs.lemmas.List.{append-nil}
use Rattle.std.proofs.lemmas.List.Elements.{All-cons, All-head, All-tail, filter-append}

-- a filter that all pass keeps all, and one that none passes keeps none
pub filter_all : {X : Type 0} (p : X → Bool) (xs : List X) → All (λ x. p x ≡ true) xs → filter p xs ≡ xs
filter_all p [] h = refl
filter_all p (x ∷ xs) h = rw (All-head (λ y. p y ≡ true) x xs h) (ap (λ r. x ∷ r) (filter_all p xs (All-tail (λ y. p y ≡ true) x xs h)))

pub filter_none : {X : Type 0} (p : X → Bool) (xs : List X) → All (λ x. p x ≡ false) xs → filter p xs ≡ []
filter_none p [] h = refl
filter_none p (x ∷ xs) h = rw (All-head (λ y. p y ≡ false) x xs h) (filter_none p xs (All-tail (λ y. p y ≡ false) x xs h))

pub filter_front : {X : Type 0} (p : X → Bool) (xs ys : List X) → All (λ x. p x ≡ true) xs → All (λ x. p x ≡ false) ys → filter p (xs ++ ys) ≡ xs
filter_front p xs ys h k = filter-append p xs ys ∙ (ap (λ r. r ++ filter p ys) (filter_all p xs h) ∙ (ap (λ r. xs ++ r) (filter_none p ys k) ∙ append-nil xs))

pub filter_back : {X : Type 0} (p : X → Bool) (xs ys : List X) → All (λ x. p x ≡ false) xs → All (λ x. p x ≡ true) ys → filter p (xs ++ ys) ≡ ys
filter_back p xs ys h k = filter-append p xs ys ∙ (ap (λ r. r ++ filter p ys) (filter_none p xs h) ∙ filter_all p ys k)

-- the first element that passes stands behind those that don't
pub find_none : {X : Type 0} (p : X → Bool) (xs : List X) → All (λ x. p x ≡ false) xs → find p xs ≡ None
find_none p [] h = refl
find_none p (x ∷ xs) h = rw (All-head (λ y. p y ≡ false) x xs h) (find_none p xs (All-tail (λ y. p y ≡ false) x xs h))

pub find_behind : {X : Type 0} (p : X → Bool) (xs ys : List X) (x : X) → All (λ y. p y ≡ false) xs → p x ≡ true → find p (xs ++ x ∷ ys) ≡ Some x
find_behind p [] ys x h e = rw e refl
find_behind p (y ∷ xs) ys x h e = rw (All-head (λ z. p z ≡ false) y xs h) (find_behind p xs ys x (All-tail (λ z. p z ≡ false) y xs h) e)

none_found_by : {X : Type 0} (p : X → Bool) (x : X) (xs : List X) (b : Bool) → p x ≡ b → cond b (Some x) (find p xs) ≡ None → (find p xs ≡ None → All (λ y. p y ≡ false) xs) → All (λ y. p y ≡ false) (x ∷ xs)
none_found_by p x xs true e found rest = cc
none_found_by p x xs false e found rest = All-cons (λ y. p y ≡ false) x xs e (rest found)

pub none_found : {X : Type 0} (p : X → Bool) (xs : List X) → find p xs ≡ None → All (λ x. p x ≡ false) xs
none_found p [] h = λ k d lt. absurd (omega arith)
none_found p (x ∷ xs) h = none_found_by p x xs (p x) refl h (none_found p xs)
