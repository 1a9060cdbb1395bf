-- A list and a place in it: the elements before the place, and those behind it.
use Rattle.std.proofs.Common.{◌≡◌, ◌∙◌, sym, ap, ℕ, suc, ◌+◌, ◌<◌, ◌≤◌, List, [], ◌∷◌, ◌++◌, length, get_or, set, take, drop, arith, length-append, length-drop, add-one}
use Rattle.std.specs.List.{All, AllPairs}
use Rattle.std.proofs.lemmas.List.{get_or-take, get_or-drop, get_or_append_left, length-take-le, take-append-drop, drop_more, set_split}
use Rattle.std.proofs.lemmas.List.Elements.{All-cons, All-head, All-tail, All-append}
use Rattle.std.proofs.lemmas.List.Kept.{AllPairs-cons}

-- `All` of the parts at a place
pub All-take_from : {X : Type 0} (P : X → Type 0) (xs : List X) (i : ℕ) → i ≤ length xs → ((k : ℕ) (d : X) → k < i → P (get_or xs k d)) → All P (take i xs)
All-take_from P xs i le h k d lt =
    let long = length-take-le i xs le in
    let low : k < i = omega (arith, long) in
    rw (get_or-take i xs k d low) (h k d low)

pub All-drop_from : {X : Type 0} (P : X → Type 0) (xs : List X) (i : ℕ) → ((k : ℕ) (d : X) → i ≤ k → k < length xs → P (get_or xs k d)) → All P (drop i xs)
All-drop_from P xs i h k d lt =
    rw (get_or-drop i xs k d) (h (i + k) d (omega arith) (omega (arith, length-drop i xs)))

pub All-left : {X : Type 0} (P : X → Type 0) (xs ys : List X) → All P (xs ++ ys) → All P xs
All-left P xs ys h k d lt = rw get_or_append_left at (h k d (omega (arith, length-append xs ys)))

pub All-right : {X : Type 0} (P : X → Type 0) (xs ys : List X) → All P (xs ++ ys) → All P ys
All-right P [] ys h = h
All-right P (x ∷ xs) ys h = All-right P xs ys (All-tail P x (xs ++ ys) h)

-- the first element and the others of pairs that are all related
pub AllPairs-head : {X : Type 0} (R : X → X → Type 0) (x : X) (xs : List X) → AllPairs R (x ∷ xs) → All (R x) xs
AllPairs-head R x xs h k d lt = h 0 (suc k) d (omega arith) (omega arith)

pub AllPairs-tail : {X : Type 0} (R : X → X → Type 0) (x : X) (xs : List X) → AllPairs R (x ∷ xs) → AllPairs R xs
AllPairs-tail R x xs h i j d lt le = h (suc i) (suc j) d (omega arith) (omega arith)

-- one more element goes between those before it and those after it
pub AllPairs-middle : {X : Type 0} (R : X → X → Type 0) (xs ys : List X) (x : X) → AllPairs R (xs ++ ys) → All (λ y. R y x) xs → All (R x) ys → AllPairs R (xs ++ x ∷ ys)
AllPairs-middle R [] ys x h before after = AllPairs-cons R x ys after h
AllPairs-middle R (y ∷ xs) ys x h before after =
    let rest = AllPairs-head R y (xs ++ ys) h in
    AllPairs-cons R y (xs ++ x ∷ ys)
    (All-append (R y) xs (x ∷ ys) (All-left (R y) xs ys rest) (All-cons (R y) x ys (All-head (λ z. R z x) y xs before) (All-right (R y) xs ys rest)))
    (AllPairs-middle R xs ys x (AllPairs-tail R y (xs ++ ys) h) (All-tail (λ z. R z x) y xs before) after)

-- a list parts at each of its places
pub parts_at : {X : Type 0} (xs : List X) (i : ℕ) (d : X) → i < length xs → xs ≡ take i xs ++ get_or xs i d ∷ drop (i + 1) xs
parts_at xs i d lt = sym (take-append-drop i xs) ∙ ap (λ r. take i xs ++ r) (drop_more xs i d lt)

pub set_parts : {X : Type 0} (xs : List X) (i : ℕ) (y : X) → i < length xs → set xs i y ≡ take i xs ++ y ∷ drop (i + 1) xs
set_parts xs i y lt = rw (← add-one i) at (set_split xs i y lt)
