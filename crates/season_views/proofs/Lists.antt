-- Lists that a loop makes, one more element at a time.
use Rattle.std.proofs.Common.{◌≡◌, ◌<◌, ◌+◌, ◌∷◌, [], ◌++◌, ℕ, List, Some, length, get_or, map, sum_by, take, refl, sym, ap, ◌∙◌}
use Rattle.std.specs.List.{slice_get}
use Rattle.std.proofs.lemmas.List.{take_more, map-append}
use Rattle.std.proofs.lemmas.List.Sums.{sum_by_more}
use Rattle.std.proofs.lemmas.Option.{slice_get_within, slice_get_read, slice_get-get_or, get_or_from_slice_get}

-- one more element behind the first i
pub take_next : {X : Type 0} (xs : List X) (i : ℕ) (x : X) → slice_get xs i ≡ Some x → take (i + 1) xs ≡ take i xs ++ x ∷ []
take_next xs i x at =
    take_more xs i x (slice_get_within xs i x at) ∙ ap (λ y. take i xs ++ y ∷ []) (get_or_from_slice_get xs i x x at)

-- a list that has the first i, with the next one
pub made_more : {X : Type 0} (xs : List X) (i : ℕ) (x : X) (old new : List X) → slice_get xs i ≡ Some x → old ≡ take i xs → new ≡ old ++ x ∷ [] → new ≡ take (i + 1) xs
made_more xs i x old new at so_far more = more ∙ ap (λ ys. ys ++ x ∷ []) so_far ∙ sym (take_next xs i x at)

-- what was read is read again, whatever is read past the end
pub read_again : {X : Type 0} (xs : List X) (i : ℕ) (d : X) → i < length xs → get_or xs i d ≡ get_or xs i (get_or xs i d)
read_again xs i d within = sym (get_or_from_slice_get xs i (get_or xs i d) (get_or xs i d) (slice_get-get_or xs i d within))

-- a list of rows, with one more, and a part of each
pub parts_more : {X R : Type 0} (part : R → X) (xs : List X) (i : ℕ) (x : X) (row : R) (old new : List R) → i < length xs → x ≡ get_or xs i x → part row ≡ x
    → map part old ≡ take i xs → new ≡ old ++ row ∷ [] → map part new ≡ take (i + 1) xs
parts_more part xs i x row old new within is has so_far more =
    ap (map part) more ∙ map-append part old (row ∷ [])
    ∙ ap (λ y. map part old ++ y ∷ []) has
    ∙ ap (λ ys. ys ++ x ∷ []) so_far
    ∙ sym (take_next xs i x (slice_get_read xs (length xs) i x refl within is))

-- one more of a list is added up
pub sum_next : {X : Type 0} (f : X → ℕ) (xs : List X) (i : ℕ) (x : X) → slice_get xs i ≡ Some x → sum_by f (take (i + 1) xs) ≡ sum_by f (take i xs) + f x
sum_next f xs i x at = sum_by_more f xs i x (slice_get_within xs i x at) ∙ ap (λ y. sum_by f (take i xs) + f y) (get_or_from_slice_get xs i x x at)
