-- Lists that a loop makes, one more element at a time.
use Rattle.std.proofs.Common.{◌≡◌, ◌∙◌, ℕ, ◌+◌, List, [], ◌∷◌, ◌++◌, Some, append-nil, append_assoc, Bool, true, false, cond, filter, ap, sym, refl, map, take}
use Rattle.season_views.proofs.Lists.{take_next}
use Rattle.std.specs.List.{flat_map, slice_get}
use Rattle.std.proofs.lemmas.List.{map-append}
use Rattle.std.proofs.lemmas.List.Concat.{flat_map-append}
use Rattle.std.proofs.lemmas.List.Elements.{filter_more}
use Rattle.std.proofs.lemmas.Option.{slice_get_within, get_or_from_slice_get}

-- behind others, one more is mapped
pub mapped_next : {X Y : Type 0} (f : X → Y) (before : List Y) (xs : List X) (i : ℕ) (x : X) → slice_get xs i ≡ Some x → (before ++ map f (take i xs)) ++ f x ∷ [] ≡ before ++ map f (take (i + 1) xs)
mapped_next f before xs i x at =
    append_assoc before (map f (take i xs)) (f x ∷ [])
    ∙ ap (λ l. before ++ l) (sym (ap (map f) (take_next xs i x at) ∙ map-append f (take i xs) (x ∷ [])))

-- and one more is put behind in full
pub flat_next : {X Y : Type 0} (f : X → List Y) (xs : List X) (i : ℕ) (x : X) → slice_get xs i ≡ Some x → flat_map f (take i xs) ++ f x ≡ flat_map f (take (i + 1) xs)
flat_next f xs i x at =
    sym (ap (flat_map f) (take_next xs i x at) ∙ flat_map-append f (take i xs) (x ∷ []) ∙ ap (λ l. flat_map f (take i xs) ++ l) (append-nil (f x)))

-- one that passes is kept, and one that does not is passed over
pub kept_next : {X : Type 0} (test : X → Bool) (xs : List X) (i : ℕ) (x : X) (old new : List X) → slice_get xs i ≡ Some x → old ≡ filter test (take i xs)
    → (test x ≡ true → new ≡ old ++ x ∷ []) → (test x ≡ false → new ≡ old) → new ≡ filter test (take (i + 1) xs)
kept_next {X} test xs i x old new at so his others = go (test x) refl
  where
    next : (b : Bool) → test x ≡ b → filter test (take (i + 1) xs) ≡ filter test (take i xs) ++ cond b (x ∷ []) []
    next b e =
        filter_more test xs i x (slice_get_within xs i x at)
        ∙ ap (λ y. filter test (take i xs) ++ cond (test y) (y ∷ []) []) (get_or_from_slice_get xs i x x at)
        ∙ ap (λ t. filter test (take i xs) ++ cond t (x ∷ []) []) e

    go : (b : Bool) → test x ≡ b → new ≡ filter test (take (i + 1) xs)
    go true e = his e ∙ ap (λ l. l ++ x ∷ []) so ∙ sym (next true e)
    go false e = others e ∙ so ∙ sym (next false e ∙ append-nil (filter test (take i xs)))
