-- Rows that are gone through one after another.
use Rattle.std.proofs.Common.{◌≡◌, ◌∙◌, ◌+◌, ◌<◌, ◌≤◌, ◌++◌, Bool, true, false, ℕ, List, [], ◌∷◌, length, take, drop, get_or, map, ap, append_assoc, append-nil, arith, refl, sym}
use Rattle.std.proofs.lemmas.List.{drop_all, drop_more, flat_map_more, map-append, take_more}
use Rattle.std.specs.Prelude.{codes}
use Rattle.fpl_loading.specs.Faults.{row_text}
use Rattle.fpl_loading.specs.More.{differs_text, found_there, with_row}
use Rattle.fpl_loading.specs.Standing.{count_same, differing, next_row}
use Rattle.fpl_loading.specs.declared.adding.Added.{Added}
use Rattle.fpl_loading.specs.declared.notes.Place.{Place}

-- what was found of rows so far, with what the others will be found to be
abbrev pub with_rows : Added → Place → List Bool → Added
with_rows added place rows = record added { there = added.there + count_same rows; differs = added.differs ++ differing place rows }

added_is : (asked loaded a b : ℕ) (xs ys : List Place) → a ≡ b → xs ≡ ys
    → ◌≡◌ {A = Added} (record { asked = asked; loaded = loaded; there = a; differs = xs }) (record { asked = asked; loaded = loaded; there = b; differs = ys })
added_is asked loaded a b xs ys there differs = rw (there, differs) refl

-- one row more was found
pub one_row : (added : Added) (place : Place) (same : Bool) (rows : List Bool) → with_rows (with_row added place same) (next_row place) rows ≡ with_rows added place (same ∷ rows)
one_row added place true rows = added_is added.asked added.loaded _ _ _ _ (omega arith) refl
one_row added place false rows = added_is added.asked added.loaded _ _ _ _ refl (append_assoc added.differs (place ∷ []) (differing (next_row place) rows))

-- none is left
pub no_row : (added : Added) (place : Place) → with_rows added place [] ≡ added
no_row added place = added_is added.asked added.loaded _ _ _ _ (omega arith) (append-nil added.differs)

-- the rows that are left, the next of them first
pub rows_left : {X : Type 0} (xs : List X) (at : ℕ) (x d : X) → at < length xs → x ≡ get_or xs at d → drop at xs ≡ x ∷ drop (at + 1) xs
rows_left xs at x d within is = drop_more xs at d within ∙ ap (λ y. y ∷ drop (at + 1) xs) (sym is)

-- one more of a list was put behind another
pub one_put : {X : Type 0} (start old new xs : List X) (at : ℕ) (x d : X) → at < length xs → x ≡ get_or xs at d → new ≡ old ++ x ∷ [] → old ≡ start ++ take at xs
    → new ≡ start ++ take (at + 1) xs
one_put start old new xs at x d within is pushed so_far =
    pushed ∙ ap (λ ys. ys ++ x ∷ []) so_far ∙ append_assoc start (take at xs) (x ∷ []) ∙ ap (λ ys. start ++ ys) (ap (λ y. take at xs ++ y ∷ []) is ∙ sym (take_more xs at d within))

-- one more of a list was put behind the others as what it is mapped to
pub one_mapped : {X Y : Type 0} (f : X → Y) (old new : List Y) (xs : List X) (at : ℕ) (x d : X) (y : Y) → at < length xs → x ≡ get_or xs at d → y ≡ f x
    → new ≡ old ++ y ∷ [] → old ≡ map f (take at xs) → new ≡ map f (take (at + 1) xs)
one_mapped f old new xs at x d y within is made pushed so_far =
    pushed
    ∙ ap (λ ys. ys ++ y ∷ []) so_far
    ∙ ap (λ z. map f (take at xs) ++ z ∷ []) made
    ∙ sym (map-append f (take at xs) (x ∷ []))
    ∙ ap (map f) (ap (λ z. take at xs ++ z ∷ []) is ∙ sym (take_more xs at d within))

-- one line more
pub one_line : (places : List Place) (at : ℕ) (place d : Place) (old mid new : List ℕ) → at < length places → place ≡ get_or places at d
    → mid ≡ old ++ codes "differs: " → new ≡ mid ++ row_text place.file place.row → old ≡ differs_text (take at places) → new ≡ differs_text (take (at + 1) places)
one_line places at place d old mid new within is begun joined so_far =
    joined
    ∙ ap (λ xs. xs ++ row_text place.file place.row) begun
    ∙ append_assoc old (codes "differs: ") (row_text place.file place.row)
    ∙ ap (λ xs. xs ++ (codes "differs: " ++ row_text place.file place.row)) so_far
    ∙ flat_map_more (λ p. codes "differs: " ++ row_text p.file p.row) [] (take at places) place
    ∙ ap differs_text (ap (λ z. take at places ++ z ∷ []) is ∙ sym (take_more places at d within))

-- before the first row nothing is found
pub nothing_found : (differs : List Place) (place : Place) (rows : List Bool) → differs ≡ []
    → with_rows (record { asked = 0; loaded = 0; there = 0; differs = differs }) place rows ≡ found_there place rows
nothing_found differs place rows none = added_is 0 0 (0 + count_same rows) (count_same rows) (differs ++ differing place rows) (differing place rows) (omega arith) (ap (λ xs. xs ++ differing place rows) none)

-- one more was held
pub one_held : (added behind : Added) (place next : Place) (same : Bool) (rows : List Bool) (at : ℕ) (d : Bool) (first : Place) → at < length rows → same ≡ get_or rows at d
    → behind ≡ with_row added place same → next ≡ next_row place → with_rows added place (drop at rows) ≡ found_there first rows
    → with_rows behind next (drop (at + 1) rows) ≡ found_there first rows
one_held added behind place next same rows at d first within is found stands so_far =
    ap (λ a. with_rows a next (drop (at + 1) rows)) found
    ∙ ap (λ p. with_rows (with_row added place same) p (drop (at + 1) rows)) stands
    ∙ one_row added place same (drop (at + 1) rows)
    ∙ ap (with_rows added place) (sym (rows_left rows at same d within is))
    ∙ so_far

-- all were
pub all_held : (added : Added) (place : Place) (rows : List Bool) (at : ℕ) (first : Place) → length rows ≤ at → with_rows added place (drop at rows) ≡ found_there first rows
    → added ≡ found_there first rows
all_held added place rows at first behind so_far =
    sym (no_row added place) ∙ ap (with_rows added place) (sym (drop_all at rows behind)) ∙ so_far
