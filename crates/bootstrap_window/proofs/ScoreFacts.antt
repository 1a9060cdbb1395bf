-- The greatest of points and the first who has it, one more entry at a time.
use Rattle.std.proofs.Common.{◌≡◌, ◌∷◌, [], ◌++◌, ◌∙◌, ℕ, ℤ, pos, ◌+ℤ◌, Bool, true, false, cond, List, Option, Some, None, map, arith, refl, sym, ap}
use Rattle.std.specs.Prelude.{find, fold, int_lt, int_le}
use Rattle.std.specs.Int.{int_max}
use Rattle.std.specs.Option.{option_map}
use Rattle.std.proofs.lemmas.Int.{ints}
use Rattle.std.proofs.lemmas.List.{map-append}
use Rattle.std.proofs.lemmas.List.Sums.{fold_push}
use Rattle.std.proofs.lemmas.Option.{same_Some}
use Rattle.bootstrap_window.specs.declared.scores.Best.{Best}
use Rattle.season_book.specs.Events.{Scores, first_with, highest_entry, highest_score, sum_of_scores}
use Rattle.bootstrap_window.specs.Told.{better_of, entry_of, highest_of}

not_above : (a b : ℤ) → int_lt a b ≡ true → int_lt b a ≡ false
not_above a b less = grind (arith, ints, less)

at_itself : (a : ℤ) → int_le a a ≡ true
at_itself a = grind (arith, ints)

not_reached : (a g : ℤ) → int_lt a g ≡ true → int_le g a ≡ false
not_reached a g less = grind (arith, ints, less)

both_below : (a z g : ℤ) (b : Bool) → int_lt z a ≡ b → int_lt (cond b a z) g ≡ true → (int_lt a g ≡ true) × (int_lt z g ≡ true)
both_below a z g true is less = (less, grind (arith, ints, is, less))
both_below a z g false is less = (grind (arith, ints, is, less), less)

taken_higher : (m g : ℤ) → int_lt m g ≡ true → int_max m g ≡ g
taken_higher m g less = ap (λ b. cond b m g) (not_above m g less)

kept_case : (m g : ℤ) (b : Bool) → int_lt g m ≡ b → int_lt m g ≡ false → cond b m g ≡ m
kept_case m g true is not = refl
kept_case m g false is not = grind (arith, ints, is, not)

kept_lower : (m g : ℤ) → int_lt m g ≡ false → int_max m g ≡ m
kept_lower m g not = kept_case m g (int_lt g m) refl not

-- where the greatest of all is below some points, nobody has them
nobody : (a g : ℤ) (rows : Scores) → int_lt (fold int_max a (map (λ row. row.1) rows)) g ≡ true → (int_lt a g ≡ true) × (find (λ row. int_le g row.1) rows ≡ None)
nobody a g [] less = (less, refl)
nobody a g (row ∷ rows) less =
    let rest = nobody (int_max a row.1) g rows less in
    let both = both_below a row.1 g (int_lt row.1 a) refl rest.0 in
    (both.0, ap (λ b. cond b (Some row) (find (λ r. int_le g r.1) rows)) (not_reached row.1 g both.1) ∙ rest.1)

found_behind : {X : Type 0} (p : X → Bool) (xs : List X) (x : X) → find p xs ≡ None → p x ≡ true → find p (xs ++ x ∷ []) ≡ Some x
found_behind p [] x none passes = ap (λ b. cond b (Some x) None) passes
found_behind p (y ∷ xs) x none passes = by_test (p y) refl none (λ n. found_behind p xs x n passes)
  where
    by_test : (b : Bool) → p y ≡ b → cond b (Some y) (find p xs) ≡ None → (find p xs ≡ None → find p (xs ++ x ∷ []) ≡ Some x)
        → cond (p y) (Some y) (find p (xs ++ x ∷ [])) ≡ Some x
    by_test true is none rest = absurd (cc none)
    by_test false is none rest = ap (λ b. cond b (Some y) (find p (xs ++ x ∷ []))) is ∙ rest none

found_before : {X : Type 0} (p : X → Bool) (xs : List X) (x y : X) → find p xs ≡ Some y → find p (xs ++ x ∷ []) ≡ Some y
found_before p [] x y found = absurd (cc found)
found_before p (z ∷ xs) x y found = by_test (p z) refl found (found_before p xs x y)
  where
    by_test : (b : Bool) → p z ≡ b → cond b (Some z) (find p xs) ≡ Some y → (find p xs ≡ Some y → find p (xs ++ x ∷ []) ≡ Some y)
        → cond (p z) (Some z) (find p (xs ++ x ∷ [])) ≡ Some y
    by_test true is found rest = ap (λ b. cond b (Some z) (find p (xs ++ x ∷ []))) is ∙ found
    by_test false is found rest = ap (λ b. cond b (Some z) (find p (xs ++ x ∷ []))) is ∙ rest found

some_found : (o : Option (ℕ × ℤ)) (e : ℕ) → Some e ≡ option_map (λ row. row.0) o → (row : ℕ × ℤ) × (o ≡ Some row) × (row.0 ≡ e)
some_found None e is = absurd (cc is)
some_found (Some row) e is = (row, refl, same_Some row.0 e (sym is))

-- the greatest of a list and one more
greatest_push : (r : ℕ × ℤ) (rows : Scores) (entry : ℕ) (g : ℤ) → fold int_max r.1 (map (λ row. row.1) (rows ++ (entry, g) ∷ [])) ≡ int_max (fold int_max r.1 (map (λ row. row.1) rows)) g
greatest_push r rows entry g =
    ap (fold int_max r.1) (map-append (λ row. row.1) rows ((entry, g) ∷ [])) ∙ fold_push int_max r.1 (map (λ row. row.1) rows) g

-- so it is with one more
abbrev Both : Option Best → Scores → Type 0
Both best scores = (highest_of best ≡ highest_score scores) × (entry_of best ≡ highest_entry scores)

none_yet : (scores : Scores) (entry : ℕ) (g : ℤ) → None ≡ highest_score scores → Both (Some (record { entry = entry; gross = g })) (scores ++ (entry, g) ∷ [])
none_yet [] entry g none = (refl, sym (ap (λ b. option_map (λ (row : ℕ × ℤ). row.0) (cond b (Some (entry, g)) None)) (at_itself g)))
none_yet (r ∷ rows) entry g none = absurd (cc none)

higher_case : (best : Best) (r : ℕ × ℤ) (rows : Scores) (entry : ℕ) (g : ℤ) (higher : Bool) → int_lt best.gross g ≡ higher
    → best.gross ≡ fold int_max r.1 (map (λ row. row.1) rows) → Some best.entry ≡ first_with (r ∷ rows) best.gross
    → Both (cond higher (Some (record { entry = entry; gross = g })) (Some best)) (r ∷ (rows ++ (entry, g) ∷ []))
higher_case best r rows entry g true is highest first =
    let m : ℤ = fold int_max r.1 (map (λ row. row.1) rows) in
    let less : int_lt m g ≡ true = ap (λ z. int_lt z g) (sym highest) ∙ is in
    let now : fold int_max r.1 (map (λ row. row.1) (rows ++ (entry, g) ∷ [])) ≡ g = greatest_push r rows entry g ∙ taken_higher m g less in
    let none = nobody r.1 g rows less in
    let nobody_has : find (λ row. int_le g row.1) (r ∷ rows) ≡ None = ap (λ b. cond b (Some r) (find (λ row. int_le g row.1) rows)) (not_reached r.1 g none.0) ∙ none.1 in
    let has : find (λ row. int_le g row.1) (r ∷ (rows ++ (entry, g) ∷ [])) ≡ Some (entry, g) = found_behind (λ row. int_le g row.1) (r ∷ rows) (entry, g) nobody_has (at_itself g) in (
      ap Some (sym now),
      sym (ap (λ z. first_with (r ∷ (rows ++ (entry, g) ∷ [])) z) now ∙ ap (option_map (λ (row : ℕ × ℤ). row.0)) has),
    )
higher_case best r rows entry g false is highest first =
    let m : ℤ = fold int_max r.1 (map (λ row. row.1) rows) in
    let not_less : int_lt m g ≡ false = ap (λ z. int_lt z g) (sym highest) ∙ is in
    let now : fold int_max r.1 (map (λ row. row.1) (rows ++ (entry, g) ∷ [])) ≡ best.gross = greatest_push r rows entry g ∙ kept_lower m g not_less ∙ sym highest in
    let found = some_found (find (λ row. int_le best.gross row.1) (r ∷ rows)) best.entry first in
    let still : find (λ row. int_le best.gross row.1) (r ∷ (rows ++ (entry, g) ∷ [])) ≡ Some found.0 = found_before (λ row. int_le best.gross row.1) (r ∷ rows) (entry, g) found.0 found.1 in (
      ap Some (sym now),
      sym (ap (λ z. first_with (r ∷ (rows ++ (entry, g) ∷ [])) z) now ∙ ap (option_map (λ (row : ℕ × ℤ). row.0)) still ∙ ap Some found.2),
    )

some_before : (best : Best) (scores : Scores) (entry : ℕ) (g : ℤ) → Some best.gross ≡ highest_score scores → Some best.entry ≡ highest_entry scores
    → Both (better_of (Some best) entry g) (scores ++ (entry, g) ∷ [])
some_before best [] entry g highest first = absurd (cc highest)
some_before best (r ∷ rows) entry g highest first =
    let m : ℤ = fold int_max r.1 (map (λ row. row.1) rows) in
    let is : best.gross ≡ m = same_Some best.gross m highest in
    higher_case best r rows entry g (int_lt best.gross g) refl is (first ∙ ap (first_with (r ∷ rows)) (sym is))

pub best_push : (best : Option Best) (scores : Scores) (entry : ℕ) (g : ℤ) → highest_of best ≡ highest_score scores → entry_of best ≡ highest_entry scores
    → (highest_of (better_of best entry g) ≡ highest_score (scores ++ (entry, g) ∷ [])) × (entry_of (better_of best entry g) ≡ highest_entry (scores ++ (entry, g) ∷ []))
best_push None scores entry g highest first = none_yet scores entry g highest
best_push (Some best) scores entry g highest first = some_before best scores entry g highest first

-- the sum with one more
pub sum_push : (scores : Scores) (entry : ℕ) (g total : ℤ) → total ≡ sum_of_scores scores → total +ℤ g ≡ sum_of_scores (scores ++ (entry, g) ∷ [])
sum_push scores entry g total is = ap (λ z. z +ℤ g) is ∙ sym (fold_push (λ z (row : ℕ × ℤ). z +ℤ row.1) (pos 0) scores (entry, g))
