-- Who is among picks, one more at a time.
use Rattle.std.proofs.Common.{◌≡◌, ◌+◌, ◌∷◌, [], ◌++◌, ◌∙◌, ◌==◌, ◌&&◌, ◌||◌, ℕ, Bool, true, false, not, List, Some, cond, arith, take, refl, sym, ap, subst}
use Rattle.std.specs.List.{slice_get}
use Rattle.std.proofs.lemmas.Bool.Decides.{nat_tests}
use Rattle.rule_book.specs.declared.team.Pick.{Pick}
use Rattle.season_book.specs.Elements.{is_picked}
use Rattle.season_views.proofs.Lists.{take_next}

-- equal numbers are equal
pub equal : (m n : ℕ) → (m == n) ≡ true → m ≡ n
equal m n is = grind (arith, nat_tests, is)

picked_push : (picks : List Pick) (pick : Pick) (p : ℕ) → is_picked (picks ++ pick ∷ []) p ≡ (is_picked picks p || (pick.player == p))
picked_push [] pick p = by_test (pick.player == p)
  where
    by_test : (b : Bool) → (b || false) ≡ (false || b)
    by_test true = refl
    by_test false = refl
picked_push (q ∷ picks) pick p = ap (λ b. (q.player == p) || b) (picked_push picks pick p) ∙ by_test (q.player == p) (is_picked picks p) (pick.player == p)
  where
    by_test : (a b c : Bool) → (a || (b || c)) ≡ ((a || b) || c)
    by_test true b c = refl
    by_test false b c = refl

once : (before own : Bool) (n : ℕ) → (n + cond before 1 0) + cond (own && not before) 1 0 ≡ n + cond (before || own) 1 0
once true true n = omega arith
once true false n = omega arith
once false true n = omega arith
once false false n = omega arith

-- a player is counted once among the picks so far and one more
pub counted_once : (picks : List Pick) (place : ℕ) (pick : Pick) (p n old new : ℕ) → slice_get picks place ≡ Some pick → old ≡ n + cond (is_picked (take place picks) p) 1 0
    → new ≡ old + cond ((pick.player == p) && not (is_picked (take place picks) p)) 1 0 → new ≡ n + cond (is_picked (take (place + 1) picks) p) 1 0
counted_once picks place pick p n old new at so_far more =
    more ∙ ap (λ m. m + cond ((pick.player == p) && not (is_picked (take place picks) p)) 1 0) so_far
    ∙ once (is_picked (take place picks) p) (pick.player == p) n
    ∙ ap (λ b. n + cond b 1 0) (sym (picked_push (take place picks) pick p))
    ∙ ap (λ ps. n + cond (is_picked ps p) 1 0) (sym (take_next picks place pick at))

-- one who stands before is not counted again
pub not_again : (picks : List Pick) (player p n : ℕ) → is_picked picks player ≡ true → n ≡ n + cond ((player == p) && not (is_picked picks p)) 1 0
not_again picks player p n is = by_test (player == p) refl
  where
    by_test : (b : Bool) → (player == p) ≡ b → n ≡ n + cond (b && not (is_picked picks p)) 1 0
    by_test false other = omega arith
    by_test true same =
        let there : is_picked picks p ≡ true = ap (is_picked picks) (sym (equal player p same)) ∙ is in
        let stays : n ≡ n + cond (true && not true) 1 0 = omega arith in
        stays ∙ ap (λ b. n + cond (true && not b) 1 0) (sym there)

-- one who does not is
pub counted_now : (picks : List Pick) (player p : ℕ) (old new : ℕ → ℕ) → is_picked picks player ≡ false → new player ≡ old player + 1 → ((q : ℕ) → (player == q) ≡ false → new q ≡ old q)
    → new p ≡ old p + cond ((player == p) && not (is_picked picks p)) 1 0
counted_now picks player p old new is own others = by_test (player == p) refl
  where
    by_test : (b : Bool) → (player == p) ≡ b → new p ≡ old p + cond (b && not (is_picked picks p)) 1 0
    by_test false other = others p other ∙ omega arith
    by_test true same =
        subst (λ q. new q ≡ old q + cond (true && not (is_picked picks q)) 1 0) (equal player p same)
        (own ∙ ap (λ b. old player + cond (true && not b) 1 0) (sym is))
