use Rattle.std.proofs.Common.{ℤ, ◌≡◌, refl, ◌+◌, ◌*◌, List, [], ◌∷◌, length, arith, Bool, true, false, cond}
use Rattle.std.specs.Prelude.{int_lt, if◌then◌else◌}
use Rattle.std.specs.Ordering.{is_eq, int_eq}
use Rattle.std.specs.declared.cmp.Ordering.TheVariants.{Less, Equal, Greater}
use Rattle.std.proofs.lemmas.Int.{ints}
use Rattle.std.proofs.lemmas.List.Sums.{sum_by-cons}
use Rattle.rule_book.specs.HeadToHead.{head_score, match_points}

not_both : (a b : ℤ) → int_lt a b ≡ true → int_lt b a ≡ true → ⊥
not_both a b more less = grind (arith, ints)

by_tests : (a b : ℤ) (more less : Bool) → int_lt b a ≡ more → int_lt a b ≡ less → cond more 1 0 + cond (is_eq (cond less Less (cond more Greater Equal))) 1 0 + cond less 1 0 ≡ 1
by_tests a b true true won lost = absurd (not_both b a won lost)
by_tests a b true false won lost = refl
by_tests a b false true won lost = refl
by_tests a b false false won lost = refl

points_by_tests : (more less : Bool) → (if more then 3 else (if is_eq (cond less Less (cond more Greater Equal)) then 1 else 0)) ≡ 3 * cond more 1 0 + cond (is_eq (cond less Less (cond more Greater Equal))) 1 0
points_by_tests true true = refl
points_by_tests true false = refl
points_by_tests false true = refl
points_by_tests false false = refl

-- each match is won, drawn or lost
pub results_add_up : (ms : List (ℤ × ℤ)) → (head_score ms).won + (head_score ms).drawn + (head_score ms).lost ≡ length ms
results_add_up [] = refl
results_add_up (m ∷ ms) =
    let won = sum_by-cons (λ (x : ℤ × ℤ). cond (int_lt x.1 x.0) 1 0) m ms in
    let drawn = sum_by-cons (λ (x : ℤ × ℤ). cond (int_eq x.0 x.1) 1 0) m ms in
    let lost = sum_by-cons (λ (x : ℤ × ℤ). cond (int_lt x.0 x.1) 1 0) m ms in
    let one = by_tests m.0 m.1 (int_lt m.1 m.0) (int_lt m.0 m.1) refl refl in
    let rest = results_add_up ms in
    omega (arith, won, drawn, lost, one, rest)

-- 3 match points for each match won, 1 for each drawn
pub points_add_up : (ms : List (ℤ × ℤ)) → (head_score ms).points ≡ 3 * (head_score ms).won + (head_score ms).drawn
points_add_up [] = refl
points_add_up (m ∷ ms) =
    let points = sum_by-cons (λ (x : ℤ × ℤ). match_points x.0 x.1) m ms in
    let won = sum_by-cons (λ (x : ℤ × ℤ). cond (int_lt x.1 x.0) 1 0) m ms in
    let drawn = sum_by-cons (λ (x : ℤ × ℤ). cond (int_eq x.0 x.1) 1 0) m ms in
    let one = points_by_tests (int_lt m.1 m.0) (int_lt m.0 m.1) in
    let rest = points_add_up ms in
    omega (arith, points, won, drawn, one, rest)
