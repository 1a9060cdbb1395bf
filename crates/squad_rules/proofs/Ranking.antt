-- The first of rows that stand in order, the better first.
use Rattle.std.proofs.Common.{◌≡◌, ◌∙◌, sym, refl, ap, subst, zero, suc, ℕ, ◌<◌, ◌≤◌, ℤ, ◌+ℤ◌, ◌≤ℤ◌, Bool, true, false, ◌&&◌, ◌⊎◌, inl, inr, List, [], ◌∷◌, ◌++◌, length, take, get_or, nat_lt, int_lt, arith, All, AllPairs}
use Rattle.std.specs.Ordering.{int_eq}
use Rattle.std.proofs.lemmas.Bool.{and_parts, or_cases, ltb-true}
use Rattle.std.proofs.lemmas.Bool.Decides.{Decides-int_eq}
use Rattle.std.proofs.lemmas.Int.{ints}
use Rattle.std.proofs.lemmas.List.Sums.{length-filter, count_by-le-length}
use Rattle.squad_rules.specs.Elevens.{Row, chosen, total_points, is_better}
use Rattle.squad_rules.proofs.Choosing.{filter_head, total-cons, total-append}

more_points : (x y : ℤ) → int_lt x y ≡ true → x ≤ℤ y
more_points x y e = grind (arith, ints)

not_less_both : (x y : ℤ) → int_lt x y ≡ true → int_lt y x ≡ true → ⊥
not_less_both x y e f = grind (arith, ints)

not_less_itself : (x y : ℤ) → x ≡ y → int_lt x y ≡ true → ⊥
not_less_itself x y same e = not_less_both x y e (subst (λ (z : ℤ). int_lt y z ≡ true) (sym same) (subst (λ (z : ℤ). int_lt z y ≡ true) same e))

same_points : (x y : ℤ) → x ≡ y → y ≤ℤ x
same_points x y e = omega (arith, ints, e)

pub better_points : (a b : Row) → is_better a b ≡ true → b.2 ≤ℤ a.2
better_points a b e = go (or_cases (int_lt b.2 a.2) (int_eq a.2 b.2 && nat_lt a.0 b.0) e)
  where
    go : (int_lt b.2 a.2 ≡ true) ⊎ ((int_eq a.2 b.2 && nat_lt a.0 b.0) ≡ true) → b.2 ≤ℤ a.2
    go (inl less) = more_points b.2 a.2 less
    go (inr both) = same_points a.2 b.2 ((Decides-int_eq a.2 b.2).0 (and_parts (int_eq a.2 b.2) (nat_lt a.0 b.0) both).0)

-- no two rows are better than each other
pub not_both_better : (a b : Row) → is_better a b ≡ true → is_better b a ≡ true → ⊥
not_both_better a b e f =
    go (or_cases (int_lt b.2 a.2) (int_eq a.2 b.2 && nat_lt a.0 b.0) e) (or_cases (int_lt a.2 b.2) (int_eq b.2 a.2 && nat_lt b.0 a.0) f)
  where
    go : (int_lt b.2 a.2 ≡ true) ⊎ ((int_eq a.2 b.2 && nat_lt a.0 b.0) ≡ true) → (int_lt a.2 b.2 ≡ true) ⊎ ((int_eq b.2 a.2 && nat_lt b.0 a.0) ≡ true) → ⊥
    go (inl one) (inl other) = not_less_both b.2 a.2 one other
    go (inl one) (inr other) = not_less_itself b.2 a.2 ((Decides-int_eq b.2 a.2).0 (and_parts (int_eq b.2 a.2) (nat_lt b.0 a.0) other).0) one
    go (inr one) (inl other) = not_less_itself a.2 b.2 ((Decides-int_eq a.2 b.2).0 (and_parts (int_eq a.2 b.2) (nat_lt a.0 b.0) one).0) other
    go (inr one) (inr other) =
        let up : a.0 < b.0 = ltb-true a.0 b.0 (and_parts (int_eq a.2 b.2) (nat_lt a.0 b.0) one).1 in
        let down : b.0 < a.0 = ltb-true b.0 a.0 (and_parts (int_eq b.2 a.2) (nat_lt b.0 a.0) other).1 in
        omega arith

abbrev pub Ranked : List Row → Type 0
Ranked rows = AllPairs (λ one other. is_better one other ≡ true) rows

ranked_tail : (x : Row) (xs : List Row) → Ranked (x ∷ xs) → Ranked xs
ranked_tail x xs ranked i j d less inside = ranked (suc i) (suc j) d (omega arith) (omega arith)

ranked_head : (x : Row) (xs : List Row) → Ranked (x ∷ xs) → All (λ (y : Row). y.2 ≤ℤ x.2) xs
ranked_head x xs ranked k d inside = better_points x (get_or xs k d) (ranked 0 (suc k) d (omega arith) (omega arith))

at_most_head : (x : Row) (t g u : ℤ) → t ≡ u +ℤ g → g ≤ℤ x.2 → t ≤ℤ (x.2 +ℤ u)
at_most_head x t g u e le = omega (arith, ints, e, le)

alone : (row : Row) → total_points (row ∷ []) ≡ row.2
alone row = omega (arith, ints)

-- one row behind the first k has no more points than one that is better than all
take_beside : (x : Row) (xs : List Row) (k : ℕ) → k < length xs → All (λ (y : Row). y.2 ≤ℤ x.2) xs → total_points (take (suc k) xs) ≤ℤ (x.2 +ℤ total_points (take k xs))
take_beside x xs k inside all =
    let row = get_or xs k x in
    let split : total_points (take (suc k) xs) ≡ total_points (take k xs) +ℤ row.2
    = ap total_points (take_suc xs k x inside) ∙ total-append (take k xs) (row ∷ []) ∙ ap (λ z. total_points (take k xs) +ℤ z) (alone row) in
    at_most_head x (total_points (take (suc k) xs)) row.2 (total_points (take k xs)) split (all k x inside)
  where
    take_suc : (xs : List Row) (k : ℕ) (d : Row) → k < length xs → take (suc k) xs ≡ take k xs ++ get_or xs k d ∷ []
    take_suc [] k d inside = absurd (omega arith)
    take_suc (y ∷ ys) zero d inside = refl
    take_suc (y ∷ ys) (suc k) d inside = ap (λ l. y ∷ l) (take_suc ys k d (omega arith))

grown : (x t u : ℤ) → t ≤ℤ u → (x +ℤ t) ≤ℤ (x +ℤ u)
grown x t u le = omega (arith, ints, le)

chain : (a b c : ℤ) → a ≤ℤ b → b ≤ℤ c → a ≤ℤ c
chain a b c one two = omega (arith, ints, one, two)

with_one : (x : Row) (xs ys : List Row) → total_points ys ≤ℤ total_points (take (length ys) xs) → total_points (x ∷ ys) ≤ℤ total_points (take (length (x ∷ ys)) (x ∷ xs))
with_one x xs ys le =
    let more = grown x.2 (total_points ys) (total_points (take (length ys) xs)) le in
    subst (λ (z : ℤ). z ≤ℤ total_points (x ∷ take (length ys) xs)) (sym (total-cons x ys))
    (subst (λ (z : ℤ). (x.2 +ℤ total_points ys) ≤ℤ z) (sym (total-cons x (take (length ys) xs))) more)

without_one : (k : ℕ) (t : ℤ) (x : Row) (xs : List Row) → k ≤ length xs → All (λ (y : Row). y.2 ≤ℤ x.2) xs → t ≤ℤ total_points (take k xs) → t ≤ℤ total_points (take k (x ∷ xs))
without_one zero t x xs few all le = le
without_one (suc k) t x xs few all le =
    chain t (total_points (take (suc k) xs)) (total_points (x ∷ take k xs)) le
    (subst (λ (z : ℤ). total_points (take (suc k) xs) ≤ℤ z) (sym (total-cons x (take k xs))) (take_beside x xs k (omega arith) all))

pub few_chosen : (choice : ℕ → Bool) (xs : List Row) → length (chosen choice xs) ≤ length xs
few_chosen choice xs =
    let number = length-filter (λ (row : Row). choice row.0) xs in
    let few = count_by-le-length (λ (row : Row). choice row.0) xs in
    omega (arith, number, few)

-- these rows have no more points than as many of the first
abbrev Most : Row → List Row → List Row → Type 0
Most x xs ys = total_points ys ≤ℤ total_points (take (length ys) (x ∷ xs))

-- no choice of rows in order has more points than as many of the first
pub first_are_most : (choice : ℕ → Bool) (xs : List Row) → Ranked xs → total_points (chosen choice xs) ≤ℤ total_points (take (length (chosen choice xs)) xs)
first_are_most choice [] ranked = omega (arith, ints)
first_are_most choice (x ∷ xs) ranked = go (choice x.0) refl (first_are_most choice xs (ranked_tail x xs ranked))
  where
    go : (b : Bool) → choice x.0 ≡ b → total_points (chosen choice xs) ≤ℤ total_points (take (length (chosen choice xs)) xs) → Most x xs (chosen choice (x ∷ xs))
    go true e rest =
        subst (Most x xs) (sym (filter_head (λ (r : Row). choice r.0) x xs true e)) (with_one x xs (chosen choice xs) rest)
    go false e rest =
        subst (Most x xs) (sym (filter_head (λ (r : Row). choice r.0) x xs false e))
        (without_one (length (chosen choice xs)) (total_points (chosen choice xs)) x xs (few_chosen choice xs) (ranked_head x xs ranked) rest)
