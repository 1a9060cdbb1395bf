-- Three defenders and a forward make a legal formation.
use Rattle.std.proofs.Common.{◌≡◌, ℕ, zero, suc, ◌+◌, ◌≤◌, Bool, true, false, cond, leb, eqb, ◌&&◌, List, [], ◌∷◌, take, drop, length, refl, sym, ap, ◌∙◌, arith, length-take, length-drop, take-append-drop, drop-drop}
use Rattle.std.specs.List.{count_by, slice_get}
use Rattle.std.specs.Option.{option_map_or}
use Rattle.std.proofs.lemmas.List.Sums.{sum_by-append, sum_by-cons}
use Rattle.std.proofs.lemmas.Bool.{and_parts}
use Rattle.std.proofs.lemmas.Bool.Decides.{nat_tests}
use Rattle.fpl_base.specs.declared.kinds.Position.{Position}
use Rattle.fpl_base.specs.declared.kinds.Position.TheVariants.{Keeper, Defender, Midfielder, Forward}
use Rattle.rule_book.specs.Positions.{is_keeper, is_defender, is_midfielder, is_forward, keepers, defenders, midfielders, forwards}
use Rattle.rule_book.specs.Squads.{has_squad_shape}
use Rattle.rule_book.specs.Lineups.{has_keepers_in_place, is_formation, outfield, EnoughIsAlwaysFormation}

counted_more : (p : Position → Bool) (x : Position) (xs : List Position) → count_by p (x ∷ xs) ≡ cond (p x) 1 0 + count_by p xs
counted_more p x xs = sum_by-cons (λ y. cond (p y) 1 0) x xs

one_of_four : (x : Position) → cond (is_keeper x) 1 0 + cond (is_defender x) 1 0 + cond (is_midfielder x) 1 0 + cond (is_forward x) 1 0 ≡ 1
one_of_four Keeper = refl
one_of_four Defender = refl
one_of_four Midfielder = refl
one_of_four Forward = refl

-- each position is one of the four
pub all_of_four : (xs : List Position) → keepers xs + defenders xs + midfielders xs + forwards xs ≡ length xs
all_of_four [] = refl
all_of_four (x ∷ xs) =
    omega (arith, all_of_four xs, one_of_four x, counted_more is_keeper x xs, counted_more is_defender x xs, counted_more is_midfielder x xs, counted_more is_forward x xs)

-- a list by its first, the ten after it, and the others
counted_by_parts : (p : Position → Bool) (xs : List Position) → count_by p xs ≡ count_by p (take 1 xs) + (count_by p (outfield xs) + count_by p (drop 10 (drop 1 xs)))
counted_by_parts p xs =
    let f : Position → ℕ = λ y. cond (p y) 1 0 in
    sym (ap (count_by p) (take-append-drop 1 xs)) ∙ sum_by-append f (take 1 xs) (drop 1 xs)
    ∙ ap (λ n. count_by p (take 1 xs) + n) (sym (ap (count_by p) (take-append-drop 10 (drop 1 xs))) ∙ sum_by-append f (outfield xs) (drop 10 (drop 1 xs)))

at_least_one : (b : Bool) (m n : ℕ) → b ≡ true → n ≡ cond b 1 0 + m → 1 ≤ n
at_least_one true m n e h = omega arith
at_least_one false m n e h = absurd (cc)

counted_first : (p : Position → Bool) (xs : List Position) → option_map_or p (slice_get xs 0) false ≡ true → 1 ≤ count_by p (take 1 xs)
counted_first p [] e = absurd (cc)
counted_first p (x ∷ xs) e = at_least_one (p x) 0 (count_by p (x ∷ [])) e (counted_more p x [])

counted_behind : (p : Position → Bool) (n : ℕ) (xs : List Position) → option_map_or p (slice_get xs n) false ≡ true → 1 ≤ count_by p (drop n xs)
counted_behind p zero [] e = absurd (cc)
counted_behind p zero (x ∷ xs) e = at_least_one (p x) (count_by p xs) (count_by p (x ∷ xs)) e (counted_more p x xs)
counted_behind p (suc n) [] e = absurd (cc)
counted_behind p (suc n) (x ∷ xs) e = counted_behind p n xs e

-- the midfielders follow from the others, and the formation is legal
follows : (d m f : ℕ) → d + m + f ≡ 10 → d ≤ 5 → m ≤ 5 → f ≤ 3 → (leb 3 d && leb 1 f) ≡ is_formation d m f
follows d m f all few_d few_m few_f = grind (arith, nat_tests)

-- the four counts of a squad of the right shape
record HasShape (positions : List Position) : Type 0 where
  two_keepers : keepers positions ≡ 2
  five_defenders : defenders positions ≡ 5
  five_midfielders : midfielders positions ≡ 5
  three_forwards : forwards positions ≡ 3

four_counts : (a b c d : ℕ) → (eqb a 2 && eqb b 5 && eqb c 5 && eqb d 3) ≡ true → (a ≡ 2) × (b ≡ 5) × (c ≡ 5) × (d ≡ 3)
four_counts a b c d e = (grind (arith, nat_tests), grind (arith, nat_tests), grind (arith, nat_tests), grind (arith, nat_tests))

shape_of : (positions : List Position) → has_squad_shape positions ≡ true → HasShape positions
shape_of positions e =
    let four = four_counts (keepers positions) (defenders positions) (midfielders positions) (forwards positions) e in
    record { two_keepers = four.0; five_defenders = four.1; five_midfielders = four.2; three_forwards = four.3 }

-- ten outfield players start
ten_of : (positions : List Position) → length positions ≡ 15 → HasShape positions → has_keepers_in_place positions ≡ true → defenders (outfield positions) + midfielders (outfield positions) + forwards (outfield positions) ≡ 10
ten_of positions all shape placed =
    let two = and_parts _ _ placed in
    let first = counted_first is_keeper positions two.0 in
    let behind = counted_behind is_keeper 11 positions two.1 in
    let parts = counted_by_parts is_keeper positions in
    let along : drop 10 (drop 1 positions) ≡ drop 11 positions = drop-drop 10 1 positions in
    let behind_ten : 1 ≤ keepers (drop 10 (drop 1 positions)) = rw along behind in
    let none : keepers (outfield positions) ≡ 0 = omega (arith, shape.two_keepers, parts) in
    omega (arith, all_of_four (outfield positions), length-take 10 (drop 1 positions), length-drop 1 positions)

pub enough_always : EnoughIsAlwaysFormation
enough_always positions all shaped placed =
    let shape = shape_of positions shaped in
    let ten = ten_of positions all shape placed in
    let d = counted_by_parts is_defender positions in
    let m = counted_by_parts is_midfielder positions in
    let f = counted_by_parts is_forward positions in
    let few_d : defenders (outfield positions) ≤ 5 = omega (arith, shape.five_defenders, d) in
    let few_m : midfielders (outfield positions) ≤ 5 = omega (arith, shape.five_midfielders, m) in
    let few_f : forwards (outfield positions) ≤ 3 = omega (arith, shape.three_forwards, f) in
    record {
      two_midfielders = λ e. omega (arith, ten, few_d, few_f);
      formation = follows (defenders (outfield positions)) (midfielders (outfield positions)) (forwards (outfield positions)) ten few_d few_m few_f;
    }
