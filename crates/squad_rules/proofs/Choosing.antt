-- What a choice takes of rows: how many, and with how many points.
use Rattle.std.proofs.Common.{◌≡◌, ◌∙◌, sym, refl, ap, suc, ℕ, ◌+◌, ℤ, pos, negsuc, ◌+ℤ◌, ◌-ℤ◌, Bool, true, false, cond, List, [], ◌∷◌, ◌++◌, length, map, filter, take, drop, fold, sum_by, arith, All, IsPermutation}
use Rattle.std.proofs.lemmas.Int.{ints}
use Rattle.std.proofs.lemmas.List.{append-nil, take-append-drop}
use Rattle.std.proofs.lemmas.List.Elements.{All-head, All-tail, filter-append}
use Rattle.std.proofs.lemmas.List.Sorted.{sum_by-IsPermutation}
use Rattle.std.proofs.lemmas.List.Sums.{length-filter, sum_by-cons}
use Rattle.fpl_base.specs.declared.kinds.Position.{Position}
use Rattle.fpl_base.specs.declared.kinds.Position.TheVariants.{Keeper, Defender, Midfielder, Forward}
use Rattle.rule_book.specs.HeadToHead.{total_of}
use Rattle.squad_rules.specs.Elevens.{Row, chosen, total_points}
use Rattle.squad_rules.specs.Pools.{is_at}

regroup : (z x t : ℤ) → (z +ℤ x) +ℤ t ≡ z +ℤ ((pos 0 +ℤ x) +ℤ t)
regroup z x t = omega (arith, ints)

from_zero : (x t : ℤ) → (pos 0 +ℤ x) +ℤ t ≡ x +ℤ t
from_zero x t = omega (arith, ints)

nothing_more : (z : ℤ) → z ≡ z +ℤ pos 0
nothing_more z = omega (arith, ints)

nothing_before : (z : ℤ) → z ≡ pos 0 +ℤ z
nothing_before z = omega (arith, ints)

add_assoc_z : (x y z : ℤ) → x +ℤ (y +ℤ z) ≡ (x +ℤ y) +ℤ z
add_assoc_z x y z = omega (arith, ints)

total_from : (z : ℤ) (xs : List ℤ) → fold ◌+ℤ◌ z xs ≡ z +ℤ total_of xs
total_from z [] = nothing_more z
total_from z (x ∷ xs) =
    total_from (z +ℤ x) xs ∙ regroup z x (total_of xs) ∙ ap (λ s. z +ℤ s) (sym (total_from (pos 0 +ℤ x) xs))

pub total-cons : (row : Row) (rows : List Row) → total_points (row ∷ rows) ≡ row.2 +ℤ total_points rows
total-cons row rows =
    let points : List ℤ = map (λ r. r.2) rows in
    total_from (pos 0 +ℤ row.2) points ∙ from_zero row.2 (total_of points)

pub total-append : (xs ys : List Row) → total_points (xs ++ ys) ≡ total_points xs +ℤ total_points ys
total-append [] ys = nothing_before (total_points ys)
total-append (x ∷ xs) ys =
    total-cons x (xs ++ ys) ∙ ap (λ z. x.2 +ℤ z) (total-append xs ys) ∙ add_assoc_z x.2 (total_points xs) (total_points ys)
    ∙ ap (λ z. z +ℤ total_points ys) (sym (total-cons x xs))

-- what a filter keeps of one row more
pub filter_head : {X : Type 0} (p : X → Bool) (x : X) (xs : List X) (b : Bool) → p x ≡ b → filter p (x ∷ xs) ≡ cond b (x ∷ filter p xs) (filter p xs)
filter_head p x xs b e = ap (λ t. cond t (x ∷ filter p xs) (filter p xs)) e

swap_at : {X : Type 0} (p q : X → Bool) (x : X) (xs : List X) (a b : Bool) → p x ≡ a → q x ≡ b → filter p (filter q xs) ≡ filter q (filter p xs) → filter p (filter q (x ∷ xs)) ≡ filter q (filter p (x ∷ xs))
swap_at p q x xs true true ep eq rest =
    ap (filter p) (filter_head q x xs true eq) ∙ filter_head p x (filter q xs) true ep ∙ ap (λ l. x ∷ l) rest
    ∙ sym (ap (filter q) (filter_head p x xs true ep) ∙ filter_head q x (filter p xs) true eq)
swap_at p q x xs true false ep eq rest =
    ap (filter p) (filter_head q x xs false eq) ∙ rest
    ∙ sym (ap (filter q) (filter_head p x xs true ep) ∙ filter_head q x (filter p xs) false eq)
swap_at p q x xs false true ep eq rest =
    ap (filter p) (filter_head q x xs true eq) ∙ filter_head p x (filter q xs) false ep ∙ rest
    ∙ sym (ap (filter q) (filter_head p x xs false ep))
swap_at p q x xs false false ep eq rest =
    ap (filter p) (filter_head q x xs false eq) ∙ rest ∙ sym (ap (filter q) (filter_head p x xs false ep))

-- two filters in either order
pub filter_swap : {X : Type 0} (p q : X → Bool) (xs : List X) → filter p (filter q xs) ≡ filter q (filter p xs)
filter_swap p q [] = refl
filter_swap p q (x ∷ xs) = swap_at p q x xs (p x) (q x) refl refl (filter_swap p q xs)

keeps_all : {X : Type 0} (p : X → Bool) (xs : List X) → All (λ x. p x ≡ true) xs → filter p xs ≡ xs
keeps_all p [] all = refl
keeps_all p (x ∷ xs) all =
    filter_head p x xs true (All-head (λ y. p y ≡ true) x xs all) ∙ ap (λ l. x ∷ l) (keeps_all p xs (All-tail (λ y. p y ≡ true) x xs all))

keeps_none : {X : Type 0} (p : X → Bool) (xs : List X) → All (λ x. p x ≡ false) xs → filter p xs ≡ []
keeps_none p [] all = refl
keeps_none p (x ∷ xs) all =
    filter_head p x xs false (All-head (λ y. p y ≡ false) x xs all) ∙ keeps_none p xs (All-tail (λ y. p y ≡ false) x xs all)

-- a filter that passes the first n, and none behind them
pub keeps_first : {X : Type 0} (p : X → Bool) (n : ℕ) (xs : List X) → All (λ x. p x ≡ true) (take n xs) → All (λ x. p x ≡ false) (drop n xs) → filter p xs ≡ take n xs
keeps_first p n xs front back =
    ap (filter p) (sym (take-append-drop n xs)) ∙ filter-append p (take n xs) (drop n xs)
    ∙ ap (λ l. l ++ filter p (drop n xs)) (keeps_all p (take n xs) front) ∙ ap (λ l. take n xs ++ l) (keeps_none p (drop n xs) back)
    ∙ append-nil (take n xs)

gain : ℤ → ℕ
gain (pos n) = n
gain (negsuc n) = 0

loss : ℤ → ℕ
loss (pos n) = 0
loss (negsuc n) = suc n

gain_less_loss : (z : ℤ) → z ≡ pos (gain z) -ℤ pos (loss z)
unfolding gain loss
gain_less_loss (pos n) = omega (arith, ints)
gain_less_loss (negsuc n) = omega (arith, ints)

weighed : (z : ℤ) (g l : ℕ) (t : ℤ) (s m : ℕ) → z ≡ pos g -ℤ pos l → t ≡ pos s -ℤ pos m → z +ℤ t ≡ pos (g + s) -ℤ pos (l + m)
weighed z g l t s m e f = omega (arith, ints, e, f)

module _ (choice : ℕ → Bool) where
  abbrev gain_of : Row → ℕ
  gain_of row = cond (choice row.0) (gain row.2) 0

  abbrev loss_of : Row → ℕ
  loss_of row = cond (choice row.0) (loss row.2) 0

  weigh_one : (row : Row) (rows : List Row) (b : Bool) → choice row.0 ≡ b → total_points (chosen choice rows) ≡ pos (sum_by gain_of rows) -ℤ pos (sum_by loss_of rows)
      → total_points (chosen choice (row ∷ rows)) ≡ pos (cond b (gain row.2) 0 + sum_by gain_of rows) -ℤ pos (cond b (loss row.2) 0 + sum_by loss_of rows)
  weigh_one row rows true e rest =
      ap total_points (filter_head (λ (r : Row). choice r.0) row rows true e) ∙ total-cons row (chosen choice rows)
      ∙ weighed row.2 (gain row.2) (loss row.2) (total_points (chosen choice rows)) (sum_by gain_of rows) (sum_by loss_of rows) (gain_less_loss row.2) rest
  weigh_one row rows false e rest =
      ap total_points (filter_head (λ (r : Row). choice r.0) row rows false e) ∙ omega (arith, ints, rest)

  weigh : (rows : List Row) → total_points (chosen choice rows) ≡ pos (sum_by gain_of rows) -ℤ pos (sum_by loss_of rows)
  weigh [] = omega (arith, ints)
  weigh (row ∷ rows) =
      let g : sum_by gain_of (row ∷ rows) ≡ gain_of row + sum_by gain_of rows = sum_by-cons gain_of row rows in
      let l : sum_by loss_of (row ∷ rows) ≡ loss_of row + sum_by loss_of rows = sum_by-cons loss_of row rows in
      weigh_one row rows (choice row.0) refl (weigh rows) ∙ ap (λ n. pos n -ℤ pos (loss_of row + sum_by loss_of rows)) (sym g) ∙ ap (λ n. pos (sum_by gain_of (row ∷ rows)) -ℤ pos n) (sym l)

  -- a choice takes as many points of the same rows in another order
  pub chosen_total : (xs ys : List Row) → IsPermutation xs ys → total_points (chosen choice ys) ≡ total_points (chosen choice xs)
  chosen_total xs ys same =
      weigh ys ∙ ap (λ n. pos n -ℤ pos (sum_by loss_of ys)) (sum_by-IsPermutation gain_of xs ys same)
      ∙ ap (λ n. pos (sum_by gain_of xs) -ℤ pos n) (sum_by-IsPermutation loss_of xs ys same) ∙ sym (weigh xs)

  -- and as many rows
  pub chosen_length : (xs ys : List Row) → IsPermutation xs ys → length (chosen choice ys) ≡ length (chosen choice xs)
  chosen_length xs ys same =
      length-filter (λ (row : Row). choice row.0) ys ∙ sum_by-IsPermutation (λ (row : Row). cond (choice row.0) 1 0) xs ys same
      ∙ sym (length-filter (λ (row : Row). choice row.0) xs)

-- the rows of a position
abbrev pub part : Position → List Row → List Row
part position rows = filter (λ row. is_at position row.1) rows

part_here : (position : Position) (row : Row) (rows : List Row) → is_at position row.1 ≡ true
    → (total_points (part position (row ∷ rows)) ≡ row.2 +ℤ total_points (part position rows)) × (length (part position (row ∷ rows)) ≡ suc (length (part position rows)))
part_here position row rows e =
    let head = filter_head (λ (r : Row). is_at position r.1) row rows true e in
    (ap total_points head ∙ total-cons row (part position rows), ap length head)

part_past : (position : Position) (row : Row) (rows : List Row) → is_at position row.1 ≡ false
    → (total_points (part position (row ∷ rows)) ≡ total_points (part position rows)) × (length (part position (row ∷ rows)) ≡ length (part position rows))
part_past position row rows e =
    let head = filter_head (λ (r : Row). is_at position r.1) row rows false e in
    (ap total_points head, ap length head)

-- rows are those of the four positions
pub record HasFourParts (rows : List Row) : Type 0 where
  pub total : total_points rows ≡ (total_points (part Keeper rows) +ℤ total_points (part Defender rows)) +ℤ (total_points (part Midfielder rows) +ℤ total_points (part Forward rows))
  pub number : length rows ≡ (length (part Keeper rows) + length (part Defender rows)) + (length (part Midfielder rows) + length (part Forward rows))

first_of_four : (t z a b c d a' b' c' d' : ℤ) → t ≡ z +ℤ ((a +ℤ b) +ℤ (c +ℤ d)) → a' ≡ z +ℤ a → b' ≡ b → c' ≡ c → d' ≡ d → t ≡ (a' +ℤ b') +ℤ (c' +ℤ d')
first_of_four t z a b c d a' b' c' d' e f g h i = omega (arith, ints, e, f, g, h, i)

second_of_four : (t z a b c d a' b' c' d' : ℤ) → t ≡ z +ℤ ((a +ℤ b) +ℤ (c +ℤ d)) → a' ≡ a → b' ≡ z +ℤ b → c' ≡ c → d' ≡ d → t ≡ (a' +ℤ b') +ℤ (c' +ℤ d')
second_of_four t z a b c d a' b' c' d' e f g h i = omega (arith, ints, e, f, g, h, i)

third_of_four : (t z a b c d a' b' c' d' : ℤ) → t ≡ z +ℤ ((a +ℤ b) +ℤ (c +ℤ d)) → a' ≡ a → b' ≡ b → c' ≡ z +ℤ c → d' ≡ d → t ≡ (a' +ℤ b') +ℤ (c' +ℤ d')
third_of_four t z a b c d a' b' c' d' e f g h i = omega (arith, ints, e, f, g, h, i)

fourth_of_four : (t z a b c d a' b' c' d' : ℤ) → t ≡ z +ℤ ((a +ℤ b) +ℤ (c +ℤ d)) → a' ≡ a → b' ≡ b → c' ≡ c → d' ≡ z +ℤ d → t ≡ (a' +ℤ b') +ℤ (c' +ℤ d')
fourth_of_four t z a b c d a' b' c' d' e f g h i = omega (arith, ints, e, f, g, h, i)

one_more_part : (row : Row) (rows : List Row) (position : Position) → row.1 ≡ position → HasFourParts rows → HasFourParts (row ∷ rows)
one_more_part row rows Keeper e rest =
    let k = part_here Keeper row rows (ap (is_at Keeper) e) in
    let d = part_past Defender row rows (ap (is_at Defender) e) in
    let m = part_past Midfielder row rows (ap (is_at Midfielder) e) in
    let f = part_past Forward row rows (ap (is_at Forward) e) in
    record {
      total = first_of_four _ row.2 _ _ _ _ _ _ _ _ (total-cons row rows ∙ ap (λ z. row.2 +ℤ z) rest.total) k.0 d.0 m.0 f.0;
      number = omega (arith, k.1, d.1, m.1, f.1, rest.number);
    }
one_more_part row rows Defender e rest =
    let k = part_past Keeper row rows (ap (is_at Keeper) e) in
    let d = part_here Defender row rows (ap (is_at Defender) e) in
    let m = part_past Midfielder row rows (ap (is_at Midfielder) e) in
    let f = part_past Forward row rows (ap (is_at Forward) e) in
    record {
      total = second_of_four _ row.2 _ _ _ _ _ _ _ _ (total-cons row rows ∙ ap (λ z. row.2 +ℤ z) rest.total) k.0 d.0 m.0 f.0;
      number = omega (arith, k.1, d.1, m.1, f.1, rest.number);
    }
one_more_part row rows Midfielder e rest =
    let k = part_past Keeper row rows (ap (is_at Keeper) e) in
    let d = part_past Defender row rows (ap (is_at Defender) e) in
    let m = part_here Midfielder row rows (ap (is_at Midfielder) e) in
    let f = part_past Forward row rows (ap (is_at Forward) e) in
    record {
      total = third_of_four _ row.2 _ _ _ _ _ _ _ _ (total-cons row rows ∙ ap (λ z. row.2 +ℤ z) rest.total) k.0 d.0 m.0 f.0;
      number = omega (arith, k.1, d.1, m.1, f.1, rest.number);
    }
one_more_part row rows Forward e rest =
    let k = part_past Keeper row rows (ap (is_at Keeper) e) in
    let d = part_past Defender row rows (ap (is_at Defender) e) in
    let m = part_past Midfielder row rows (ap (is_at Midfielder) e) in
    let f = part_here Forward row rows (ap (is_at Forward) e) in
    record {
      total = fourth_of_four _ row.2 _ _ _ _ _ _ _ _ (total-cons row rows ∙ ap (λ z. row.2 +ℤ z) rest.total) k.0 d.0 m.0 f.0;
      number = omega (arith, k.1, d.1, m.1, f.1, rest.number);
    }

pub four_parts : (rows : List Row) → HasFourParts rows
four_parts [] = record { total = omega (arith, ints); number = omega arith }
four_parts (row ∷ rows) = one_more_part row rows row.1 refl (four_parts rows)
