-- Of two rows of different players one is better, and within a position one stands before the other.
use Rattle.std.proofs.Common.{◌≡◌, ◌≢◌, ◌∙◌, sym, refl, ap, subst, ℕ, ◌<◌, ◌≤◌, ℤ, Bool, true, false, ◌&&◌, ◌||◌, ◌==◌, List, length, map, get_or, nat_lt, int_lt, inl, inr, ◌⊎◌, arith, Contains}
use Rattle.std.specs.Ordering.{int_eq}
use Rattle.std.proofs.lemmas.Bool.{and_parts, and_from, or_cases, or_left, or_parts, or_right, false_from_ne_true, lt-ltb, ltb-true, ltb-false, eqb-true, cases_Bool, cases_order}
use Rattle.std.proofs.lemmas.Bool.Decides.{Decides-int_eq}
use Rattle.std.proofs.lemmas.Int.{ints}
use Rattle.std.proofs.lemmas.List.{get_or-map, get_or_default, length-map}
use Rattle.fpl_base.specs.declared.kinds.Position.{Position}
use Rattle.fpl_base.specs.declared.kinds.Position.TheVariants.{Keeper, Defender, Midfielder, Forward}
use Rattle.rule_book.specs.Ranks.{AllDiffer}
use Rattle.squad_rules.specs.Dreams.{place_of, stands_before}
use Rattle.squad_rules.specs.Elevens.{Row, is_better}

not_less_both : (x y : ℤ) → int_lt x y ≡ true → int_lt y x ≡ true → ⊥
not_less_both x y e f = grind (arith, ints)

same_by : (x y : ℤ) → int_lt x y ≡ false → int_lt y x ≡ false → x ≡ y
same_by x y e f = grind (arith, ints)

not_itself : (x : ℤ) → int_lt x x ≡ true → ⊥
not_itself x e = not_less_both x x e e

-- the same over points and ids
module _ (x y : ℤ) (m n : ℕ) where
  -- this much is better than that
  abbrev first : Bool
  first = int_lt y x || (int_eq x y && nat_lt m n)

  abbrev second : Bool
  second = int_lt x y || (int_eq y x && nat_lt n m)

  both_first : first ≡ true → second ≡ true → ⊥
  both_first e f = go (or_cases (int_lt y x) (int_eq x y && nat_lt m n) e) (or_cases (int_lt x y) (int_eq y x && nat_lt n m) f)
    where
      go : (int_lt y x ≡ true) ⊎ ((int_eq x y && nat_lt m n) ≡ true) → (int_lt x y ≡ true) ⊎ ((int_eq y x && nat_lt n m) ≡ true) → ⊥
      go (inl one) (inl other) = not_less_both y x one other
      go (inl one) (inr other) =
          let same : y ≡ x = (Decides-int_eq y x).0 (and_parts (int_eq y x) (nat_lt n m) other).0 in not_itself x (subst (λ (z : ℤ). int_lt z x ≡ true) same one)
      go (inr one) (inl other) =
          let same : x ≡ y = (Decides-int_eq x y).0 (and_parts (int_eq x y) (nat_lt m n) one).0 in not_itself y (subst (λ (z : ℤ). int_lt z y ≡ true) same other)
      go (inr one) (inr other) =
          let up : m < n = ltb-true m n (and_parts (int_eq x y) (nat_lt m n) one).1 in
          let down : n < m = ltb-true n m (and_parts (int_eq y x) (nat_lt n m) other).1 in
          omega (arith, up, down)

  neither : m ≢ n → first ≡ false → second ≡ true
  neither apart e = go (cases_Bool (int_lt x y))
    where
      go : (int_lt x y ≡ true) ⊎ (int_lt x y ≡ false) → second ≡ true
      go (inl less) = or_left (int_lt x y) (int_eq y x && nat_lt n m) less
      go (inr more) =
          let parts = or_parts (int_lt y x) (int_eq x y && nat_lt m n) e in
          let same : x ≡ y = same_by x y more parts.0 in
          let equal : int_eq x y ≡ true = (Decides-int_eq x y).1 same in
          let turned : int_eq y x ≡ true = (Decides-int_eq y x).1 (sym same) in
          let late : nat_lt m n ≡ false = ap (λ b. b && nat_lt m n) (sym equal) ∙ parts.1 in
          let le : n ≤ m = ltb-false m n late in
          let lt : n < m = omega (arith, le, apart) in
          or_right (int_lt x y) (int_eq y x && nat_lt n m) (and_from (int_eq y x) (nat_lt n m) turned (lt-ltb n m lt))

pub not_both_better : (a b : Row) → is_better a b ≡ true → is_better b a ≡ true → ⊥
not_both_better a b e f = both_first a.2 b.2 a.0 b.0 e f

pub one_is_better : (a b : Row) → a.0 ≢ b.0 → is_better a b ≡ false → is_better b a ≡ true
one_is_better a b apart e = neither a.2 b.2 a.0 b.0 apart e

pub not_better_itself : (a : Row) → is_better a a ≡ false
not_better_itself a = false_from_ne_true (is_better a a) (λ e. not_both_better a a e e)

-- where a position stands tells it
pub place_same : (p q : Position) → (place_of q == place_of p) ≡ true → q ≡ p
place_same Keeper Keeper e = refl
place_same Keeper Defender e = absurd (cc e)
place_same Keeper Midfielder e = absurd (cc e)
place_same Keeper Forward e = absurd (cc e)
place_same Defender Keeper e = absurd (cc e)
place_same Defender Defender e = refl
place_same Defender Midfielder e = absurd (cc e)
place_same Defender Forward e = absurd (cc e)
place_same Midfielder Keeper e = absurd (cc e)
place_same Midfielder Defender e = absurd (cc e)
place_same Midfielder Midfielder e = refl
place_same Midfielder Forward e = absurd (cc e)
place_same Forward Keeper e = absurd (cc e)
place_same Forward Defender e = absurd (cc e)
place_same Forward Midfielder e = absurd (cc e)
place_same Forward Forward e = refl

-- no two rows stand before each other
pub not_both_before : (a b : Row) → stands_before a b ≡ true → stands_before b a ≡ false
not_both_before a b e = false_from_ne_true (stands_before b a) (λ f. go (or_cases (nat_lt p q) (p == q && is_better a b) e) (or_cases (nat_lt q p) (q == p && is_better b a) f))
  where
    p : ℕ
    p = place_of a.1

    q : ℕ
    q = place_of b.1

    go : (nat_lt (place_of a.1) (place_of b.1) ≡ true) ⊎ ((place_of a.1 == place_of b.1 && is_better a b) ≡ true)
        → (nat_lt (place_of b.1) (place_of a.1) ≡ true) ⊎ ((place_of b.1 == place_of a.1 && is_better b a) ≡ true) → ⊥
    go (inl one) (inl other) =
        let up = ltb-true (place_of a.1) (place_of b.1) one in let down = ltb-true (place_of b.1) (place_of a.1) other in omega (arith, up, down)
    go (inl one) (inr other) =
        let up = ltb-true (place_of a.1) (place_of b.1) one in
        let same = eqb-true (place_of b.1) (place_of a.1) (and_parts (place_of b.1 == place_of a.1) (is_better b a) other).0 in
        omega (arith, up, same)
    go (inr one) (inl other) =
        let down = ltb-true (place_of b.1) (place_of a.1) other in
        let same = eqb-true (place_of a.1) (place_of b.1) (and_parts (place_of a.1 == place_of b.1) (is_better a b) one).0 in
        omega (arith, down, same)
    go (inr one) (inr other) = not_both_better a b (and_parts (place_of a.1 == place_of b.1) (is_better a b) one).1 (and_parts (place_of b.1 == place_of a.1) (is_better b a) other).1

pub not_before_itself : (a : Row) → stands_before a a ≡ false
not_before_itself a = go (cases_Bool (stands_before a a))
  where
    go : (stands_before a a ≡ true) ⊎ (stands_before a a ≡ false) → stands_before a a ≡ false
    go (inl e) = not_both_before a a e
    go (inr e) = e

-- of rows whose players differ, two of one player are one
pub same_row : (rows : List Row) (a b : Row) → AllDiffer (map (λ row. row.0) rows) → Contains rows a → Contains rows b → a.0 ≡ b.0 → a ≡ b
same_row rows a b differ (i, lt, is) (j, below, at) same = go (cases_order i j)
  where
    id_at : (k : ℕ) (x : Row) → k < length rows → get_or rows k x ≡ x → get_or (map (λ (row : Row). row.0) rows) k 0 ≡ x.0
    id_at k x inside e = get_or-map (λ (row : Row). row.0) rows k x 0 inside ∙ ap (λ (row : Row). row.0) e

    long : length (map (λ (row : Row). row.0) rows) ≡ length rows
    long = length-map rows (λ (row : Row). row.0)

    go : (i ≡ j) ⊎ ((i < j) ⊎ (j < i)) → a ≡ b
    go (inl equal) = sym is ∙ get_or_default rows i a b lt ∙ ap (λ k. get_or rows k b) equal ∙ at
    go (inr (inl less)) = absurd (differ i j 0 less (omega (arith, below, long)) (id_at i a lt is ∙ same ∙ sym (id_at j b below at)))
    go (inr (inr more)) = absurd (differ j i 0 more (omega (arith, lt, long)) (id_at j b below at ∙ sym same ∙ sym (id_at i a lt is)))
