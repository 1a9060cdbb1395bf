-- Who is better than all of the first rows.
use Rattle.std.proofs.Common.{◌≡◌, ◌∙◌, ◌==◌, sym, refl, ap, subst, ℕ, ◌+◌, ◌<◌, ◌≤◌, ℤ, Bool, true, false, ◌&&◌, ◌||◌, List, [], ◌∷◌, ◌++◌, length, map, take, get_or, nat_lt, int_lt, inl, inr, ◌⊎◌, arith, All, Some, if◌then◌else◌}
use Rattle.std.specs.Ordering.{int_eq}
use Rattle.std.proofs.lemmas.Bool.{and_parts, and_from, eqb-true, or_cases, or_left, or_right, false_from_ne_true, lt-ltb, ltb-true}
use Rattle.std.proofs.lemmas.Bool.Decides.{Decides-int_eq}
use Rattle.std.proofs.lemmas.Int.{ints}
use Rattle.std.proofs.lemmas.List.{get_or_default, take_more, take_all}
use Rattle.std.proofs.lemmas.List.Elements.{All-push, Contains-get_or}
use Rattle.rule_book.specs.Ranks.{AllDiffer}
use Rattle.squad_rules.specs.Elevens.{Row, is_better}
use Rattle.season_book.specs.TeamOfTheWeek.{top_of}
use Rattle.live_windows.proofs.Better.{not_better_itself}
use Rattle.live_windows.proofs.DreamIs.{top_is}

less_less : (x y z : ℤ) → int_lt y x ≡ true → int_lt z y ≡ true → int_lt z x ≡ true
less_less x y z e f = grind (arith, ints)

better_than : (x y z : ℤ) (l m n : ℕ) → (int_lt y x || (int_eq x y && nat_lt l m)) ≡ true → (int_lt z y || (int_eq y z && nat_lt m n)) ≡ true → (int_lt z x || (int_eq x z && nat_lt l n)) ≡ true
better_than x y z l m n e f = go (or_cases (int_lt y x) (int_eq x y && nat_lt l m) e) (or_cases (int_lt z y) (int_eq y z && nat_lt m n) f)
  where
    go : (int_lt y x ≡ true) ⊎ ((int_eq x y && nat_lt l m) ≡ true) → (int_lt z y ≡ true) ⊎ ((int_eq y z && nat_lt m n) ≡ true) → (int_lt z x || (int_eq x z && nat_lt l n)) ≡ true
    go (inl one) (inl other) = or_left (int_lt z x) (int_eq x z && nat_lt l n) (less_less x y z one other)
    go (inl one) (inr other) =
        let same : y ≡ z = (Decides-int_eq y z).0 (and_parts (int_eq y z) (nat_lt m n) other).0 in
        or_left (int_lt z x) (int_eq x z && nat_lt l n) (subst (λ (w : ℤ). int_lt w x ≡ true) same one)
    go (inr one) (inl other) =
        let same : x ≡ y = (Decides-int_eq x y).0 (and_parts (int_eq x y) (nat_lt l m) one).0 in
        or_left (int_lt z x) (int_eq x z && nat_lt l n) (subst (λ (w : ℤ). int_lt z w ≡ true) (sym same) other)
    go (inr one) (inr other) =
        let a = and_parts (int_eq x y) (nat_lt l m) one in
        let b = and_parts (int_eq y z) (nat_lt m n) other in
        let same : x ≡ z = (Decides-int_eq x y).0 a.0 ∙ (Decides-int_eq y z).0 b.0 in
        let up : l < m = ltb-true l m a.1 in
        let on : m < n = ltb-true m n b.1 in
        or_right (int_lt z x) (int_eq x z && nat_lt l n) (and_from (int_eq x z) (nat_lt l n) ((Decides-int_eq x z).1 same) (lt-ltb l n (omega (arith, up, on))))

better_trans : (a b c : Row) → is_better a b ≡ true → is_better b c ≡ true → is_better a c ≡ true
better_trans a b c e f = better_than a.2 b.2 c.2 a.0 b.0 c.0 e f

-- none of the first rows is better than this one
abbrev pub IsBestOf : List Row → ℕ → Row → Type 0
IsBestOf rows i best = All (λ other. is_better other best ≡ false) (take i rows)

-- of two places, one whose row is better, else the other
abbrev pub better_at : List Row → Row → ℕ → ℕ → ℕ
better_at rows d place best = if is_better (get_or rows place d) (get_or rows best d) then place else best

module _ (rows : List Row) (d : Row) (i best : ℕ) (within : i < length rows) (inside : best < length rows) (before : IsBestOf rows i (get_or rows best d)) where
  next : take (i + 1) rows ≡ take i rows ++ get_or rows i d ∷ []
  next = take_more rows i d within

  taken_over : is_better (get_or rows i d) (get_or rows best d) ≡ true → IsBestOf rows (i + 1) (get_or rows i d)
  taken_over e =
      subst (All (λ (other : Row). is_better other (get_or rows i d) ≡ false)) (sym next)
      (All-push (λ (other : Row). is_better other (get_or rows i d) ≡ false) (take i rows) (get_or rows i d)
      (λ k x lt. false_from_ne_true (is_better (get_or (take i rows) k x) (get_or rows i d)) (λ f.
      let above = better_trans (get_or (take i rows) k x) (get_or rows i d) (get_or rows best d) f e in absurd (cc (above, before k x lt))))
      (not_better_itself (get_or rows i d)))

  passed_by : is_better (get_or rows i d) (get_or rows best d) ≡ false → IsBestOf rows (i + 1) (get_or rows best d)
  passed_by e =
      subst (All (λ (other : Row). is_better other (get_or rows best d) ≡ false)) (sym next)
      (All-push (λ (other : Row). is_better other (get_or rows best d) ≡ false) (take i rows) (get_or rows i d) before e)

  -- with one more row the better of the two is the best
  pub one_more : (new : ℕ) → new ≡ better_at rows d i best → (new < length rows) × IsBestOf rows (i + 1) (get_or rows new d)
  one_more new made = go (is_better (get_or rows i d) (get_or rows best d)) refl
    where
      go : (b : Bool) → is_better (get_or rows i d) (get_or rows best d) ≡ b → (new < length rows) × IsBestOf rows (i + 1) (get_or rows new d)
      go true e =
          let is : new ≡ i = made ∙ ap (λ t. if t then i else best) e in
          (omega (arith, is, within), subst (λ n. IsBestOf rows (i + 1) (get_or rows n d)) (sym is) (taken_over e))
      go false e =
          let is : new ≡ best = made ∙ ap (λ t. if t then i else best) e in
          (omega (arith, is, inside), subst (λ n. IsBestOf rows (i + 1) (get_or rows n d)) (sym is) (passed_by e))

-- at the end it is the best of all
pub best_is_top : (rows : List Row) (d e : Row) (i best : ℕ) → length rows ≤ i → best < length rows → AllDiffer (map (λ row. row.0) rows) → IsBestOf rows i (get_or rows best d) → top_of rows ≡ Some (get_or rows best e)
best_is_top rows d e i best past inside differ is =
    top_is rows differ (get_or rows best d) (Contains-get_or rows best d inside)
    (subst (All (λ (other : Row). is_better other (get_or rows best d) ≡ false)) (take_all i rows past) is)
    ∙ ap Some (get_or_default rows best d e inside)

pub no_rows : (rows : List Row) → true ≡ (length rows == 0) → rows ≡ []
no_rows [] e = refl
no_rows (row ∷ rows) e = absurd (let long = eqb-true (length (row ∷ rows)) 0 (sym e) in omega (arith, long))
