-- The formations, tried one after another.
use Rattle.std.proofs.Common.{◌≡◌, ◌≢◌, ◌∙◌, sym, refl, ap, subst, ℕ, ◌+◌, ◌<◌, ◌≤◌, ℤ, ◌+ℤ◌, ◌≤ℤ◌, Bool, true, false, ◌&&◌, ◌==◌, ◌⊎◌, inl, inr, List, ◌++◌, length, take, Option, Some, None, option_and_then, nat_lt, nat_le, int_lt, cond, arith}
use Rattle.std.proofs.lemmas.Bool.{and_parts, and_from, or_cases, or_left, or_right, false≢true, cases_Bool, ltb-true, lt-ltb, eqb-true, eq-eqb, cases_order}
use Rattle.std.proofs.lemmas.Bool.Decides.{nat_tests}
use Rattle.std.proofs.lemmas.Int.{ints}
use Rattle.fpl_base.specs.declared.kinds.Position.{Position}
use Rattle.fpl_base.specs.declared.kinds.Position.TheVariants.{Keeper, Defender, Midfielder, Forward}
use Rattle.rule_book.specs.Lineups.{is_formation}
use Rattle.squad_rules.specs.Elevens.{Row, total_points}
use Rattle.squad_rules.specs.Pools.{first_of, has_enough, tried, preferred, is_before, IsBestBefore, HasNoneBefore, Finds}
use Rattle.squad_rules.specs.declared.formations.Best.{Best}
use Rattle.squad_rules.proofs.Choosing.{total-append}

pub four_tests : (a b c d : Bool) → (a && b && c && d) ≡ true → (a ≡ true) × (b ≡ true) × (c ≡ true) × (d ≡ true)
four_tests a b c d e =
    let three = and_parts (a && b && c) d e in
    let two = and_parts (a && b) c three.0 in
    let one = and_parts a b two.0 in
    (one.0, one.1, two.1, three.1)

pub all_four : (a b c d : Bool) → a ≡ true → b ≡ true → c ≡ true → d ≡ true → (a && b && c && d) ≡ true
all_four a b c d e f g h = and_from (a && b && c) d (and_from (a && b) c (and_from a b e f) g) h

-- what a formation is, in numbers
pub record IsInRange (d m f : ℕ) : Type 0 where
  pub defenders : (3 ≤ d) × (d ≤ 5)
  pub midfielders : (2 ≤ m) × (m ≤ 5)
  pub ten : d + m + f ≡ 10

pub in_range : (d m f : ℕ) → is_formation d m f ≡ true → IsInRange d m f
in_range d m f e = record {
  defenders = (grind (arith, nat_tests), grind (arith, nat_tests));
  midfielders = (grind (arith, nat_tests), grind (arith, nat_tests));
  ten = grind (arith, nat_tests);
}

before_is : (a b d m : ℕ) → is_before a b d m ≡ true → (a < d) ⊎ ((a ≡ d) × (b < m))
before_is a b d m e = go (or_cases (nat_lt a d) (a == d && nat_lt b m) e)
  where
    go : (nat_lt a d ≡ true) ⊎ ((a == d && nat_lt b m) ≡ true) → (a < d) ⊎ ((a ≡ d) × (b < m))
    go (inl less) = inl (ltb-true a d less)
    go (inr both) =
        let two = and_parts (a == d) (nat_lt b m) both in
        inr (eqb-true a d two.0, ltb-true b m two.1)

pub is_before_by : (a b d m : ℕ) → (a < d) ⊎ ((a ≡ d) × (b < m)) → is_before a b d m ≡ true
is_before_by a b d m (inl less) = or_left (nat_lt a d) (a == d && nat_lt b m) (lt-ltb a d less)
is_before_by a b d m (inr (same, less)) =
    or_right (nat_lt a d) (a == d && nat_lt b m) (and_from (a == d) (nat_lt b m) (eq-eqb a d same) (lt-ltb b m less))

-- a formation before another, and that before a third
before_both : (a b d m x y : ℕ) → is_before a b d m ≡ true → is_before d m x y ≡ true → is_before a b x y ≡ true
before_both a b d m x y e f = go (before_is a b d m e) (before_is d m x y f)
  where
    go : (a < d) ⊎ ((a ≡ d) × (b < m)) → (d < x) ⊎ ((d ≡ x) × (m < y)) → is_before a b x y ≡ true
    go (inl one) (inl other) = is_before_by a b x y (inl (omega arith))
    go (inl one) (inr (same, less)) = is_before_by a b x y (inl (omega arith))
    go (inr (same, less)) (inl other) = is_before_by a b x y (inl (omega arith))
    go (inr (same, less)) (inr (too, more)) = is_before_by a b x y (inr (omega arith, omega arith))

here : (d m : ℕ) → is_before d m d (m + 1) ≡ true
here d m = is_before_by d m d (m + 1) (inr (refl, omega arith))

more_before : (a b d m : ℕ) → is_before a b d (m + 1) ≡ true → (is_before a b d m ≡ true) ⊎ ((a ≡ d) × (b ≡ m))
more_before a b d m e = go (before_is a b d (m + 1) e)
  where
    at : (a ≡ d) → (b < m + 1) → (b ≡ m) ⊎ ((b < m) ⊎ (m < b)) → (is_before a b d m ≡ true) ⊎ ((a ≡ d) × (b ≡ m))
    at same below (inl equal) = inr (same, equal)
    at same below (inr (inl less)) = inl (is_before_by a b d m (inr (same, less)))
    at same below (inr (inr more)) = absurd (omega arith)

    go : (a < d) ⊎ ((a ≡ d) × (b < m + 1)) → (is_before a b d m ≡ true) ⊎ ((a ≡ d) × (b ≡ m))
    go (inl less) = inl (is_before_by a b d m (inl less))
    go (inr (same, below)) = at same below (cases_order b m)

-- with all of d defenders tried, those of fewer than one more are
row_done : (a b c d : ℕ) → is_before a b (d + 1) 0 ≡ true → is_formation a b c ≡ true → is_before a b d 6 ≡ true
row_done a b c d e formation = go (before_is a b (d + 1) 0 e) (in_range a b c formation)
  where
    at : a < d + 1 → IsInRange a b c → (a ≡ d) ⊎ ((a < d) ⊎ (d < a)) → is_before a b d 6 ≡ true
    at below range (inl equal) = is_before_by a b d 6 (inr (equal, omega (arith, range.midfielders.1)))
    at below range (inr (inl less)) = is_before_by a b d 6 (inl less)
    at below range (inr (inr more)) = absurd (omega arith)

    go : (a < d + 1) ⊎ ((a ≡ d + 1) × (b < 0)) → IsInRange a b c → is_before a b d 6 ≡ true
    go (inl below) range = at below range (cases_order a d)
    go (inr (same, none)) range = absurd (omega arith)

-- what is found stays so where no more formations come before
kept_on : (pools : Position → List Row) (d m x y : ℕ) (best : Option Best) → ((a b : ℕ) → is_before a b d m ≡ true → is_before a b x y ≡ true)
    → ((a b c : ℕ) → is_before a b x y ≡ true → is_formation a b c ≡ true → is_before a b d m ≡ true) → Finds pools d m best → Finds pools x y best
kept_on pools d m x y None up down none = λ a b c before formation. none a b c (down a b c before formation) formation
kept_on pools d m x y (Some best) up down is = record {
  formation = is.formation;
  enough = is.enough;
  total = is.total;
  before = up best.defenders best.midfielders is.before;
  greatest = λ a b c before formation enough. is.greatest a b c (down a b c before formation) formation enough;
  first = is.first;
}

pub begin : (pools : Position → List Row) → Finds pools 3 0 None
begin pools a b c before formation = go (before_is a b 3 0 before) (in_range a b c formation)
  where
    go : (a < 3) ⊎ ((a ≡ 3) × (b < 0)) → IsInRange a b c → has_enough pools a b c ≡ false
    go (inl less) range = absurd (omega (arith, range.defenders.0))
    go (inr (same, less)) range = absurd (omega arith)

pub row_end : (pools : Position → List Row) (d : ℕ) (best : Option Best) → Finds pools d 6 best → Finds pools (d + 1) 0 best
row_end pools d best finds =
    kept_on pools d 6 (d + 1) 0 best (λ a b before. up a b (before_is a b d 6 before)) (λ a b c before formation. row_done a b c d before formation) finds
  where
    up : (a b : ℕ) → (a < d) ⊎ ((a ≡ d) × (b < 6)) → is_before a b (d + 1) 0 ≡ true
    up a b (inl less) = is_before_by a b (d + 1) 0 (inl (omega arith))
    up a b (inr (same, less)) = is_before_by a b (d + 1) 0 (inl (omega arith))

step_up : (a b d m : ℕ) → is_before a b d m ≡ true → is_before a b d (m + 1) ≡ true
step_up a b d m before = before_both a b d m d (m + 1) before (here d m)

-- no formation has so many defenders and midfielders
pub none_here : (pools : Position → List Row) (d m : ℕ) (best : Option Best) → ((c : ℕ) → is_formation d m c ≡ false) → Finds pools d m best → Finds pools d (m + 1) best
none_here pools d m best none finds =
    kept_on pools d m d (m + 1) best (λ a b before. step_up a b d m before) (λ a b c before formation. go a b c (more_before a b d m before) formation) finds
  where
    go : (a b c : ℕ) → (is_before a b d m ≡ true) ⊎ ((a ≡ d) × (b ≡ m)) → is_formation a b c ≡ true → is_before a b d m ≡ true
    go a b c (inl before) formation = before
    go a b c (inr (same, too)) formation =
        absurd (false≢true (sym (none c) ∙ sym (ap (λ n. is_formation n b c) same ∙ ap (λ n. is_formation d n c) too) ∙ formation))

pub no_other : (d m f : ℕ) → d + m + f ≡ 10 → is_formation d m f ≡ false → (c : ℕ) → is_formation d m c ≡ false
no_other d m f ten none c = go (cases_Bool (is_formation d m c))
  where
    go : (is_formation d m c ≡ true) ⊎ (is_formation d m c ≡ false) → is_formation d m c ≡ false
    go (inl e) =
        let same : c ≡ f = omega (arith, (in_range d m c e).ten, ten) in
        ap (is_formation d m) same ∙ none
    go (inr e) = e

abbrev best_with : ℕ → ℕ → ℕ → ℤ → Best
best_with d m f total = record { defenders = d; midfielders = m; forwards = f; total = total }

less_chain : (a b c : ℤ) → a ≤ℤ b → int_lt b c ≡ true → a ≤ℤ c
less_chain a b c le less = grind (arith, ints)

not_less : (a b : ℤ) → int_lt a b ≡ false → b ≤ℤ a
not_less a b e = grind (arith, ints)

below_not_same : (a b c : ℤ) → a ≤ℤ b → int_lt b c ≡ true → a ≢ c
below_not_same a b c le less same = grind (arith, ints)

less_itself : (a : ℤ) → a ≤ℤ a
less_itself a = omega (arith, ints)

pub points_of_first : (pools : Position → List Row) (d m f : ℕ) → total_points (first_of pools d m f) ≡ total_points (take 1 (pools Keeper)) +ℤ (total_points (take d (pools Defender)) +ℤ (total_points (take m (pools Midfielder)) +ℤ total_points (take f (pools Forward))))
points_of_first pools d m f =
    total-append (take 1 (pools Keeper)) (take d (pools Defender) ++ (take m (pools Midfielder) ++ take f (pools Forward)))
    ∙ ap (λ z. total_points (take 1 (pools Keeper)) +ℤ z) (total-append (take d (pools Defender)) (take m (pools Midfielder) ++ take f (pools Forward))
    ∙ ap (λ z. total_points (take d (pools Defender)) +ℤ z) (total-append (take m (pools Midfielder)) (take f (pools Forward))))

by_four : (d m f : ℕ) (a b c e : Bool) (w x y z : ℤ)
    → option_and_then (λ in_goal. option_and_then (λ behind. option_and_then (λ middle.
    option_and_then (λ front. Some (best_with d m f (in_goal +ℤ (behind +ℤ (middle +ℤ front))))) (cond e (Some z) None))
    (cond c (Some y) None)) (cond b (Some x) None)) (cond a (Some w) None)
    ≡ cond (a && b && c && e) (Some (best_with d m f (w +ℤ (x +ℤ (y +ℤ z))))) None
by_four d m f true true true true w x y z = refl
by_four d m f true true true false w x y z = refl
by_four d m f true true false e w x y z = refl
by_four d m f true false c e w x y z = refl
by_four d m f false b c e w x y z = refl

module _ (pools : Position → List Row) (d m f : ℕ) (formation : is_formation d m f ≡ true) where
  abbrev made : Best
  made = record { defenders = d; midfielders = m; forwards = f; total = total_points (first_of pools d m f) }

  -- a formation with as many defenders and midfielders is this one
  same_third : (a b c : ℕ) → (a ≡ d) × (b ≡ m) → is_formation a b c ≡ true → c ≡ f
  same_third a b c (e, g) other = omega (arith, (in_range a b c other).ten, (in_range d m f formation).ten, e, g)

  same_total : (a b c : ℕ) → (a ≡ d) × (b ≡ m) → is_formation a b c ≡ true → total_points (first_of pools a b c) ≡ total_points (first_of pools d m f)
  same_total a b c (e, g) other =
      ap (λ n. total_points (first_of pools n b c)) e ∙ ap (λ n. total_points (first_of pools d n c)) g
      ∙ ap (λ n. total_points (first_of pools d m n)) (same_third a b c (e, g) other)

  same_enough : (a b c : ℕ) → (a ≡ d) × (b ≡ m) → is_formation a b c ≡ true → has_enough pools a b c ≡ has_enough pools d m f
  same_enough a b c (e, g) other =
      ap (λ n. has_enough pools n b c) e ∙ ap (λ n. has_enough pools d n c) g ∙ ap (has_enough pools d m) (same_third a b c (e, g) other)

  none_more : HasNoneBefore pools d m → has_enough pools d m f ≡ false → (a b c : ℕ) → (is_before a b d m ≡ true) ⊎ ((a ≡ d) × (b ≡ m)) → is_formation a b c ≡ true → has_enough pools a b c ≡ false
  none_more none few a b c (inl earlier) other = none a b c earlier other
  none_more none few a b c (inr at) other = same_enough a b c at other ∙ few

  -- too few players for this formation
  too_few : (best : Option Best) → has_enough pools d m f ≡ false → Finds pools d m best → Finds pools d (m + 1) best
  too_few None few none = λ a b c before other. none_more none few a b c (more_before a b d m before) other
  too_few (Some best) few is = record {
    formation = is.formation;
    enough = is.enough;
    total = is.total;
    before = step_up best.defenders best.midfielders d m is.before;
    greatest = λ a b c before other enough. go a b c (more_before a b d m before) other enough;
    first = is.first;
  }
    where
      go : (a b c : ℕ) → (is_before a b d m ≡ true) ⊎ ((a ≡ d) × (b ≡ m)) → is_formation a b c ≡ true → has_enough pools a b c ≡ true → total_points (first_of pools a b c) ≤ℤ best.total
      go a b c (inl earlier) other enough = is.greatest a b c earlier other enough
      go a b c (inr at) other enough = absurd (false≢true (sym few ∙ sym (same_enough a b c at other) ∙ enough))

  -- the first formation for which there are enough
  first_found : has_enough pools d m f ≡ true → HasNoneBefore pools d m → IsBestBefore pools d (m + 1) made
  first_found enough none = record {
    formation = formation;
    enough = enough;
    total = refl;
    before = here d m;
    greatest = λ a b c before other some. go a b c (more_before a b d m before) other some;
    first = λ a b c before other some. absurd (false≢true (sym (none a b c before other) ∙ some));
  }
    where
      go : (a b c : ℕ) → (is_before a b d m ≡ true) ⊎ ((a ≡ d) × (b ≡ m)) → is_formation a b c ≡ true → has_enough pools a b c ≡ true → total_points (first_of pools a b c) ≤ℤ total_points (first_of pools d m f)
      go a b c (inl earlier) other some = absurd (false≢true (sym (none a b c earlier other) ∙ some))
      go a b c (inr at) other some =
          subst (λ (z : ℤ). z ≤ℤ total_points (first_of pools d m f)) (sym (same_total a b c at other)) (less_itself (total_points (first_of pools d m f)))

  -- a formation that makes more than the best before it
  overtakes : (best : Best) → has_enough pools d m f ≡ true → int_lt best.total (total_points (first_of pools d m f)) ≡ true → IsBestBefore pools d m best → IsBestBefore pools d (m + 1) made
  overtakes best enough more is = record {
    formation = formation;
    enough = enough;
    total = refl;
    before = here d m;
    greatest = λ a b c before other some. go a b c (more_before a b d m before) other some;
    first = λ a b c before other some. below_not_same _ best.total _ (is.greatest a b c before other some) more;
  }
    where
      go : (a b c : ℕ) → (is_before a b d m ≡ true) ⊎ ((a ≡ d) × (b ≡ m)) → is_formation a b c ≡ true → has_enough pools a b c ≡ true → total_points (first_of pools a b c) ≤ℤ total_points (first_of pools d m f)
      go a b c (inl earlier) other some = less_chain _ best.total _ (is.greatest a b c earlier other some) more
      go a b c (inr at) other some =
          subst (λ (z : ℤ). z ≤ℤ total_points (first_of pools d m f)) (sym (same_total a b c at other)) (less_itself (total_points (first_of pools d m f)))

  -- one that does not
  stays : (best : Best) → int_lt best.total (total_points (first_of pools d m f)) ≡ false → IsBestBefore pools d m best → IsBestBefore pools d (m + 1) best
  stays best no_more is = record {
    formation = is.formation;
    enough = is.enough;
    total = is.total;
    before = step_up best.defenders best.midfielders d m is.before;
    greatest = λ a b c before other some. go a b c (more_before a b d m before) other some;
    first = is.first;
  }
    where
      go : (a b c : ℕ) → (is_before a b d m ≡ true) ⊎ ((a ≡ d) × (b ≡ m)) → is_formation a b c ≡ true → has_enough pools a b c ≡ true → total_points (first_of pools a b c) ≤ℤ best.total
      go a b c (inl earlier) other some = is.greatest a b c earlier other some
      go a b c (inr at) other some =
          subst (λ (z : ℤ). z ≤ℤ best.total) (sym (same_total a b c at other)) (not_less best.total (total_points (first_of pools d m f)) no_more)

  compared : (best : Best) (b : Bool) → int_lt best.total (total_points (first_of pools d m f)) ≡ b → has_enough pools d m f ≡ true → IsBestBefore pools d m best → Finds pools d (m + 1) (cond b (Some made) (Some best))
  compared best true more enough is = overtakes best enough more is
  compared best false more enough is = stays best more is

  with_enough : (best : Option Best) → has_enough pools d m f ≡ true → Finds pools d m best → Finds pools d (m + 1) (preferred best (Some made))
  with_enough None enough none = first_found enough none
  with_enough (Some best) enough is = compared best (int_lt best.total (total_points (first_of pools d m f))) refl enough is

  old_kept : (best : Option Best) → preferred best None ≡ best
  old_kept None = refl
  old_kept (Some best) = refl

  by_enough : (best : Option Best) (b : Bool) → has_enough pools d m f ≡ b → Finds pools d m best → Finds pools d (m + 1) (preferred best (cond b (Some made) None))
  by_enough best true e finds = with_enough best e finds
  by_enough best false e finds = subst (Finds pools d (m + 1)) (sym (old_kept best)) (too_few best e finds)

  tried_is : tried pools d m f ≡ cond (has_enough pools d m f) (Some made) None
  tried_is =
      by_four d m f (nat_le 1 (length (pools Keeper))) (nat_le d (length (pools Defender))) (nat_le m (length (pools Midfielder))) (nat_le f (length (pools Forward))) _ _ _ _
      ∙ ap (λ z. cond (has_enough pools d m f) (Some (best_with d m f z)) None) (sym (points_of_first pools d m f))

  -- one more formation tried
  pub one_more : (best : Option Best) → Finds pools d m best → Finds pools d (m + 1) (preferred best (tried pools d m f))
  one_more best finds =
      subst (λ (o : Option Best). Finds pools d (m + 1) (preferred best o)) (sym tried_is) (by_enough best (has_enough pools d m f) refl finds)
