-- The calendar stays lawful, and its lists are kept, through each change.
use Rattle.std.proofs.Common.{◌≡◌, ◌≢◌, ◌∙◌, sym, ap, subst, refl, ℕ, zero, suc, ◌+◌, ◌-◌, ◌<◌, ◌≤◌, true, false, not, ltb, leb, eqb, ◌&&◌, List, [], ◌∷◌, ◌++◌, length, get_or, set, take, drop, map, filter, find, Bool, cond, Option, Some, None, IfSome, MatchOption, arith, inl, inr}
use Rattle.std.specs.Bool.{⊤}
use Rattle.std.specs.List.{All, AllPairs, insert}
use Rattle.std.proofs.lemmas.List.{length-set, get_or_default, get_or-set_same, get_or-set_other, take-append-drop}
use Rattle.std.proofs.lemmas.List.Edits.{length-insert}
use Rattle.std.proofs.lemmas.List.Elements.{All-cons, All-append, All-map, All-take, All-drop, All-set, All-weaker, All-get_or}
use Rattle.std.proofs.lemmas.List.Kept.{AllPairs-cons, AllPairs-filter}
use Rattle.std.proofs.lemmas.List.Quantifiers.{all_pairs_remove}
use Rattle.std.proofs.lemmas.List.Sums.{length-filter, count_by-le-length}
use Rattle.std.proofs.lemmas.Bool.{cases_eq, cases_lt, cases_Bool, and_parts, or_cases, ltb-true, leb-true, ltb-false, eqb-true, eq-eqb}
use Rattle.std.proofs.lemmas.Bool.Decides.{nat_tests, leb_tells}
use Rattle.fpl_base.specs.declared.rule.Rule.{Rule}
use Rattle.rule_book.specs.declared.season.Fixture.{Fixture}
use Rattle.rule_book.specs.Refusals.{first_broken}
use Rattle.rule_book.specs.Calendar.{CalendarFacts, IsCalendar, StandsRightly, standing, standing_among, is_gameweek, is_early, is_after_previous, is_before_next, with_deadline, with_fixture, gameweek_full, kickoff_early}
use Rattle.season_calendar.specs.Kept.{AreStanding, IsKept, IsAt, IsGap, ids_with, ids_without, put_in, taken_out}
use Rattle.rule_book.specs.CalendarCalls.{place_refusal}
use Rattle.fpl_base.proofs.Around.{AllPairs-head, AllPairs-tail, AllPairs-middle, parts_at, set_parts}
use Rattle.season_calendar.proofs.Around.{filter_none, filter_front, filter_back, none_found}
use Rattle.season_calendar.proofs.Locks.{rise_with}
use Rattle.season_calendar.proofs.Standing.{Before, After, InSeason, standing-away, standing-without, standing-others, length-standing_here, lists_put_in, lists_taken_out}

-- where no rule of two is broken, neither is
pub two_none : (a b : Option Rule) → first_broken (a ∷ b ∷ []) ≡ None → (a ≡ None) × (b ≡ None)
two_none None None e = (refl, refl)
two_none None (Some r) e = cc
two_none (Some r) b e = cc

-- a place that passes for gameweek g is that gameweek
pub is_gameweek-true : (g : ℕ) (gw : Option ℕ) → is_gameweek g gw ≡ true → gw ≡ Some g
is_gameweek-true g None e = cc
is_gameweek-true g (Some h) e = ap (λ n. Some n) (eqb-true h g e)

-- pairs of what a function gives
AllPairs-map : (f : Fixture → ℕ) (xs : List Fixture) → AllPairs (λ a b. f a < f b) xs → AllPairs (λ a b. a < b) (map f xs)
AllPairs-map f [] h = λ i j d lt le. absurd (omega arith)
AllPairs-map f (x ∷ xs) h =
    AllPairs-cons (λ a b. a < b) (f x) (map f xs) (All-map (λ b. f x < b) f xs (AllPairs-head (λ a b. f a < f b) x xs h)) (AllPairs-map f xs (AllPairs-tail (λ a b. f a < f b) x xs h))

-- the ids of a gameweek ascend
pub standing_rises : (xs : List Fixture) (g : ℕ) → AllPairs (λ x y. x.id < y.id) xs → AllPairs (λ a b. a < b) (standing_among xs g)
standing_rises xs g h = AllPairs-map (λ x. x.id) _ (AllPairs-filter (λ x y. x.id < y.id) (λ x. is_gameweek g x.gw) xs h)

-- no fixture stands beyond the season
away_beyond : (ds : List ℕ) (g : ℕ) (x : Fixture) (gw : Option ℕ) → length ds < g → MatchOption gw ⊤ (λ h. (1 ≤ h) × (h ≤ length ds) × (get_or ds (h - 1) 0 + 5400 ≤ x.kickoff)) → is_gameweek g gw ≡ false
away_beyond ds g x None beyond h = refl
away_beyond ds g x (Some k) beyond h = grind (arith, nat_tests, h.1)

pub none_beyond : (ds : List ℕ) (xs : List Fixture) (g : ℕ) → All (StandsRightly ds) xs → length ds < g → standing_among xs g ≡ []
none_beyond ds xs g h beyond =
    ap (map (λ (x : Fixture). x.id)) (filter_none (λ (x : Fixture). is_gameweek g x.gw) xs (All-weaker (StandsRightly ds) (λ x. is_gameweek g x.gw ≡ false) (λ x rightly. away_beyond ds g x x.gw beyond rightly) xs h))

-- the list of a gameweek, of the season or beyond it
pub list_at : (c : CalendarFacts) (lists : List (List ℕ)) (g : ℕ) → IsKept c lists → 1 ≤ g → get_or lists (g - 1) [] ≡ standing c g
list_at c lists g kept from_1 = elim (cases_lt (g - 1) (length lists)) [
  | inl within ↦
      let number : g - 1 + 1 ≡ g = omega arith in
      kept.standing.lists_are (g - 1) within ∙ ap (standing c) number
  | inr beyond ↦
      let past : length c.deadlines < g = omega (arith, kept.one_each) in
      past_lists lists (g - 1) beyond ∙ sym (none_beyond c.deadlines c.fixtures g kept.lawful.stand_rightly past)
]
  where
    past_lists : (ls : List (List ℕ)) (n : ℕ) → length ls ≤ n → get_or ls n [] ≡ []
    past_lists [] n le = refl
    past_lists (l ∷ ls) zero le = absurd (omega arith)
    past_lists (l ∷ ls) (suc n) le = past_lists ls n (omega arith)

-- what a place that is not refused gives
not_full : (c : CalendarFacts) (f g : ℕ) → gameweek_full c f (Some g) ≡ None → length (ids_without f (standing c g)) < 20
not_full c f g e = elim (leb_tells 20 (length (ids_without f (standing c g)))) [
  | inl full ↦ absurd (cc (rw full.0 at e))
  | inr room ↦ room.1
]

not_early : (c : CalendarFacts) (f g k : ℕ) → kickoff_early c f (Some g) k ≡ None → get_or c.deadlines (g - 1) 0 + 5400 ≤ k
not_early c f g k e = elim (cases_Bool (is_early (get_or c.deadlines (g - 1) 0) k)) [
  | inl early ↦ absurd (cc (rw early at e))
  | inr late ↦ ltb-false k (get_or c.deadlines (g - 1) 0 + 5400) late
]

pub room_at : (c : CalendarFacts) (f g k : ℕ) → place_refusal c f (Some g) k ≡ None → length (ids_without f (standing c g)) < 20
room_at c f g k e = not_full c f g (two_none (gameweek_full c f (Some g)) (kickoff_early c f (Some g) k) e).0

pub kickoff_at : (c : CalendarFacts) (f g k : ℕ) → place_refusal c f (Some g) k ≡ None → get_or c.deadlines (g - 1) 0 + 5400 ≤ k
kickoff_at c f g k e = not_early c f g k (two_none (gameweek_full c f (Some g)) (kickoff_early c f (Some g) k) e).1

-- a fixture whose place is not refused stands rightly there
rightly_by : (c : CalendarFacts) (x : Fixture) (gw : Option ℕ) → IfSome gw (λ g. 1 ≤ g) → IfSome gw (λ g. g ≤ length c.deadlines) → place_refusal c x.id gw x.kickoff ≡ None → MatchOption gw ⊤ (λ g. (1 ≤ g) × (g ≤ length c.deadlines) × (get_or c.deadlines (g - 1) 0 + 5400 ≤ x.kickoff))
rightly_by c x None from_1 within e = tt
rightly_by c x (Some g) from_1 within e = (from_1, within, kickoff_at c x.id g x.kickoff e)

in_season : (lists : List (List ℕ)) (ds : List ℕ) (gw : Option ℕ) → length lists ≡ length ds → IfSome gw (λ g. 1 ≤ g) → IfSome gw (λ g. g ≤ length ds) → InSeason lists gw
in_season lists ds None e from_1 within = tt
in_season lists ds (Some g) e from_1 within = (from_1, omega (arith, e, within))

length_taken_out : (lists : List (List ℕ)) (gw : Option ℕ) (f : ℕ) → length (taken_out lists gw f) ≡ length lists
length_taken_out lists None f = refl
length_taken_out lists (Some g) f = length-set lists (g - 1) (ids_without f (get_or lists (g - 1) []))

length_put_in : (lists : List (List ℕ)) (gw : Option ℕ) (f : ℕ) → length (put_in lists gw f) ≡ length lists
length_put_in lists None f = refl
length_put_in lists (Some g) f = length-set lists (g - 1) (ids_with f (get_or lists (g - 1) []))

-- of fixtures around x, with its place not refused for the others: at most 20 stand in each gameweek
twenty_with : (c : CalendarFacts) (xs ys : List Fixture) (x : Fixture) → Before x.id xs → After x.id ys → ((g : ℕ) → length (standing_among (xs ++ ys) g) ≤ 20) → ((g : ℕ) → is_gameweek g x.gw ≡ true → length (standing_among (xs ++ ys) g) < 20) → (g : ℕ) → length (standing_among (xs ++ x ∷ ys) g) ≤ 20
twenty_with c xs ys x before after few room g = elim (cases_Bool (is_gameweek g x.gw)) [
  | inl here ↦ omega (arith, length-standing_here xs ys x before after g here, room g here)
  | inr away ↦ omega (arith, few g, ap length (standing-away xs ys x before after g away))
]

module _ (c : CalendarFacts) (lists : List (List ℕ)) (x : Fixture) (at : ℕ) (kept : IsKept c lists) (gap : IsGap c.fixtures x.id at) where
  whole : c.fixtures ≡ take at c.fixtures ++ drop at c.fixtures
  whole = sym (take-append-drop at c.fixtures)

  without_new : (g : ℕ) → ids_without x.id (standing c g) ≡ standing c g
  without_new g = let P : List Fixture → Type 0 = λ l. ids_without x.id (standing_among l g) ≡ standing_among l g in
      subst P (sym whole) (standing-others (take at c.fixtures) (drop at c.fixtures) x gap.before gap.after g)

  pub room_for_new : (gw : Option ℕ) (k : ℕ) → IfSome gw (λ g. 1 ≤ g) → place_refusal c x.id gw k ≡ None → IfSome gw (λ g. length (get_or lists (g - 1) []) < 20)
  room_for_new None k from_1 e = tt
  room_for_new (Some g) k from_1 e = omega (arith, ap length (list_at c lists g kept from_1), ap length (without_new g), room_at c x.id g k e)

  pub rises_for_new : (gw : Option ℕ) → IfSome gw (λ g. 1 ≤ g) → IfSome gw (λ g. AllPairs (λ a b. a < b) (get_or lists (g - 1) []))
  rises_for_new None from_1 = tt
  rises_for_new (Some g) from_1 = rw (list_at c lists g kept from_1) (standing_rises c.fixtures g kept.lawful.ids_rise)

  -- the place of a new fixture by id is that of the search
  pub inserted : (with_fixture c x).fixtures ≡ insert c.fixtures at x
  inserted =
      let low = filter_front (λ (y : Fixture). ltb y.id x.id) (take at c.fixtures) (drop at c.fixtures) (All-weaker (λ y. y.id < x.id) (λ y. ltb y.id x.id ≡ true) (λ y h. grind (arith, nat_tests)) _ gap.before) (All-weaker (λ y. x.id < y.id) (λ y. ltb y.id x.id ≡ false) (λ y h. grind (arith, nat_tests)) _ gap.after) in
      let high = filter_back (λ (y : Fixture). ltb x.id y.id) (take at c.fixtures) (drop at c.fixtures) (All-weaker (λ y. y.id < x.id) (λ y. ltb x.id y.id ≡ false) (λ y h. grind (arith, nat_tests)) _ gap.before) (All-weaker (λ y. x.id < y.id) (λ y. ltb x.id y.id ≡ true) (λ y h. grind (arith, nat_tests)) _ gap.after) in
      ap (λ l. filter (λ (y : Fixture). ltb y.id x.id) l ++ x ∷ filter (λ (y : Fixture). ltb x.id y.id) l) whole ∙ (ap (λ l. l ++ x ∷ filter (λ (y : Fixture). ltb x.id y.id) (take at c.fixtures ++ drop at c.fixtures)) low ∙ ap (λ l. take at c.fixtures ++ x ∷ l) high)

  lawful_with_new : length c.fixtures < 380 → IfSome x.gw (λ g. 1 ≤ g) → IfSome x.gw (λ g. g ≤ length c.deadlines) → place_refusal c x.id x.gw x.kickoff ≡ None → IsCalendar (record c { fixtures = take at c.fixtures ++ x ∷ drop at c.fixtures })
  lawful_with_new room from_1 within e = record {
    has_gameweeks = kept.lawful.has_gameweeks;
    at_most_38 = kept.lawful.at_most_38;
    deadlines_rise = kept.lawful.deadlines_rise;
    split_within = kept.lawful.split_within;
    locked_within = kept.lawful.locked_within;
    ids_rise = let P : List Fixture → Type 0 = λ l. AllPairs (λ a b. a.id < b.id) l in AllPairs-middle (λ a b. a.id < b.id) (take at c.fixtures) (drop at c.fixtures) x (subst P whole kept.lawful.ids_rise) gap.before gap.after;
    at_most_380 = omega (arith, room, length-insert c.fixtures at x gap.within);
    stand_rightly = All-append (StandsRightly c.deadlines) (take at c.fixtures) (x ∷ drop at c.fixtures) (All-take (StandsRightly c.deadlines) at c.fixtures kept.lawful.stand_rightly) (All-cons (StandsRightly c.deadlines) x (drop at c.fixtures) (rightly_by c x x.gw from_1 within e) (All-drop (StandsRightly c.deadlines) at c.fixtures kept.lawful.stand_rightly));
    at_most_20_each = twenty_with c (take at c.fixtures) (drop at c.fixtures) x gap.before gap.after
        (let P : List Fixture → Type 0 = λ l. (g : ℕ) → length (standing_among l g) ≤ 20 in subst P whole kept.lawful.at_most_20_each)
        (let P : List Fixture → Type 0 = λ l. (g : ℕ) → is_gameweek g x.gw ≡ true → length (standing_among l g) < 20 in subst P whole (λ g here. omega (arith, ap length (without_new g), room_at c x.id g x.kickoff (ap (λ gw. place_refusal c x.id gw x.kickoff) (sym (is_gameweek-true g x.gw here)) ∙ e))));
  }

  pub kept_with_new : length c.fixtures < 380 → IfSome x.gw (λ g. 1 ≤ g) → IfSome x.gw (λ g. g ≤ length c.deadlines) → place_refusal c x.id x.gw x.kickoff ≡ None → IsKept (record c { fixtures = insert c.fixtures at x }) (put_in lists x.gw x.id)
  kept_with_new room from_1 within e = record {
    lawful = lawful_with_new room from_1 within e;
    one_each = length_put_in lists x.gw x.id ∙ kept.one_each;
    standing = lists_put_in lists (take at c.fixtures) (drop at c.fixtures) x x.gw refl gap.before gap.after (in_season lists c.deadlines x.gw kept.one_each from_1 within)
        (let P : List Fixture → Type 0 = λ l. AreStanding lists l in subst P whole kept.standing);
  }

-- what a calendar with other fixtures, or another number of locked gameweeks, is
pub fixtures_are : (c : CalendarFacts) (xs ys : List Fixture) → xs ≡ ys → record c { fixtures = xs } ≡ record c { fixtures = ys }
fixtures_are c xs ys e = ap (λ (l : List Fixture). record c { fixtures = l }) e

pub locked_is : (c : CalendarFacts) (m n : ℕ) → m ≡ n → record c { locked = m } ≡ record c { locked = n }
locked_is c m n e = ap (λ (k : ℕ). record c { locked = k }) e

in_season_of : (lists : List (List ℕ)) (ds : List ℕ) (k : ℕ) (gw : Option ℕ) → length lists ≡ length ds → MatchOption gw ⊤ (λ g. (1 ≤ g) × (g ≤ length ds) × (get_or ds (g - 1) 0 + 5400 ≤ k)) → InSeason lists gw
in_season_of lists ds k None e rightly = tt
in_season_of lists ds k (Some g) e rightly = (rightly.0, omega (arith, e, rightly.1))

module _ (c : CalendarFacts) (lists : List (List ℕ)) (x : Fixture) (at : ℕ) (kept : IsKept c lists) (there : IsAt c.fixtures x.id at) where
  -- the fixture as it was, and those around it
  abbrev old : Fixture
  old = get_or c.fixtures at x

  abbrev front : List Fixture
  front = take at c.fixtures

  abbrev back : List Fixture
  back = drop (at + 1) c.fixtures

  whole_old : c.fixtures ≡ front ++ old ∷ back
  whole_old = parts_at c.fixtures at x there.within

  same_id : old.id ≡ x.id
  same_id = there.here x

  before_old : Before old.id front
  before_old = rw same_id there.before

  after_old : After old.id back
  after_old = rw same_id there.after

  rest_rises : AllPairs (λ a b. a.id < b.id) (front ++ back)
  rest_rises = let one : suc at ≡ at + 1 = omega arith in
      rw one at (all_pairs_remove (λ a b. a.id < b.id) c.fixtures at there.within kept.lawful.ids_rise)

  without_old : (g : ℕ) → ids_without x.id (standing c g) ≡ standing_among (front ++ back) g
  without_old g = ap (ids_without x.id) (ap (λ l. standing_among l g) whole_old) ∙ (ap (λ n. ids_without n (standing_among (front ++ old ∷ back) g)) (sym same_id) ∙ by_place)
    where
      by_place : ids_without old.id (standing_among (front ++ old ∷ back) g) ≡ standing_among (front ++ back) g
      by_place = elim (cases_Bool (is_gameweek g old.gw)) [
        | inl here ↦ sym (standing-without front back old before_old after_old g here)
        | inr away ↦ ap (ids_without old.id) (standing-away front back old before_old after_old g away) ∙ standing-others front back old before_old after_old g
      ]

  pub taken : AreStanding (taken_out lists old.gw x.id) (front ++ back)
  taken =
      let P : List Fixture → Type 0 = λ l. AreStanding lists l in
      let Q : ℕ → Type 0 = λ n. AreStanding (taken_out lists old.gw n) (front ++ back) in
      subst Q same_id (lists_taken_out lists front back old old.gw refl before_old after_old (in_season_of lists c.deadlines old.kickoff old.gw kept.one_each (All-get_or (StandsRightly c.deadlines) c.fixtures at x there.within kept.lawful.stand_rightly)) (subst P whole_old kept.standing))

  taken_at : (g : ℕ) → 1 ≤ g → g ≤ length lists → get_or (taken_out lists old.gw x.id) (g - 1) [] ≡ standing_among (front ++ back) g
  taken_at g from_1 within =
      let number : g - 1 + 1 ≡ g = omega arith in
      taken.lists_are (g - 1) (omega (arith, length_taken_out lists old.gw x.id)) ∙ ap (standing_among (front ++ back)) number

  pub room_for_moved : (gw : Option ℕ) (k : ℕ) → IfSome gw (λ g. 1 ≤ g) → IfSome gw (λ g. g ≤ length c.deadlines) → place_refusal c x.id gw k ≡ None → IfSome gw (λ g. length (get_or (taken_out lists old.gw x.id) (g - 1) []) < 20)
  room_for_moved None k from_1 within e = tt
  room_for_moved (Some g) k from_1 within e = omega (arith, ap length (taken_at g from_1 (omega (arith, within, kept.one_each))), ap length (without_old g), room_at c x.id g k e)

  pub rises_for_moved : (gw : Option ℕ) → IfSome gw (λ g. 1 ≤ g) → IfSome gw (λ g. g ≤ length c.deadlines) → IfSome gw (λ g. AllPairs (λ a b. a < b) (get_or (taken_out lists old.gw x.id) (g - 1) []))
  rises_for_moved None from_1 within = tt
  rises_for_moved (Some g) from_1 within = rw (taken_at g from_1 (omega (arith, within, kept.one_each))) (standing_rises (front ++ back) g rest_rises)

  few_without : (g : ℕ) → length (standing_among (front ++ back) g) ≤ 20
  few_without g =
      omega (arith, ap length (without_old g), length-filter (λ i. not (eqb i x.id)) (standing c g), count_by-le-length (λ i. not (eqb i x.id)) (standing c g), kept.lawful.at_most_20_each g)

  lawful_moved : IfSome x.gw (λ g. 1 ≤ g) → IfSome x.gw (λ g. g ≤ length c.deadlines) → place_refusal c x.id x.gw x.kickoff ≡ None → IsCalendar (record c { fixtures = set c.fixtures at x })
  lawful_moved from_1 within e = record {
    has_gameweeks = kept.lawful.has_gameweeks;
    at_most_38 = kept.lawful.at_most_38;
    deadlines_rise = kept.lawful.deadlines_rise;
    split_within = kept.lawful.split_within;
    locked_within = kept.lawful.locked_within;
    ids_rise = rw (set_parts c.fixtures at x there.within) (AllPairs-middle (λ a b. a.id < b.id) front back x rest_rises there.before there.after);
    at_most_380 = omega (arith, length-set c.fixtures at x, kept.lawful.at_most_380);
    stand_rightly = All-set (StandsRightly c.deadlines) c.fixtures at x (rightly_by c x x.gw from_1 within e) kept.lawful.stand_rightly;
    at_most_20_each = let P : List Fixture → Type 0 = λ l. (g : ℕ) → length (standing_among l g) ≤ 20 in
        subst P (sym (set_parts c.fixtures at x there.within)) (twenty_with c front back x there.before there.after few_without
        (λ g here. omega (arith, ap length (without_old g), room_at c x.id g x.kickoff (ap (λ gw. place_refusal c x.id gw x.kickoff) (sym (is_gameweek-true g x.gw here)) ∙ e))));
  }

  pub kept_moved : IfSome x.gw (λ g. 1 ≤ g) → IfSome x.gw (λ g. g ≤ length c.deadlines) → place_refusal c x.id x.gw x.kickoff ≡ None → IsKept (record c { fixtures = set c.fixtures at x }) (put_in (taken_out lists old.gw x.id) x.gw x.id)
  kept_moved from_1 within e = record {
    lawful = lawful_moved from_1 within e;
    one_each = length_put_in (taken_out lists old.gw x.id) x.gw x.id ∙ (length_taken_out lists old.gw x.id ∙ kept.one_each);
    standing = let P : List Fixture → Type 0 = λ l. AreStanding (put_in (taken_out lists old.gw x.id) x.gw x.id) l in
        subst P (sym (set_parts c.fixtures at x there.within)) (lists_put_in (taken_out lists old.gw x.id) front back x x.gw refl there.before there.after (in_season (taken_out lists old.gw x.id) c.deadlines x.gw (length_taken_out lists old.gw x.id ∙ kept.one_each) from_1 within) taken);
  }

-- Other clubs for a fixture: it stands where it stood.

id_stays : (xs : List Fixture) (at k : ℕ) (x d : Fixture) → x.id ≡ (get_or xs at x).id → (get_or (set xs at x) k d).id ≡ (get_or xs k d).id
id_stays [] at k x d e = refl
id_stays (y ∷ ys) zero zero x d e = e
id_stays (y ∷ ys) zero (suc k) x d e = refl
id_stays (y ∷ ys) (suc at) zero x d e = refl
id_stays (y ∷ ys) (suc at) (suc k) x d e = id_stays ys at k x d e

standing_stays : (xs : List Fixture) (at : ℕ) (x : Fixture) (g : ℕ) → x.id ≡ (get_or xs at x).id → x.gw ≡ (get_or xs at x).gw → standing_among (set xs at x) g ≡ standing_among xs g
standing_stays [] at x g id gw = refl
standing_stays (y ∷ ys) zero x g id gw = ap (λ p. map (λ (z : Fixture). z.id) (cond (is_gameweek g p) (x ∷ filter (λ (z : Fixture). is_gameweek g z.gw) ys) (filter (λ (z : Fixture). is_gameweek g z.gw) ys))) gw ∙ by_test (is_gameweek g y.gw)
  where
    by_test : (b : Bool) → map (λ (z : Fixture). z.id) (cond b (x ∷ filter (λ (z : Fixture). is_gameweek g z.gw) ys) (filter (λ (z : Fixture). is_gameweek g z.gw) ys))
        ≡ map (λ (z : Fixture). z.id) (cond b (y ∷ filter (λ (z : Fixture). is_gameweek g z.gw) ys) (filter (λ (z : Fixture). is_gameweek g z.gw) ys))
    by_test true = ap (λ n. n ∷ standing_among ys g) id
    by_test false = refl
standing_stays (y ∷ ys) (suc at) x g id gw = by_test (is_gameweek g y.gw) (standing_stays ys at x g id gw)
  where
    by_test : (b : Bool) → standing_among (set ys at x) g ≡ standing_among ys g
        → map (λ (z : Fixture). z.id) (cond b (y ∷ filter (λ (z : Fixture). is_gameweek g z.gw) (set ys at x)) (filter (λ (z : Fixture). is_gameweek g z.gw) (set ys at x)))
        ≡ map (λ (z : Fixture). z.id) (cond b (y ∷ filter (λ (z : Fixture). is_gameweek g z.gw) ys) (filter (λ (z : Fixture). is_gameweek g z.gw) ys))
    by_test true same = ap (λ l. y.id ∷ l) same
    by_test false same = same

module _ (c : CalendarFacts) (lists : List (List ℕ)) (at : ℕ) (old : Fixture) (home away : ℕ) (kept : IsKept c lists) (within : at < length c.fixtures) (here : old ≡ get_or c.fixtures at old) where
  abbrev between_others : Fixture
  between_others = record old { home = home; away = away }

  as_it_was : old ≡ get_or c.fixtures at between_others
  as_it_was = here ∙ get_or_default c.fixtures at old between_others within

  pub kept_between : IsKept (record c { fixtures = set c.fixtures at between_others }) lists
  kept_between =
      let id = ap (λ (x : Fixture). x.id) as_it_was in
      let gw = ap (λ (x : Fixture). x.gw) as_it_was in
      let stands : (g : ℕ) → standing_among (set c.fixtures at between_others) g ≡ standing_among c.fixtures g = λ g. standing_stays c.fixtures at between_others g id gw in
      record {
        lawful = record {
          has_gameweeks = kept.lawful.has_gameweeks;
          at_most_38 = kept.lawful.at_most_38;
          deadlines_rise = kept.lawful.deadlines_rise;
          split_within = kept.lawful.split_within;
          locked_within = kept.lawful.locked_within;
          ids_rise = λ i j d lt le. omega (arith, id_stays c.fixtures at i between_others d id, id_stays c.fixtures at j between_others d id, kept.lawful.ids_rise i j d lt (omega (arith, le, length-set c.fixtures at between_others)));
          at_most_380 = omega (arith, length-set c.fixtures at between_others, kept.lawful.at_most_380);
          stand_rightly = All-set (StandsRightly c.deadlines) c.fixtures at between_others
              (subst (StandsRightly c.deadlines) (sym here) (All-get_or (StandsRightly c.deadlines) c.fixtures at old within kept.lawful.stand_rightly)) kept.lawful.stand_rightly;
          at_most_20_each = λ g. omega (arith, ap length (stands g), kept.lawful.at_most_20_each g);
        };
        one_each = kept.one_each;
        standing = record { lists_are = λ k lt. kept.standing.lists_are k lt ∙ sym (stands (k + 1)) };
      }

-- a new deadline between its neighbours, for which no fixture is early
module _ (c : CalendarFacts) (lists : List (List ℕ)) (g t : ℕ) (kept : IsKept c lists) (from_1 : 1 ≤ g) (within : g ≤ length c.deadlines) where
  rightly_with : (x : Fixture) (gw : Option ℕ) → (is_gameweek g gw && is_early t x.kickoff) ≡ false → MatchOption gw ⊤ (λ h. (1 ≤ h) × (h ≤ length c.deadlines) × (get_or c.deadlines (h - 1) 0 + 5400 ≤ x.kickoff)) → MatchOption gw ⊤ (λ h. (1 ≤ h) × (h ≤ length (set c.deadlines (g - 1) t)) × (get_or (set c.deadlines (g - 1) t) (h - 1) 0 + 5400 ≤ x.kickoff))
  rightly_with x None late rightly = tt
  rightly_with x (Some h) late rightly = (
    rightly.0,
    omega (arith, rightly.1, length-set c.deadlines (g - 1) t),
    elim (cases_eq h g) [
      | inl same ↦
          let here : is_gameweek g (Some h) ≡ true = eq-eqb h g same in
          let on_time = ltb-false x.kickoff (t + 5400) (rw here at late) in
          let new : get_or (set c.deadlines (g - 1) t) (h - 1) 0 ≡ t = ap (λ n. get_or (set c.deadlines (g - 1) t) (n - 1) 0) same ∙ get_or-set_same c.deadlines (g - 1) t 0 (omega arith) in
          omega (arith, on_time, new)
      | inr other ↦
          let away : h - 1 ≢ g - 1 = λ (e : h - 1 ≡ g - 1). other (omega (arith, rightly.0, e)) in
          omega (arith, get_or-set_other c.deadlines (g - 1) (h - 1) t 0 away, rightly.2)
    ],
  )

  previous_is : is_after_previous c.deadlines g t ≡ true → 0 < g - 1 → get_or c.deadlines (g - 1 - 1) 0 < t
  previous_is e lt = elim (or_cases (leb g 1) (ltb (get_or c.deadlines (g - 2) 0) t) e) [
    | inl first ↦ absurd (omega (arith, leb-true g 1 first))
    | inr later ↦ let two : g - 1 - 1 ≡ g - 2 = omega arith in omega (arith, ltb-true (get_or c.deadlines (g - 2) 0) t later, ap (λ n. get_or c.deadlines n 0) two)
  ]

  next_is : is_before_next c.deadlines g t ≡ true → g - 1 + 1 < length c.deadlines → t < get_or c.deadlines (g - 1 + 1) 0
  next_is e lt = elim (or_cases (leb (length c.deadlines) g) (ltb t (get_or c.deadlines g 0)) e) [
    | inl last ↦ absurd (omega (arith, leb-true (length c.deadlines) g last))
    | inr sooner ↦ let one : g - 1 + 1 ≡ g = omega arith in omega (arith, ltb-true t (get_or c.deadlines g 0) sooner, ap (λ n. get_or c.deadlines n 0) one)
  ]

  pub kept_with_deadline : (is_after_previous c.deadlines g t && is_before_next c.deadlines g t) ≡ true → find (λ (x : Fixture). is_gameweek g x.gw && is_early t x.kickoff) c.fixtures ≡ None → IsKept (with_deadline c g t) lists
  kept_with_deadline between none =
      let both = and_parts (is_after_previous c.deadlines g t) (is_before_next c.deadlines g t) between in
      let late = none_found (λ (x : Fixture). is_gameweek g x.gw && is_early t x.kickoff) c.fixtures none in
      record {
        lawful = record {
          has_gameweeks = omega (arith, length-set c.deadlines (g - 1) t, kept.lawful.has_gameweeks);
          at_most_38 = omega (arith, length-set c.deadlines (g - 1) t, kept.lawful.at_most_38);
          deadlines_rise = rise_with c.deadlines (g - 1) t kept.lawful.deadlines_rise (previous_is both.0) (next_is both.1);
          split_within = omega (arith, length-set c.deadlines (g - 1) t, kept.lawful.split_within);
          locked_within = omega (arith, length-set c.deadlines (g - 1) t, kept.lawful.locked_within);
          ids_rise = kept.lawful.ids_rise;
          at_most_380 = kept.lawful.at_most_380;
          stand_rightly = λ k d lt. rightly_with (get_or c.fixtures k d) (get_or c.fixtures k d).gw (late k d lt) (kept.lawful.stand_rightly k d lt);
          at_most_20_each = kept.lawful.at_most_20_each;
        };
        one_each = kept.one_each ∙ sym (length-set c.deadlines (g - 1) t);
        standing = kept.standing;
      }
