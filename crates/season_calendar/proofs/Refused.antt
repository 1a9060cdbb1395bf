-- Which refusal comes, from what was found.
use Rattle.std.proofs.Common.{◌≡◌, ◌∙◌, ap, refl, ℕ, ◌+◌, ◌-◌, ◌<◌, ◌≤◌, ◌&&◌, ◌∷◌, [], Bool, true, false, cond, find, ltb, leb, eqb, List, length, get_or, drop, Option, Some, None, IfSome, arith, inl, inr}
use Rattle.std.specs.Prelude.{is_some}
use Rattle.std.specs.List.{AllPairs, zip, position_or_len}
use Rattle.std.specs.Option.{option_map}
use Rattle.std.proofs.lemmas.List.Kept.{AllPairs-from_increasing}
use Rattle.std.proofs.lemmas.List.Sums.{fails_before_first}
use Rattle.std.proofs.lemmas.Bool.{cases_lt, le-leb, lt-leb, leb-false, lt-ltb}
use Rattle.fpl_base.specs.declared.rule.Rule.{Rule}
use Rattle.fpl_base.specs.declared.rule.Rule.TheVariants as rule
use Rattle.rule_book.specs.declared.season.Fixture.{Fixture}
use Rattle.rule_book.specs.Calendar.{CalendarFacts, deadline_late, deadline_order, deadline_passed, first_out_of_order, is_after_previous, is_before_next, is_early, is_gameweek, standing}
use Rattle.rule_book.specs.Refusals.{first_broken}
use Rattle.season_calendar.specs.Kept.{IsAt, IsGap, ids_without}
use Rattle.rule_book.specs.CalendarCalls.{deadline_refusal, place_refusal, fixture_refusal}
use Rattle.rule_book.proofs.Deadlines.{length-pairs, pair_at}
use Rattle.season_calendar.proofs.Places.{found_at, none_there, any_found, none_any}

-- a place that is free

pub place_free : (c : CalendarFacts) (f g k : ℕ) (gw : Option ℕ) → gw ≡ Some g → length (ids_without f (standing c g)) < 20 → is_early (get_or c.deadlines (g - 1) 0) k ≡ false → place_refusal c f gw k ≡ None
place_free c f g k gw e room late = ap (λ w. place_refusal c f w k) e ∙ rw (lt-leb 20 (length (ids_without f (standing c g))) room, late) refl

-- a new deadline that nothing refuses

none_first : (broken : Option Rule) (more : List (Option Rule)) → first_broken (broken ∷ more) ≡ None → (broken ≡ None) × (first_broken more ≡ None)
none_first None more none = (refl, none)
none_first (Some broken) more none = cc

holds_unless : (b : Bool) (broken : Rule) → cond b None (Some broken) ≡ None → b ≡ true
holds_unless true broken none = refl
holds_unless false broken none = cc

nothing_found : (o : Option Fixture) → option_map (λ (x : Fixture). rule.KickoffEarly x.id) o ≡ None → o ≡ None
nothing_found None e = refl
nothing_found (Some x) e = cc

pub deadline_fits : (c : CalendarFacts) (g t now : ℕ) → deadline_refusal c g t now ≡ None
    → ((is_after_previous c.deadlines g t && is_before_next c.deadlines g t) ≡ true) × (find (λ (x : Fixture). is_gameweek g x.gw && is_early t x.kickoff) c.fixtures ≡ None)
deadline_fits c g t now none =
    let first = none_first (deadline_passed c g t now) (deadline_order c g t ∷ deadline_late c g t ∷ []) none in
    let second = none_first (deadline_order c g t) (deadline_late c g t ∷ []) first.1 in
    let third = none_first (deadline_late c g t) [] second.1 in
    (holds_unless (is_after_previous c.deadlines g t && is_before_next c.deadlines g t) (rule.DeadlineOrder g) second.0, nothing_found _ third.0)

-- a new fixture: there, one too many, or judged by its place
pub refused_there : (c : CalendarFacts) (x : Fixture) (i : ℕ) → IsAt c.fixtures x.id i → fixture_refusal c x ≡ Some (rule.FixtureThere x.id)
refused_there c x i at = rw (any_found (λ (y : Fixture). eqb y.id x.id) c.fixtures (get_or c.fixtures i x) (found_at c.fixtures x.id i at x)) refl

pub refused_full : (c : CalendarFacts) (x : Fixture) (i : ℕ) → IsGap c.fixtures x.id i → 380 ≤ length c.fixtures → fixture_refusal c x ≡ Some rule.FixturesFull
refused_full c x i gap full = rw (none_any (λ (y : Fixture). eqb y.id x.id) c.fixtures (none_there c.fixtures x.id i gap), le-leb 380 (length c.fixtures) full) refl

pub refused_by_place : (c : CalendarFacts) (x : Fixture) (i : ℕ) → IsGap c.fixtures x.id i → length c.fixtures < 380 → fixture_refusal c x ≡ place_refusal c x.id x.gw x.kickoff
refused_by_place c x i gap room = rw (none_any (λ (y : Fixture). eqb y.id x.id) c.fixtures (none_there c.fixtures x.id i gap), lt-leb 380 (length c.fixtures) room) refl

-- where there is none, the deadlines rise
no_position : (n m : ℕ) → option_map (λ k. k + 2) (cond (ltb n m) (Some n) None) ≡ None → m ≤ n
no_position n m e = elim (cases_lt n m) [
  | inl lt ↦ absurd (cc (rw (lt-ltb n m lt) at e))
  | inr le ↦ le
]

pub rise_by_none : (ds : List ℕ) → first_out_of_order ds ≡ None → AllPairs (λ a b. a < b) ds
rise_by_none ds e =
    let pairs = zip ds (drop 1 ds) in
    let p : ℕ × ℕ → Bool = λ q. leb q.1 q.0 in
    let all : length pairs ≤ position_or_len p pairs = no_position (position_or_len p pairs) (length pairs) e in
    AllPairs-from_increasing ds (λ k lt.
    let fails : leb (get_or pairs k (0, 0)).1 (get_or pairs k (0, 0)).0 ≡ false = fails_before_first p pairs k (0, 0) (omega (arith, length-pairs ds)) in
    leb-false (get_or ds (k + 1) 0) (get_or ds k 0) (rw (pair_at ds k lt) at fails))

pub made_number : (r : Option ℕ) (n : ℕ) → is_some r ≡ true → IfSome r (λ g. g ≡ n) → r ≡ Some n
made_number None n some is = cc
made_number (Some g) n some is = ap (λ k. Some k) is
