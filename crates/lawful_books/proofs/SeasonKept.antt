-- A new season's facts are lawful, and stay so behind a moment and where a deadline moves.
use Rattle.std.proofs.Common.{◌≡◌, ◌≤◌, ◌-◌, ◌==◌, ◌&&◌, ◌||◌, ℕ, Bool, true, false, cond, List, [], ◌∷◌, Option, Some, None, find, get_or, length, max, nat_le, set, arith, refl, sym, ap, subst, ◌∙◌, inl, inr, if◌then◌else◌}
use Rattle.std.specs.Option.{option_map}
use Rattle.std.proofs.lemmas.Bool.{and_parts, cases_eq, false≢true}
use Rattle.std.proofs.lemmas.Bool.Decides.{nat_tests}
use Rattle.std.proofs.lemmas.List.{length-set, get_or-set_same, get_or-set_other}
use Rattle.std.proofs.lemmas.List.Sums.{count_by-le-length}
use Rattle.std.proofs.lemmas.Option.{none-some, same_Some}
use Rattle.fpl_base.specs.declared.kinds.Profile.{Profile}
use Rattle.fpl_base.specs.declared.rule.Rule.TheVariants as rule
use Rattle.rule_book.specs.declared.season.Fixture.{Fixture}
use Rattle.rule_book.specs.Calendar.{CalendarFacts, after_pass, deadline_late, deadline_order, deadline_passed, deadlines_order, first_out_of_order, is_after_previous, is_before_next, is_early, is_gameweek, is_locked, is_locked_place, kickoff_early, passed_deadlines, with_deadline}
use Rattle.rule_book.specs.CalendarCalls.{deadline_refusal}
use Rattle.season_book.specs.Book.{Facts}
use Rattle.season_book.specs.Commands.{IsCommand, has_gameweek, new_season}
use Rattle.season_book.specs.declared.command.Command.TheVariants as command
use Rattle.record_fields.specs.Ranges.{is_between}
use Rattle.lawful_books.specs.Facts.{AreLawful, IsPlace}
use Rattle.lawful_books.specs.FactsKeeping.{MomentsAreLawful, NewSeasonsAreLawful}
use Rattle.lawful_books.proofs.Lines.{few_by_id, holds_unless, none_first, not_refused}
use Rattle.lawful_books.proofs.Rising.{still_rise}

-- A new season.

between : (most n : ℕ) → 1 ≤ n → n ≤ most → is_between 1 most n ≡ true
between most n from to = grind (arith, nat_tests, from, to)

in_order_of : (ds : List ℕ) → deadlines_order ds ≡ None → first_out_of_order ds ≡ None
in_order_of ds none = by (first_out_of_order ds) none
  where
    by : (o : Option ℕ) → option_map (λ g. rule.DeadlineOrder g) o ≡ None → o ≡ None
    by None none = refl
    by (Some g) none = absurd (none-some _ (sym none))

season_lawful : (profile : Profile) (deadlines : List ℕ) (split : ℕ) (clubs : List (ℕ × List ℕ)) → IsCommand (command.Season profile deadlines split clubs)
    → deadlines_order deadlines ≡ None → AreLawful (new_season profile deadlines split clubs)
season_lawful profile deadlines split clubs is none = record {
  terms = record {
    gameweeks = between 38 (length deadlines) is.0 is.1;
    split_within = is.2;
    locked_within = omega arith;
    in_order = in_order_of deadlines none;
  };
  few_clubs = omega (arith, few_by_id clubs, is.4);
  few_players = omega arith;
  few_fixtures = omega arith;
  few_standing = λ g. omega arith;
  few_lines = λ f. omega arith;
  players = λ p player at. absurd (none-some player at);
  fixtures = λ f x at. absurd (none-some x at);
  lines = λ f p line at. absurd (none-some line at);
}

pub new_seasons_are_lawful : NewSeasonsAreLawful
new_seasons_are_lawful (command.Season profile deadlines split clubs) facts is at none =
    let same : new_season profile deadlines split clubs ≡ facts = same_Some (new_season profile deadlines split clubs) facts at in
    subst AreLawful same (season_lawful profile deadlines split clubs is (ap (λ (facts : Facts). deadlines_order facts.calendar.deadlines) same ∙ none))
new_seasons_are_lawful command facts is at none = absurd (none-some facts at)

-- A moment.

later_locked : (c : CalendarFacts) (now : ℕ) (place : Option ℕ) → is_locked_place c place ≡ true → is_locked_place (after_pass c now) place ≡ true
later_locked c now None locked = absurd (false≢true locked)
later_locked c now (Some g) locked = more g c.locked (passed_deadlines c.deadlines now) locked
  where
    more : (g a b : ℕ) → nat_le g a ≡ true → nat_le g (max a b) ≡ true
    more g a b le = grind (arith, nat_tests, le)

pub moments_are_lawful : MomentsAreLawful
moments_are_lawful facts now lawful = record {
  terms = record {
    gameweeks = lawful.terms.gameweeks;
    split_within = lawful.terms.split_within;
    locked_within = omega (arith, lawful.terms.locked_within, count_by-le-length (λ d. nat_le d now) facts.calendar.deadlines);
    in_order = lawful.terms.in_order;
  };
  few_clubs = lawful.few_clubs;
  few_players = lawful.few_players;
  few_fixtures = lawful.few_fixtures;
  few_standing = lawful.few_standing;
  few_lines = lawful.few_lines;
  players = λ p player at. (let old = lawful.players p player at in record { club = old.club; price = old.price });
  fixtures = λ f x at. (
      let old = lawful.fixtures f x at in
      record {
        home = old.home;
        away = old.away;
        two = old.two;
        place = old.place;
        kickoff = old.kickoff;
        finished = λ is. later_locked facts.calendar now x.gw (old.finished is);
      });
  lines = λ f p line at. (
      let old = lawful.lines f p line at in
      record { fixture = old.fixture; player = old.player; locked = later_locked facts.calendar now _ old.locked; range = old.range });
}

-- Another deadline.

fails_of_found : (test : Fixture → Bool) (xs : List Fixture) (f : ℕ) (x : Fixture) → find test xs ≡ None → find (λ x. x.id == f) xs ≡ Some x → test x ≡ false
fails_of_found test [] f x none at = absurd (none-some x at)
fails_of_found test (y ∷ xs) f x none at = by (test y) refl none (y.id == f) at (λ none at. fails_of_found test xs f x none at)
  where
    by : (b : Bool) → test y ≡ b → cond b (Some y) (find test xs) ≡ None → (c : Bool) → cond c (Some y) (find (λ x. x.id == f) xs) ≡ Some x
        → (find test xs ≡ None → find (λ x. x.id == f) xs ≡ Some x → test x ≡ false) → test x ≡ false
    by true is none c at rest = absurd (none-some y (sym none))
    by false is none true at rest = ap test (sym (same_Some y x at)) ∙ is
    by false is none false at rest = rest none at

none_late : (c : CalendarFacts) (g t : ℕ) → deadline_late c g t ≡ None → find (λ (x : Fixture). is_gameweek g x.gw && is_early t x.kickoff) c.fixtures ≡ None
none_late c g t none = by (find (λ (x : Fixture). is_gameweek g x.gw && is_early t x.kickoff) c.fixtures) none
  where
    by : (o : Option Fixture) → option_map (λ (x : Fixture). rule.KickoffEarly x.id) o ≡ None → o ≡ None
    by None none = refl
    by (Some x) none = absurd (none-some _ (sym none))

-- a kick-off that is not early for the deadlines before, and not for the one that moved
still_late : (facts : Facts) (g t f kickoff : ℕ) (place : Option ℕ) → 1 ≤ g → g ≤ length facts.calendar.deadlines → IsPlace facts place
    → (is_gameweek g place && is_early t kickoff) ≡ false → kickoff_early facts.calendar f place kickoff ≡ None
    → kickoff_early (with_deadline facts.calendar g t) f place kickoff ≡ None
still_late facts g t f kickoff None from to is fails old = refl
still_late facts g t f kickoff (Some h) from to is fails old = elim (cases_eq h g) [
  | inl same ↦
      let off : is_early t kickoff ≡ false = grind (arith, nat_tests, fails, same) in
      let number : h - 1 ≡ g - 1 = omega (arith, same) in
      ap (λ d. if is_early d kickoff then Some (rule.KickoffEarly f) else None)
      (ap (λ n. get_or (set facts.calendar.deadlines (g - 1) t) n 0) number ∙ get_or-set_same facts.calendar.deadlines (g - 1) t 0 (omega (arith, from, to)))
      ∙ ap (λ b. if b then Some (rule.KickoffEarly f) else None) off
  | inr other ↦
      let apart : h - 1 ≡ g - 1 → ⊥ = λ e. other (grind (arith, nat_tests, is, from, e)) in
      ap (λ d. if is_early d kickoff then Some (rule.KickoffEarly f) else None) (get_or-set_other facts.calendar.deadlines (g - 1) (h - 1) t 0 apart) ∙ old
]

pub deadline_moved : (facts : Facts) → AreLawful facts → (g t now : ℕ) → has_gameweek facts g ≡ true → deadline_refusal facts.calendar g t now ≡ None
    → AreLawful (record facts { calendar = with_deadline facts.calendar g t })
deadline_moved facts lawful g t now there none =
    let first = none_first (deadline_passed facts.calendar g t now) (deadline_order facts.calendar g t ∷ deadline_late facts.calendar g t ∷ []) none in
    let second = none_first (deadline_order facts.calendar g t) (deadline_late facts.calendar g t ∷ []) first.1 in
    let third = none_first (deadline_late facts.calendar g t) [] second.1 in
    let ahead : (is_locked facts.calendar g || nat_le t now) ≡ false = not_refused (is_locked facts.calendar g || nat_le t now) (rule.DeadlinePassed g) first.0 in
    let order : (is_after_previous facts.calendar.deadlines g t && is_before_next facts.calendar.deadlines g t) ≡ true
    = holds_unless (is_after_previous facts.calendar.deadlines g t && is_before_next facts.calendar.deadlines g t) (rule.DeadlineOrder g) second.0 in
    let both = and_parts (is_after_previous facts.calendar.deadlines g t) (is_before_next facts.calendar.deadlines g t) order in
    let from : 1 ≤ g = grind (arith, nat_tests, ahead) in
    let to : g ≤ length facts.calendar.deadlines = grind (arith, nat_tests, there) in
    let long : length (set facts.calendar.deadlines (g - 1) t) ≡ length facts.calendar.deadlines = length-set facts.calendar.deadlines (g - 1) t in
    record {
      terms = record {
        gameweeks = ap (is_between 1 38) long ∙ lawful.terms.gameweeks;
        split_within = omega (arith, long, lawful.terms.split_within);
        locked_within = omega (arith, long, lawful.terms.locked_within);
        in_order = still_rise facts.calendar.deadlines g t lawful.terms.in_order from to both.0 both.1;
      };
      few_clubs = lawful.few_clubs;
      few_players = lawful.few_players;
      few_fixtures = lawful.few_fixtures;
      few_standing = lawful.few_standing;
      few_lines = lawful.few_lines;
      players = λ p player at. (let old = lawful.players p player at in record { club = old.club; price = old.price });
      fixtures = λ f x at. (
          let old = lawful.fixtures f x at in
          record {
            home = old.home;
            away = old.away;
            two = old.two;
            place = still_place facts g t x.gw long old.place;
            kickoff = still_late facts g t x.id x.kickoff x.gw from to old.place
                (fails_of_found (λ (x : Fixture). is_gameweek g x.gw && is_early t x.kickoff) facts.calendar.fixtures f x (none_late facts.calendar g t third.0) at)
                old.kickoff;
            finished = old.finished;
          });
      lines = λ f p line at. (
          let old = lawful.lines f p line at in
          record { fixture = old.fixture; player = old.player; locked = old.locked; range = old.range });
    }
  where
    still_place : (facts : Facts) (g t : ℕ) (place : Option ℕ) → length (set facts.calendar.deadlines (g - 1) t) ≡ length facts.calendar.deadlines
        → IsPlace facts place → IsPlace (record facts { calendar = with_deadline facts.calendar g t }) place
    still_place facts g t None long is = tt
    still_place facts g t (Some h) long is = ap (λ n. is_between 1 n h) long ∙ is
