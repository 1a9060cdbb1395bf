-- Fixtures that come and move keep the facts lawful.
use Rattle.std.proofs.Common.{◌≡◌, ◌≢◌, ◌≤◌, ◌<◌, ◌+◌, ◌==◌, ◌&&◌, ◌||◌, ℕ, Bool, true, false, not, cond, List, [], ◌∷◌, Option, Some, None, IsTrue, find, filter, length, map, nat_le, nat_lt, arith, refl, sym, ap, ◌∙◌, subst, if◌then◌else◌}
use Rattle.std.specs.Prelude.{is_some}
use Rattle.std.specs.List.{list_any}
use Rattle.std.specs.Option.{option_and_then, option_map}
use Rattle.std.proofs.lemmas.Bool.{eqb-true, false≢true}
use Rattle.std.proofs.lemmas.Bool.Decides.{nat_tests}
use Rattle.std.proofs.lemmas.List.{length-map}
use Rattle.std.proofs.lemmas.Option.{none-some}
use Rattle.fpl_base.specs.declared.rule.Rule.TheVariants as rule
use Rattle.rule_book.specs.declared.line.Line.{Line}
use Rattle.rule_book.specs.declared.season.Fixture.{Fixture}
use Rattle.rule_book.specs.Calendar.{CalendarFacts, between, facts_held, fixture_of, fixture_there, fixtures_full, gameweek_full, is_gameweek, is_locked_place, kickoff_early, moved_to, standing, standing_among, with_fixture, with_move, with_opponents}
use Rattle.rule_book.specs.CalendarCalls.{fixture_refusal, move_refusal}
use Rattle.rule_book.specs.MatchFacts.{Lines, MatchFacts, has_facts, is_finished, line_in, line_of, lines_of}
use Rattle.season_book.specs.Book.{Facts}
use Rattle.season_book.specs.Commands.{has_club, has_place}
use Rattle.record_fields.specs.Ranges.{is_place}
use Rattle.season_records.specs.Told.{AreInOrder}
use Rattle.season_records.proofs.Determined.{found_id, rise_of}
use Rattle.season_records.proofs.Finds.{found_beside}
use Rattle.lawful_books.specs.Facts.{AreLawful, IsLawfulFixture, IsPlace}
use Rattle.lawful_books.proofs.Crowds.{changed_pass, gone_pass, length_others, length_put, others, put_pass}
use Rattle.lawful_books.proofs.Found.{found_mapped, mapped_found, put_found, put_in, some_any}
use Rattle.lawful_books.proofs.Lines.{none_first, not_refused}
use Rattle.lawful_books.proofs.MatchesKept.{stands_there}

-- A place that a command names.

pub is_its_place : (facts : Facts) (place : Option ℕ) → IsTrue (is_place place) → has_place facts place ≡ true → IsPlace facts place
is_its_place facts None range there = tt
is_its_place facts (Some g) range there = grind (arith, nat_tests, range, there)

-- a fixture with a line has facts
line_tells : (m : MatchFacts) (f p : ℕ) (line : Line) → line_of m f p ≡ Some line → has_facts m f ≡ true
line_tells m f p line at = told (lines_of m f) (is_finished m f) at
  where
    told : (lines : Lines) (b : Bool) → line_in lines p ≡ Some line → (b || nat_lt 0 (length lines)) ≡ true
    told [] b at = absurd (none-some line at)
    told (row ∷ lines) true at = refl
    told (row ∷ lines) false at = grind (arith, nat_tests)

-- The crowd of a gameweek.

length_standing : (xs : List Fixture) (g : ℕ) → length (standing_among xs g) ≡ length (filter (λ (x : Fixture). is_gameweek g x.gw) xs)
length_standing xs g = length-map (filter (λ (x : Fixture). is_gameweek g x.gw) xs) (λ (x : Fixture). x.id)

not_full : (c : CalendarFacts) (f g : ℕ) → gameweek_full c f (Some g) ≡ None → length (filter (λ i. not (i == f)) (standing c g)) < 20
not_full c f g none = grind (arith, nat_tests, not_refused (nat_le 20 (length (filter (λ i. not (i == f)) (standing c g)))) (rule.GameweekFull g) none)

-- the gameweek of a place that is not full
room : (c : CalendarFacts) (f g : ℕ) (place : Option ℕ) → gameweek_full c f place ≡ None → is_gameweek g place ≡ true → length (filter (λ i. not (i == f)) (standing c g)) < 20
room c f g None none here = absurd (false≢true here)
room c f g (Some h) none here =
    let same : h ≡ g = grind (arith, nat_tests, here) in
    subst (λ g. length (filter (λ i. not (i == f)) (standing c g)) < 20) same (not_full c f h none)

module _ (facts : Facts) (lawful : AreLawful facts) where
  -- other fixtures, each of them lawful, with all that have lines in locked gameweeks still
  with_fixtures : (xs : List Fixture) → length xs ≤ 380 → ((g : ℕ) → length (standing_among xs g) ≤ 20)
      → ((f : ℕ) (x : Fixture) → find (λ x. x.id == f) xs ≡ Some x → IsLawfulFixture facts x)
      → ((f p : ℕ) (line : Line) → line_of facts.matches f p ≡ Some line → (x : Fixture) × (find (λ x. x.id == f) xs ≡ Some x) × (is_locked_place facts.calendar x.gw ≡ true))
      → AreLawful (record facts { calendar = record facts.calendar { fixtures = xs } })
  with_fixtures xs few crowds each there = record {
    terms = lawful.terms;
    few_clubs = lawful.few_clubs;
    few_players = lawful.few_players;
    few_fixtures = few;
    few_standing = crowds;
    few_lines = lawful.few_lines;
    players = λ p player at. (let old = lawful.players p player at in record { club = old.club; price = old.price });
    fixtures = λ f x at. (
        let new = each f x at in
        record { home = new.home; away = new.away; two = new.two; place = new.place; kickoff = new.kickoff; finished = new.finished });
    lines = λ f p line at. (
        let old = lawful.lines f p line at in
        let new = there f p line at in
        record {
          fixture = ap is_some new.1;
          player = old.player;
          locked = ap (λ o. is_locked_place facts.calendar (option_and_then (λ (x : Fixture). x.gw) o)) new.1 ∙ new.2;
          range = old.range;
        });
  }

  -- a fixture that has lines is there, in a locked gameweek
  of_line : (f p : ℕ) (line : Line) → line_of facts.matches f p ≡ Some line → (x : Fixture) × (fixture_of facts.calendar f ≡ Some x) × (is_locked_place facts.calendar x.gw ≡ true)
  of_line f p line at = by (fixture_of facts.calendar f) refl (lawful.lines f p line at).fixture
    where
      by : (o : Option Fixture) → fixture_of facts.calendar f ≡ o → is_some o ≡ true
          → (x : Fixture) × (fixture_of facts.calendar f ≡ Some x) × (is_locked_place facts.calendar x.gw ≡ true)
      by None none there = absurd (false≢true there)
      by (Some x) found there = (x, found, sym (ap (is_locked_place facts.calendar) (stands_there facts.calendar f x found)) ∙ (lawful.lines f p line at).locked)

  pub fixture_added : (new : Fixture) → has_club facts new.home ≡ true → has_club facts new.away ≡ true → new.home ≢ new.away → IsPlace facts new.gw
      → AreInOrder facts → fixture_refusal facts.calendar new ≡ None → AreLawful (record facts { calendar = with_fixture facts.calendar new })
  fixture_added new home away two place order none =
      let first = none_first (fixture_there facts.calendar new.id) (fixtures_full facts.calendar ∷ gameweek_full facts.calendar new.id new.gw ∷ kickoff_early facts.calendar new.id new.gw new.kickoff ∷ []) none in
      let second = none_first (fixtures_full facts.calendar) (gameweek_full facts.calendar new.id new.gw ∷ kickoff_early facts.calendar new.id new.gw new.kickoff ∷ []) first.1 in
      let third = none_first (gameweek_full facts.calendar new.id new.gw) (kickoff_early facts.calendar new.id new.gw new.kickoff ∷ []) second.1 in
      let fourth = none_first (kickoff_early facts.calendar new.id new.gw new.kickoff) [] third.1 in
      let absent : is_some (fixture_of facts.calendar new.id) ≡ false
      = some_any (λ (x : Fixture). x.id == new.id) xs ∙ not_refused (list_any (λ (x : Fixture). x.id == new.id) xs) (rule.FixtureThere new.id) first.0 in
      let few : nat_le 380 (length xs) ≡ false = not_refused (nat_le 380 (length xs)) rule.FixturesFull second.0 in
      let it : IsLawfulFixture facts new = record {
        home = home;
        away = away;
        two = two;
        place = place;
        kickoff = fourth.0;
        finished = λ is. absurd (false≢true (sym absent ∙ order.there new.id (ap (λ b. b || nat_lt 0 (length (lines_of facts.matches new.id))) is)));
      } in
      with_fixtures (put_in (λ (x : Fixture). x.id) xs new) (omega (arith, length_put (λ (x : Fixture). x.id) xs new, below 380 (length xs) few)) (crowd third.0)
      (λ f x at. put_found (λ (x : Fixture). x.id) (IsLawfulFixture facts) xs new f x (λ same. it) (lawful.fixtures f x) at)
      (λ f p line at. (
      let old = of_line f p line at in
      (old.0, found_beside (λ (x : Fixture). x.id) xs new f (apart f (ap is_some old.1) absent) ∙ old.1, old.2)))
    where
      xs : List Fixture
      xs = facts.calendar.fixtures

      below : (most n : ℕ) → nat_le most n ≡ false → n < most
      below most n no_more = grind (arith, nat_tests, no_more)

      apart : (f : ℕ) → is_some (fixture_of facts.calendar f) ≡ true → is_some (fixture_of facts.calendar new.id) ≡ false → (new.id == f) ≡ false
      apart f there absent = by (new.id == f) refl
        where
          by : (b : Bool) → (new.id == f) ≡ b → b ≡ false
          by false is = refl
          by true is = absurd (false≢true (sym absent ∙ ap (λ f. is_some (fixture_of facts.calendar f)) (eqb-true new.id f is) ∙ there))

      crowd : gameweek_full facts.calendar new.id new.gw ≡ None → (g : ℕ) → length (standing_among (put_in (λ (x : Fixture). x.id) xs new) g) ≤ 20
      crowd none g =
          by (is_gameweek g new.gw) refl
          (subst (λ n. n ≤ length (others (λ (x : Fixture). x.id) (λ (x : Fixture). is_gameweek g x.gw) xs new.id) + cond (is_gameweek g new.gw) 1 0)
          (sym (length_standing (put_in (λ (x : Fixture). x.id) xs new) g)) (put_pass (λ (x : Fixture). x.id) (λ (x : Fixture). is_gameweek g x.gw) xs new))
        where
          by : (b : Bool) → is_gameweek g new.gw ≡ b
              → length (standing_among (put_in (λ (x : Fixture). x.id) xs new) g) ≤ length (others (λ (x : Fixture). x.id) (λ (x : Fixture). is_gameweek g x.gw) xs new.id) + cond b 1 0
              → length (standing_among (put_in (λ (x : Fixture). x.id) xs new) g) ≤ 20
          by true here most = omega (arith, most, room facts.calendar new.id g new.gw none here)
          by false here most =
              omega (arith, most, length_others (λ (x : Fixture). x.id) (λ (x : Fixture). is_gameweek g x.gw) xs new.id, length_standing xs g, lawful.few_standing g)

  pub fixture_moved : (f : ℕ) (to : Option ℕ) (kickoff : ℕ) → IsPlace facts to → AreInOrder facts
      → move_refusal facts.calendar f to kickoff (has_facts facts.matches f) ≡ None → AreLawful (record facts { calendar = with_move facts.calendar f to kickoff })
  fixture_moved f to kickoff place order none =
      let first = none_first (facts_held facts.calendar f to (has_facts facts.matches f)) (gameweek_full facts.calendar f to ∷ kickoff_early facts.calendar f to kickoff ∷ []) none in
      let second = none_first (gameweek_full facts.calendar f to) (kickoff_early facts.calendar f to kickoff ∷ []) first.1 in
      let third = none_first (kickoff_early facts.calendar f to kickoff) [] second.1 in
      with_fixtures (map (moved_to f to kickoff) xs) (omega (arith, length-map xs (moved_to f to kickoff), lawful.few_fixtures)) (crowd second.0)
      (λ q x at. mapped_found (λ (x : Fixture). x.id) (IsLawfulFixture facts) (moved_to f to kickoff) keeps xs q x
      (λ y found. moved y (y.id == f) refl first.0 third.0 (lawful.fixtures q y found)) at)
      (λ q p line at. (
      let old = of_line q p line at in (
        moved_to f to kickoff old.0,
        found_mapped (λ (x : Fixture). x.id) (moved_to f to kickoff) keeps xs q ∙ ap (option_map (moved_to f to kickoff)) old.1,
        stays old.0 (old.0.id == f) refl first.0
            (ap (has_facts facts.matches) (found_id (λ (x : Fixture). x.id) xs q old.0 old.1) ∙ line_tells facts.matches q p line at) old.2,
      )))
    where
      xs : List Fixture
      xs = facts.calendar.fixtures

      keeps : (x : Fixture) → (moved_to f to kickoff x).id ≡ x.id
      keeps x = by (x.id == f)
        where
          by : (b : Bool) → (if b then record x { gw = to; kickoff = kickoff } else x).id ≡ x.id
          by true = refl
          by false = refl

      held : facts_held facts.calendar f to (has_facts facts.matches f) ≡ None → has_facts facts.matches f ≡ true → is_locked_place facts.calendar to ≡ true
      held none told =
          let off = not_refused (has_facts facts.matches f && not (is_locked_place facts.calendar to)) (rule.HasFacts f) none in
          grind (arith, nat_tests, off, told)

      moved : (x : Fixture) (b : Bool) → (x.id == f) ≡ b → facts_held facts.calendar f to (has_facts facts.matches f) ≡ None → kickoff_early facts.calendar f to kickoff ≡ None
          → IsLawfulFixture facts x → IsLawfulFixture facts (if b then record x { gw = to; kickoff = kickoff } else x)
      moved x false is free early old = old
      moved x true is free early old =
          let same : x.id ≡ f = eqb-true x.id f is in
          record {
            home = old.home;
            away = old.away;
            two = old.two;
            place = place;
            kickoff = ap (λ f. kickoff_early facts.calendar f to kickoff) same ∙ early;
            finished = λ finished. held free (ap (λ b. b || nat_lt 0 (length (lines_of facts.matches f))) (ap (is_finished facts.matches) (sym same) ∙ finished));
          }

      stays : (x : Fixture) (b : Bool) → (x.id == f) ≡ b → facts_held facts.calendar f to (has_facts facts.matches f) ≡ None → has_facts facts.matches x.id ≡ true
          → is_locked_place facts.calendar x.gw ≡ true → is_locked_place facts.calendar (if b then record x { gw = to; kickoff = kickoff } else x).gw ≡ true
      stays x false is free told old = old
      stays x true is free told old = held free (ap (has_facts facts.matches) (sym (eqb-true x.id f is)) ∙ told)

      crowd : gameweek_full facts.calendar f to ≡ None → (g : ℕ) → length (standing_among (map (moved_to f to kickoff) xs) g) ≤ 20
      crowd none g = by (is_gameweek g to) refl
        where
          by : (b : Bool) → is_gameweek g to ≡ b → length (standing_among (map (moved_to f to kickoff) xs) g) ≤ 20
          by true here =
              omega (
                arith,
                length_standing (map (moved_to f to kickoff) xs) g,
                changed_pass (λ (x : Fixture). x.id) (λ (x : Fixture). is_gameweek g x.gw) f (λ x. record x { gw = to; kickoff = kickoff }) xs (rise_of (λ (x : Fixture). x.id) xs order.fixtures),
                room facts.calendar f g to none here,
              )
          by false here =
              omega (
                arith,
                length_standing (map (moved_to f to kickoff) xs) g,
                length_standing xs g,
                lawful.few_standing g,
                gone_pass (λ (x : Fixture). x.id) (λ (x : Fixture). is_gameweek g x.gw) f (λ x. record x { gw = to; kickoff = kickoff }) (λ x. here) xs,
              )

  -- a fixture without lines, between other clubs
  pub fixture_amended : (f home away : ℕ) → has_club facts home ≡ true → has_club facts away ≡ true → home ≢ away → AreLawful (record facts { calendar = with_opponents facts.calendar f home away })
  fixture_amended f home away home_there away_there two =
      with_fixtures (map (between f home away) xs) (omega (arith, length-map xs (between f home away), lawful.few_fixtures)) crowd
      (λ q x at. mapped_found (λ (x : Fixture). x.id) (IsLawfulFixture facts) (between f home away) keeps xs q x (λ y found. amended y (y.id == f) (lawful.fixtures q y found)) at)
      (λ q p line at. (
      let old = of_line q p line at in (
        between f home away old.0,
        found_mapped (λ (x : Fixture). x.id) (between f home away) keeps xs q ∙ ap (option_map (between f home away)) old.1,
        stays old.0 (old.0.id == f) old.2,
      )))
    where
      xs : List Fixture
      xs = facts.calendar.fixtures

      keeps : (x : Fixture) → (between f home away x).id ≡ x.id
      keeps x = by (x.id == f)
        where
          by : (b : Bool) → (if b then record x { home = home; away = away } else x).id ≡ x.id
          by true = refl
          by false = refl

      amended : (x : Fixture) (b : Bool) → IsLawfulFixture facts x → IsLawfulFixture facts (if b then record x { home = home; away = away } else x)
      amended x false old = old
      amended x true old = record { home = home_there; away = away_there; two = two; place = old.place; kickoff = old.kickoff; finished = old.finished }

      stays : (x : Fixture) (b : Bool) → is_locked_place facts.calendar x.gw ≡ true → is_locked_place facts.calendar (if b then record x { home = home; away = away } else x).gw ≡ true
      stays x false old = old
      stays x true old = old

      same_standing : (xs : List Fixture) (g : ℕ) → standing_among (map (between f home away) xs) g ≡ standing_among xs g
      same_standing [] g = refl
      same_standing (x ∷ xs) g = by (x.id == f) (same_standing xs g)
        where
          by : (b : Bool) → standing_among (map (between f home away) xs) g ≡ standing_among xs g
              → standing_among ((if b then record x { home = home; away = away } else x) ∷ map (between f home away) xs) g ≡ standing_among (x ∷ xs) g
          by true rest = here (is_gameweek g x.gw) rest
            where
              here : (t : Bool) → standing_among (map (between f home away) xs) g ≡ standing_among xs g
                  → map (λ (y : Fixture). y.id) (cond t (record x { home = home; away = away } ∷ filter (λ (y : Fixture). is_gameweek g y.gw) (map (between f home away) xs)) (filter (λ (y : Fixture). is_gameweek g y.gw) (map (between f home away) xs)))
                  ≡ map (λ (y : Fixture). y.id) (cond t (x ∷ filter (λ (y : Fixture). is_gameweek g y.gw) xs) (filter (λ (y : Fixture). is_gameweek g y.gw) xs))
              here true rest = ap (λ l. x.id ∷ l) rest
              here false rest = rest
          by false rest = here (is_gameweek g x.gw) rest
            where
              here : (t : Bool) → standing_among (map (between f home away) xs) g ≡ standing_among xs g
                  → map (λ (y : Fixture). y.id) (cond t (x ∷ filter (λ (y : Fixture). is_gameweek g y.gw) (map (between f home away) xs)) (filter (λ (y : Fixture). is_gameweek g y.gw) (map (between f home away) xs)))
                  ≡ map (λ (y : Fixture). y.id) (cond t (x ∷ filter (λ (y : Fixture). is_gameweek g y.gw) xs) (filter (λ (y : Fixture). is_gameweek g y.gw) xs))
              here true rest = ap (λ l. x.id ∷ l) rest
              here false rest = rest

      crowd : (g : ℕ) → length (standing_among (map (between f home away) xs) g) ≤ 20
      crowd g = subst (λ (l : List ℕ). length l ≤ 20) (sym (same_standing xs g)) (lawful.few_standing g)
