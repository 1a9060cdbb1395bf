-- Records of lawful facts break no rule.
use Rattle.std.proofs.Common.{◌≡◌, ◌≢◌, ◌≤◌, ◌<◌, ◌==◌, ◌&&◌, ◌||◌, ℕ, Bool, true, false, not, List, [], Option, Some, None, length, map, nat_le, nat_lt, arith, refl, sym, ap, subst, ◌∙◌}
use Rattle.std.specs.Prelude.{is_none, is_some}
use Rattle.std.specs.List.{list_any}
use Rattle.std.specs.Option.{option_and_then, option_map}
use Rattle.std.proofs.lemmas.Bool.{and_parts, false≢true}
use Rattle.std.proofs.lemmas.Bool.Decides.{nat_tests}
use Rattle.std.proofs.lemmas.List.{length-map}
use Rattle.std.proofs.lemmas.Option.{none-some, same_Some}
use Rattle.fpl_base.specs.declared.records.RecordKey.{RecordKey}
use Rattle.fpl_base.specs.Keeping.{Map, is_same_key, map_of}
use Rattle.rule_book.specs.declared.line.Line.{Line}
use Rattle.rule_book.specs.declared.player.Player.{Player}
use Rattle.rule_book.specs.declared.season.Fixture.{Fixture}
use Rattle.rule_book.specs.ById.{at_id}
use Rattle.rule_book.specs.Calendar.{fixture_of, is_gameweek, is_locked_place, kickoff_early, standing, stands_in}
use Rattle.rule_book.specs.MatchFacts.{is_finished, line_of, lines_of, players_in}
use Rattle.rule_book.specs.Players.{most_players, player_of}
use Rattle.season_book.specs.Book.{Book, Facts}
use Rattle.season_book.specs.Commands.{has_club, has_fixture, has_player}
use Rattle.record_fields.specs.Ranges.{is_between}
use Rattle.season_records.specs.ItemReading.{item_of}
use Rattle.season_records.specs.Keys.{key_of}
use Rattle.season_records.specs.declared.item.Item.{Item}
use Rattle.season_records.specs.declared.item.Item.TheVariants as item
use Rattle.season_records.specs.declared.slot.Slot.{Slot}
use Rattle.season_records.specs.declared.slot.Slot.TheVariants as slot
use Rattle.season_records.specs.Records.{fixture_item, player_item, season_item, told, told_in}
use Rattle.season_records.proofs.Determined.{found_id}
use Rattle.stored_records.specs.SeasonRules.{calendar_told, is_crowded, is_full, misses, misses_place, place_in, place_told, standing_before, stands_in as row_stands}
use Rattle.stored_records.specs.Stored.{Rows, deadlines_in, is_there, is_within, locked_in, split_in, told as told_of}
use Rattle.store_validation.specs.Lawful.{breaks, is_in_range, rules_broken}
use Rattle.lawful_books.specs.Facts.{IsPlace}
use Rattle.lawful_books.specs.FactsRules.{AreOfLawful, FactsBreakNoRule}
use Rattle.lawful_books.specs.Telling.{HaveKeys, IsFamily}
use Rattle.lawful_books.proofs.Among.{any_id, at_id_any, found_among, passing_among, some_mapped}
use Rattle.lawful_books.proofs.Counting.{fewer_stand}
use Rattle.lawful_books.proofs.Families.{clubs_family, fixtures_family, has_key, lines_family, none_is_full, players_family}
use Rattle.lawful_books.proofs.Telling.{of_record, records_are_there, records_are_told}

-- neither of two tests holds
neither : {a b : Bool} → a ≡ false → b ≡ false → (a || b) ≡ false
neither {a} {b} no_first no_second = ap (λ a. a || b) no_first ∙ no_second

none_some : {X : Type 0} {o : Option X} → o ≡ None → is_some o ≡ false
none_some none = ap is_some none

not_off : {b : Bool} → b ≡ true → not b ≡ false
not_off is = ap not is

both_hold : (a b : Bool) → a ≡ true → b ≡ true → (a && b) ≡ true
both_hold a b first second = ap (λ a. a && b) first ∙ second

within : (n most : ℕ) → n ≤ most → nat_le n most ≡ true
within n most le = grind (arith, nat_tests, le)

not_above : (n most : ℕ) → n ≤ most → nat_lt most n ≡ false
not_above n most le = grind (arith, nat_tests, le)

module _ (book : Book) (facts : Facts) (rows : Rows) (are : AreOfLawful book facts rows) where
  there : (s : Slot) → is_there (map_of rows) s ≡ is_some (told book s)
  there s = ap (λ (m : Map). is_there m s) are.same ∙ records_are_there book s

  tells : (s : Slot) → told_of (map_of rows) s ≡ told book s
  tells s = ap (λ (m : Map). told_of m s) are.same ∙ records_are_told book s (are.items s)

  not_missed : (s : Slot) → is_some (told book s) ≡ true → misses (map_of rows) s ≡ false
  not_missed s is = ap not (there s ∙ is)

  -- what the book tells of the facts
  of_facts : (s : Slot) → option_and_then (λ facts. told_in facts s) book.facts ≡ told_in facts s
  of_facts s = ap (option_and_then (λ facts. told_in facts s)) are.facts_are

  clubs_are : (n : ℕ) → is_some (told book (slot.Club n)) ≡ list_any (λ i. i == n) (map (λ row. row.0) facts.clubs)
  clubs_are n = ap is_some (of_facts (slot.Club n)) ∙ some_mapped (item.Club n) (at_id facts.clubs n) ∙ at_id_any facts.clubs n ∙ sym (any_id (λ (row : ℕ × List ℕ). row.0) facts.clubs n)

  players_are : (n : ℕ) → is_some (told book (slot.Player n)) ≡ list_any (λ i. i == n) (map (λ p. p.id) facts.players)
  players_are n = ap is_some (of_facts (slot.Player n)) ∙ some_mapped (player_item n) (player_of facts.players n) ∙ found_among (λ (p : Player). p.id) facts.players n

  fixtures_are : (n : ℕ) → is_some (told book (slot.Fixture n)) ≡ list_any (λ i. i == n) (map (λ x. x.id) facts.calendar.fixtures)
  fixtures_are n =
      ap is_some (of_facts (slot.Fixture n)) ∙ some_mapped (fixture_item n facts) (fixture_of facts.calendar n) ∙ found_among (λ (x : Fixture). x.id) facts.calendar.fixtures n

  lines_are : (f n : ℕ) → is_some (told book (slot.Line f n)) ≡ list_any (λ i. i == n) (players_in (lines_of facts.matches f))
  lines_are f n =
      ap is_some (of_facts (slot.Line f n)) ∙ some_mapped (item.Line f n) (line_of facts.matches f n) ∙ at_id_any (lines_of facts.matches f) n
      ∙ sym (any_id (λ (row : ℕ × Line). row.0) (lines_of facts.matches f) n)

  -- no limit is reached before a slot that tells something
  none_full : (family : ℕ → Slot) (most : ℕ) (ids : List ℕ) → IsFamily family → ((n : ℕ) → is_some (told book (family n)) ≡ list_any (λ i. i == n) ids) → length ids ≤ most
      → (n : ℕ) (i : Item) → told book (family n) ≡ Some i → is_full rows most (family 0) (family n) ≡ false
  none_full family most ids is each few n i at =
      none_is_full book rows most family ids n is are.rise are.same (λ n i at. sym (each n) ∙ ap is_some at) (sym (each n) ∙ ap is_some at) few

  club_there : (c : ℕ) → has_club facts c ≡ true → misses (map_of rows) (slot.Club c) ≡ false
  club_there c has = not_missed (slot.Club c) (clubs_are c ∙ any_id (λ (row : ℕ × List ℕ). row.0) facts.clubs c ∙ has)

  player_there : (p : ℕ) → has_player facts p ≡ true → misses (map_of rows) (slot.Player p) ≡ false
  player_there p has = not_missed (slot.Player p) (ap is_some (of_facts (slot.Player p)) ∙ some_mapped (player_item p) (player_of facts.players p) ∙ has)

  fixture_there : (f : ℕ) → has_fixture facts f ≡ true → misses (map_of rows) (slot.Fixture f) ≡ false
  fixture_there f has = not_missed (slot.Fixture f) (ap is_some (of_facts (slot.Fixture f)) ∙ some_mapped (fixture_item f facts) (fixture_of facts.calendar f) ∙ has)

  season_there : misses (map_of rows) slot.Season ≡ false
  season_there = not_missed slot.Season (ap is_some (of_facts slot.Season))

  -- the calendar that is told
  season_tells : told_of (map_of rows) slot.Season ≡ Some (season_item facts)
  season_tells = tells slot.Season ∙ of_facts slot.Season

  calendar_is : calendar_told (map_of rows) ≡ record { deadlines = facts.calendar.deadlines; split = facts.calendar.split; locked = facts.calendar.locked; fixtures = [] }
  calendar_is = λ i. record {
    deadlines = deadlines_in (season_tells i);
    split = split_in (season_tells i);
    locked = locked_in (season_tells i);
    fixtures = [];
  }

  locked_is : (place : Option ℕ) → is_locked_place (calendar_told (map_of rows)) place ≡ is_locked_place facts.calendar place
  locked_is None = refl
  locked_is (Some g) = ap (λ c. is_locked_place c (Some g)) calendar_is

  early_is : (f kickoff : ℕ) (place : Option ℕ) → kickoff_early (calendar_told (map_of rows)) f place kickoff ≡ kickoff_early facts.calendar f place kickoff
  early_is f kickoff None = refl
  early_is f kickoff (Some g) = ap (λ c. kickoff_early c f (Some g) kickoff) calendar_is

  place_is : (f : ℕ) → place_told (map_of rows) f ≡ stands_in facts.calendar f
  place_is f = ap place_in (tells (slot.Fixture f) ∙ of_facts (slot.Fixture f)) ∙ by (fixture_of facts.calendar f)
    where
      by : (o : Option Fixture) → place_in (option_map (fixture_item f facts) o) ≡ option_and_then (λ (x : Fixture). x.gw) o
      by None = refl
      by (Some x) = refl

  abbrev Right : Item → Type 0
  Right i = (is_in_range i ≡ true) × (breaks rows i ≡ false)

  -- an item in range that breaks no rule on what it tells of
  no_rule : (i : Item) → rules_broken rows i ≡ false → breaks rows i ≡ false
  no_rule i none = neither season_there none

  mapped_right : {X : Type 0} (s : Slot) (f : X → Item) (o : Option X) (i : Item) → told book s ≡ option_map f o → told book s ≡ Some i
      → ((x : X) → o ≡ Some x → told book s ≡ Some (f x) → Right (f x)) → Right i
  mapped_right s f None i is at each = absurd (none-some i (sym is ∙ at))
  mapped_right s f (Some x) i is at each = subst Right (same_Some (f x) i (sym is ∙ at)) (each x refl is)

  season_right : Right (season_item facts)
  season_right =
      let terms = are.lawful.terms in
      let split = facts.calendar.split in
      let locked = facts.calendar.locked in
      let deadlines = facts.calendar.deadlines in (
        both_hold (is_between 1 38 (length deadlines)) (nat_le split (length deadlines)) terms.gameweeks (within split (length deadlines) terms.split_within),
        no_rule (season_item facts)
            (neither (neither (none_some terms.in_order) (not_above split (length deadlines) terms.split_within)) (not_above locked (length deadlines) terms.locked_within)),
      )

  club_right : (c : ℕ) (name : List ℕ) → told book (slot.Club c) ≡ Some (item.Club c name) → Right (item.Club c name)
  club_right c name at = (
    refl,
    no_rule (item.Club c name)
        (none_full slot.Club 20 (map (λ row. row.0) facts.clubs) clubs_family clubs_are
        (omega (arith, length-map facts.clubs (λ (row : ℕ × List ℕ). row.0), are.lawful.few_clubs)) c (item.Club c name) at),
  )

  player_right : (p : ℕ) (player : Player) → player_of facts.players p ≡ Some player → told book (slot.Player p) ≡ Some (player_item p player) → Right (player_item p player)
  player_right p player found at =
      let lawful = are.lawful.players p player found in
      let full : is_full rows most_players (slot.Player 0) (slot.Player p) ≡ false
      = none_full slot.Player most_players (map (λ p. p.id) facts.players) players_family players_are
      (omega (arith, length-map facts.players (λ (p : Player). p.id), are.lawful.few_players)) p (player_item p player) at in (
        refl,
        no_rule (player_item p player)
            (neither (neither (club_there player.club lawful.club) (none_some lawful.price)) full),
      )

  -- Fixtures.

  place_there : (place : Option ℕ) → IsPlace facts place → misses_place (map_of rows) place ≡ false
  place_there None is = refl
  place_there (Some g) is = ap (λ ds. not (is_between 1 (length ds) g)) (ap deadlines_in season_tells) ∙ ap not is

  -- each record of a fixture in a gameweek before another is that of a fixture there
  stand_at : (f g : ℕ) → HaveKeys rows (λ row. is_within (key_of (slot.Fixture 0)) (key_of (slot.Fixture f)) row.0 && row_stands g row)
      (map (λ id. key_of (slot.Fixture id)) (standing facts.calendar g))
  stand_at f g key body at passes =
      let both = and_parts (is_within (key_of (slot.Fixture 0)) (key_of (slot.Fixture f)) key) (row_stands g (key, body)) passes in
      let of = of_record book key body (sym (ap (λ (m : Map). m key) are.same) ∙ at) in
      let one = fixtures_family f of.0 (sym (ap (is_within (key_of (slot.Fixture 0)) (key_of (slot.Fixture f))) of.1) ∙ both.0) in
      let here : key ≡ key_of (slot.Fixture one.0) = of.1 ∙ ap key_of one.1 in
      subst (λ k. list_any (λ j. is_same_key j k) (map (λ id. key_of (slot.Fixture id)) (standing facts.calendar g)) ≡ true) (sym here)
      (has_key slot.Fixture (standing facts.calendar g) one.0 (among one.0 (stands one.0 here both.1)))
    where
      stands : (n : ℕ) → key ≡ key_of (slot.Fixture n) → row_stands g (key, body) ≡ true → is_gameweek g (stands_in facts.calendar n) ≡ true
      stands n here is =
          ap (is_gameweek g) (sym (place_is n))
          ∙ ap (λ o. is_gameweek g (place_in (option_and_then (item_of (key_of (slot.Fixture n))) o))) (sym (ap (map_of rows) here) ∙ at)
          ∙ ap (λ k. is_gameweek g (place_in (item_of k body))) (sym here) ∙ is

      among : (n : ℕ) → is_gameweek g (stands_in facts.calendar n) ≡ true → list_any (λ i. i == n) (standing facts.calendar g) ≡ true
      among n is = by (fixture_of facts.calendar n) refl is
        where
          by : (o : Option Fixture) → fixture_of facts.calendar n ≡ o → is_gameweek g (option_and_then (λ (x : Fixture). x.gw) o) ≡ true
              → list_any (λ i. i == n) (standing facts.calendar g) ≡ true
          by None found is = absurd (false≢true is)
          by (Some y) found is = passing_among (λ (x : Fixture). x.id) (λ (x : Fixture). is_gameweek g x.gw) facts.calendar.fixtures n y found is

  crowd_low : (f : ℕ) (x : Fixture) (place : Option ℕ) → fixture_of facts.calendar f ≡ Some x → x.gw ≡ place → is_crowded rows f place ≡ false
  crowd_low f x None found at = refl
  crowd_low f x (Some g) found at =
      let test : RecordKey × List ℕ → Bool = λ row. is_within (key_of (slot.Fixture 0)) (key_of (slot.Fixture f)) row.0 && row_stands g row in
      let less : standing_before rows f g < length (map (λ id. key_of (slot.Fixture id)) (standing facts.calendar g))
      = fewer_stand rows test (map (λ id. key_of (slot.Fixture id)) (standing facts.calendar g)) (key_of (slot.Fixture f)) are.rise (stand_at f g)
      (has_key slot.Fixture (standing facts.calendar g) f
      (passing_among (λ (x : Fixture). x.id) (λ (x : Fixture). is_gameweek g x.gw) facts.calendar.fixtures f x found (ap (is_gameweek g) at ∙ itself g)))
      (λ body. not_itself f (row_stands g (key_of (slot.Fixture f), body))) in
      below 20 (standing_before rows f g) (omega (arith, less, length-map (standing facts.calendar g) (λ id. key_of (slot.Fixture id)), are.lawful.few_standing g))
    where
      itself : (g : ℕ) → is_gameweek g (Some g) ≡ true
      itself g = grind (arith, nat_tests)

      below : (most n : ℕ) → n < most → nat_le most n ≡ false
      below most n lt = grind (arith, nat_tests, lt)

      not_itself : (f : ℕ) (b : Bool) → (is_within (key_of (slot.Fixture 0)) (key_of (slot.Fixture f)) (key_of (slot.Fixture f)) && b) ≡ false
      not_itself f b = grind (arith, nat_tests)

  not_loose : (f : ℕ) (place : Option ℕ) → (is_finished facts.matches f ≡ true → is_locked_place facts.calendar place ≡ true)
      → (is_finished facts.matches f && not (is_locked_place (calendar_told (map_of rows)) place)) ≡ false
  not_loose f place locked =
      ap (λ b. is_finished facts.matches f && not b) (locked_is place) ∙ by (is_finished facts.matches f) (is_locked_place facts.calendar place) locked
    where
      by : (a b : Bool) → (a ≡ true → b ≡ true) → (a && not b) ≡ false
      by false b locked = refl
      by true b locked = ap not (locked refl)

  fixture_right : (f : ℕ) (x : Fixture) → fixture_of facts.calendar f ≡ Some x → told book (slot.Fixture f) ≡ Some (fixture_item f facts x) → Right (fixture_item f facts x)
  fixture_right f x found at =
      let lawful = are.lawful.fixtures f x found in
      let same : x.id ≡ f = found_id (λ (x : Fixture). x.id) facts.calendar.fixtures f x found in
      let early : kickoff_early (calendar_told (map_of rows)) f x.gw x.kickoff ≡ None
      = early_is f x.kickoff x.gw ∙ ap (λ f. kickoff_early facts.calendar f x.gw x.kickoff) (sym same) ∙ lawful.kickoff in
      let full : is_full rows 380 (slot.Fixture 0) (slot.Fixture f) ≡ false
      = none_full slot.Fixture 380 (map (λ x. x.id) facts.calendar.fixtures) fixtures_family fixtures_are
      (omega (arith, length-map facts.calendar.fixtures (λ (x : Fixture). x.id), are.lawful.few_fixtures)) f (fixture_item f facts x) at in (
        two_clubs x.home x.away lawful.two,
        no_rule (fixture_item f facts x)
            (neither (neither (neither (neither (neither (neither (club_there x.home lawful.home) (club_there x.away lawful.away)) (place_there x.gw lawful.place)) (none_some early))
            (crowd_low f x x.gw found refl))
            (not_loose f x.gw (λ is. lawful.finished (ap (is_finished facts.matches) same ∙ is)))) full),
      )
    where
      two_clubs : (h a : ℕ) → h ≢ a → not (h == a) ≡ true
      two_clubs h a apart = grind (arith, nat_tests, apart)

  line_right : (f p : ℕ) (line : Line) → line_of facts.matches f p ≡ Some line → told book (slot.Line f p) ≡ Some (item.Line f p line) → Right (item.Line f p line)
  line_right f p line found at =
      let lawful = are.lawful.lines f p line found in
      let full : is_full rows 64 (slot.Line f 0) (slot.Line f p) ≡ false
      = none_full (slot.Line f) 64 (players_in (lines_of facts.matches f)) (lines_family f) (lines_are f)
      (omega (arith, length-map (lines_of facts.matches f) (λ (row : ℕ × Line). row.0), are.lawful.few_lines f)) p (item.Line f p line) at in
      let locked : is_locked_place (calendar_told (map_of rows)) (place_told (map_of rows) f) ≡ true
      = locked_is (place_told (map_of rows) f) ∙ ap (is_locked_place facts.calendar) (place_is f) ∙ lawful.locked in (
        ap is_none lawful.range,
        no_rule (item.Line f p line)
            (neither (neither (neither (fixture_there f lawful.fixture) (player_there p lawful.player)) (not_off locked)) full),
      )

pub facts_break_no_rule : FactsBreakNoRule
facts_break_no_rule book facts rows are slot.Season of i at =
    subst (Right book facts rows are) (same_Some (season_item facts) i (sym (of_facts book facts rows are slot.Season) ∙ at)) (season_right book facts rows are)
facts_break_no_rule book facts rows are (slot.Club c) of i at =
    mapped_right book facts rows are (slot.Club c) (item.Club c) (at_id facts.clubs c) i (of_facts book facts rows are (slot.Club c)) at (λ name found at. club_right book facts rows are c name at)
facts_break_no_rule book facts rows are (slot.Player p) of i at =
    mapped_right book facts rows are (slot.Player p) (player_item p) (player_of facts.players p) i (of_facts book facts rows are (slot.Player p)) at (player_right book facts rows are p)
facts_break_no_rule book facts rows are (slot.Fixture f) of i at =
    mapped_right book facts rows are (slot.Fixture f) (fixture_item f facts) (fixture_of facts.calendar f) i (of_facts book facts rows are (slot.Fixture f)) at (fixture_right book facts rows are f)
facts_break_no_rule book facts rows are (slot.Line f p) of i at =
    mapped_right book facts rows are (slot.Line f p) (item.Line f p) (line_of facts.matches f p) i (of_facts book facts rows are (slot.Line f p)) at (line_right book facts rows are f p)
facts_break_no_rule book facts rows are s of i at = absurd of
