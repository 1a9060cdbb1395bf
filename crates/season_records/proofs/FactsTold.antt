-- Books that tell the same of each slot have the same facts, leagues, cups and last commands.
use Rattle.std.proofs.Common.{◌≡◌, ◌||◌, ℕ, Bool, true, false, List, [], Option, Some, None, refl, sym, ap, ◌∙◌, if◌then◌else◌, unwrap_or, length, nat_lt}
use Rattle.std.specs.Prelude.{is_some}
use Rattle.std.specs.Option.{option_map, option_and_then}
use Rattle.std.proofs.lemmas.Bool.{false≢true}
use Rattle.std.proofs.lemmas.Option.{none-some}
use Rattle.fpl_base.specs.declared.kinds.Profile.{Profile}
use Rattle.fpl_base.specs.declared.kinds.Profile.TheVariants.{A}
use Rattle.rule_book.specs.declared.line.Line.{Line}
use Rattle.rule_book.specs.declared.player.Player.{Player}
use Rattle.rule_book.specs.declared.season.Fixture.{Fixture}
use Rattle.rule_book.specs.ById.{at_id}
use Rattle.rule_book.specs.Calendar.{fixture_of}
use Rattle.rule_book.specs.MatchFacts.{MatchFacts, Sheet, bare_sheet, is_finished, line_of, lines_of, sheet_of, tells_facts}
use Rattle.rule_book.specs.Players.{player_of}
use Rattle.season_book.specs.Book.{Book, Facts}
use Rattle.season_book.specs.Commands.{has_fixture}
use Rattle.season_records.specs.declared.item.Item.{Item}
use Rattle.season_records.specs.declared.item.Item.TheVariants as item
use Rattle.season_records.specs.declared.slot.Slot.{Slot}
use Rattle.season_records.specs.declared.slot.Slot.TheVariants as slot
use Rattle.season_records.specs.Records.{fixture_item, player_item, season_item, told_in}
use Rattle.season_records.specs.Told.{AreInOrder, BothAre, SameFacts, TellTheSame}
use Rattle.season_records.proofs.Determined.{determined, found_id, rise_of, rows_determined}

-- what is told of two is the same where it can be read back
pub unmapped : {X : Type 0} (f g : X → Item) (back : Item → Option X) (x y : Option X) → ((z : X) → x ≡ Some z → back (f z) ≡ Some z) → ((z : X) → y ≡ Some z → back (g z) ≡ Some z)
    → option_map f x ≡ option_map g y → x ≡ y
unmapped f g back x y of also same = sym (again back f x of) ∙ ap (option_and_then back) same ∙ again back g y also
  where
    again : {X : Type 0} (back : Item → Option X) (f : X → Item) (x : Option X) → ((z : X) → x ≡ Some z → back (f z) ≡ Some z) → option_and_then back (option_map f x) ≡ x
    again back f None of = refl
    again back f (Some z) of = of z refl

-- What is read back.

abbrev season_of : Facts → Profile × (ℕ × (ℕ × List ℕ))
season_of facts = (facts.profile, (facts.calendar.split, (facts.calendar.locked, facts.calendar.deadlines)))

abbrev season_in : Option Item → Profile × (ℕ × (ℕ × List ℕ))
season_in (Some (item.Season profile split locked deadlines)) = (profile, (split, (locked, deadlines)))
season_in i = (A, (0, (0, [])))

abbrev club_in : Item → Option (List ℕ)
club_in (item.Club club name) = Some name
club_in i = None

abbrev player_in : Item → Option Player
player_in (item.Player player position club price gone name) = Some (record { id = player; name = name; position = position; club = club; price = price; gone = gone })
player_in i = None

abbrev fixture_in : Item → Option Fixture
fixture_in (item.Fixture fixture home away gameweek kickoff finished) = Some (record { id = fixture; home = home; away = away; gw = gameweek; kickoff = kickoff })
fixture_in i = None

abbrev mark_in : Option Item → Bool
mark_in (Some (item.Fixture fixture home away gameweek kickoff finished)) = finished
mark_in i = false

abbrev line_in : Item → Option Line
line_in (item.Line fixture player line) = Some line
line_in i = None

player_back : (p : ℕ) (players : List Player) (player : Player) → player_of players p ≡ Some player → player_in (player_item p player) ≡ Some player
player_back p players player at = let id : player.id ≡ p = found_id (λ x. x.id) players p player at in λ i. Some (record player { id = sym id i })

fixture_back : (f : ℕ) (facts : Facts) (x : Fixture) → fixture_of facts.calendar f ≡ Some x → fixture_in (fixture_item f facts x) ≡ Some x
fixture_back f facts x at = let id : x.id ≡ f = found_id (λ x. x.id) facts.calendar.fixtures f x at in λ i. Some (record x { id = sym id i })

module _ (facts other : Facts) (same : (s : Slot) → told_in facts s ≡ told_in other s) where
  seasons : season_of facts ≡ season_of other
  seasons = ap season_in (same slot.Season)

  clubs : (c : ℕ) → at_id facts.clubs c ≡ at_id other.clubs c
  clubs c = unmapped (item.Club c) (item.Club c) club_in (at_id facts.clubs c) (at_id other.clubs c) (λ z at. refl) (λ z at. refl) (same (slot.Club c))

  players : (p : ℕ) → player_of facts.players p ≡ player_of other.players p
  players p =
      unmapped (player_item p) (player_item p) player_in (player_of facts.players p) (player_of other.players p)
      (player_back p facts.players) (player_back p other.players) (same (slot.Player p))

  fixtures : (f : ℕ) → fixture_of facts.calendar f ≡ fixture_of other.calendar f
  fixtures f =
      unmapped (fixture_item f facts) (fixture_item f other) fixture_in (fixture_of facts.calendar f) (fixture_of other.calendar f)
      (fixture_back f facts) (fixture_back f other) (same (slot.Fixture f))

  marks : (f : ℕ) → has_fixture facts f ≡ true → is_finished facts.matches f ≡ is_finished other.matches f
  marks f there = by (fixture_of facts.calendar f) refl there
    where
      by : (found : Option Fixture) → fixture_of facts.calendar f ≡ found → is_some found ≡ true → is_finished facts.matches f ≡ is_finished other.matches f
      by None at there = absurd (false≢true there)
      by (Some x) at there =
          ap mark_in (sym (ap (option_map (fixture_item f facts)) at) ∙ same (slot.Fixture f) ∙ ap (option_map (fixture_item f other)) (sym (fixtures f) ∙ at))

  lines : (f p : ℕ) → line_of facts.matches f p ≡ line_of other.matches f p
  lines f p =
      unmapped (item.Line f p) (item.Line f p) line_in (line_of facts.matches f p) (line_of other.matches f p) (λ z at. refl) (λ z at. refl) (same (slot.Line f p))

  pub same_facts : SameFacts facts other
  same_facts = record {
    profile = ap (λ (s : Profile × (ℕ × (ℕ × List ℕ))). s.0) seasons;
    split = ap (λ (s : Profile × (ℕ × (ℕ × List ℕ))). s.1.0) seasons;
    locked = ap (λ (s : Profile × (ℕ × (ℕ × List ℕ))). s.1.1.0) seasons;
    deadlines = ap (λ (s : Profile × (ℕ × (ℕ × List ℕ))). s.1.1.1) seasons;
    clubs = clubs;
    players = players;
    fixtures = fixtures;
    marks = marks;
    lines = lines;
  }

both_facts : (some other : Option Facts) → ((s : Slot) → option_and_then (λ facts. told_in facts s) some ≡ option_and_then (λ facts. told_in facts s) other) → BothAre SameFacts some other
both_facts None None same = tt
both_facts None (Some other) same = absurd (none-some (season_item other) (same slot.Season))
both_facts (Some facts) None same = absurd (none-some (season_item facts) (sym (same slot.Season)))
both_facts (Some facts) (Some other) same = same_facts facts other same

pub facts_told : (book other : Book) → TellTheSame book other → BothAre SameFacts book.facts other.facts
facts_told book other same = both_facts book.facts other.facts each
  where
    nothing : Facts → Option Item
    nothing facts = None

    none_told : (o : Option Facts) → option_and_then nothing o ≡ None
    none_told None = refl
    none_told (Some facts) = refl

    each : (s : Slot) → option_and_then (λ facts. told_in facts s) book.facts ≡ option_and_then (λ facts. told_in facts s) other.facts
    each slot.Season = same slot.Season
    each (slot.Club c) = same (slot.Club c)
    each (slot.Player p) = same (slot.Player p)
    each (slot.Fixture f) = same (slot.Fixture f)
    each (slot.Line f p) = same (slot.Line f p)
    each s = none_told book.facts ∙ sym (none_told other.facts)

-- Facts in order.

-- what stands at a fixture is its sheet where that tells something
at_sheet : (m : MatchFacts) → ((f : ℕ) (sheet : Sheet) → at_id m f ≡ Some sheet → tells_facts sheet ≡ true) → (f : ℕ)
    → at_id m f ≡ (if tells_facts (sheet_of m f) then Some (sheet_of m f) else None)
at_sheet m tell f = by (at_id m f) refl
  where
    by : (o : Option Sheet) → at_id m f ≡ o → o ≡ (if tells_facts (unwrap_or o bare_sheet) then Some (unwrap_or o bare_sheet) else None)
    by None at = refl
    by (Some sheet) at = sym (ap (λ b. if b then Some sheet else None) (tell f sheet at))

module _ (facts other : Facts) (same : SameFacts facts other) (order : AreInOrder facts) (also : AreInOrder other) where
  lines_same : (f : ℕ) → lines_of facts.matches f ≡ lines_of other.matches f
  lines_same f = rows_determined (lines_of facts.matches f) (lines_of other.matches f) (order.lines f) (also.lines f) (same.lines f)

  there_same : (f : ℕ) → has_fixture facts f ≡ has_fixture other f
  there_same f = ap is_some (same.fixtures f)

  marks_same : (f : ℕ) → is_finished facts.matches f ≡ is_finished other.matches f
  marks_same f = by (has_fixture facts f) refl
    where
      unmarked : (sheet : Sheet) (there : Bool) → there ≡ false → (tells_facts sheet ≡ true → there ≡ true) → sheet.finished ≡ false
      unmarked sheet there none only = bare sheet.finished refl
        where
          bare : (b : Bool) → sheet.finished ≡ b → b ≡ false
          bare true is = absurd (false≢true (sym none ∙ only (ap (λ b. b || nat_lt 0 (length sheet.lines)) is)))
          bare false is = refl

      by : (b : Bool) → has_fixture facts f ≡ b → is_finished facts.matches f ≡ is_finished other.matches f
      by true there = same.marks f there
      by false none =
          unmarked (sheet_of facts.matches f) (has_fixture facts f) none (order.there f)
          ∙ sym (unmarked (sheet_of other.matches f) (has_fixture other f) (sym (there_same f) ∙ none) (also.there f))

  sheets_same : (f : ℕ) → sheet_of facts.matches f ≡ sheet_of other.matches f
  sheets_same f = λ i. record { lines = lines_same f i; finished = marks_same f i }

  matches_same : facts.matches ≡ other.matches
  matches_same = rows_determined facts.matches other.matches order.sheets also.sheets (λ f.
      at_sheet facts.matches order.tell f ∙ ap (λ sheet. if tells_facts sheet then Some sheet else None) (sheets_same f) ∙ sym (at_sheet other.matches also.tell f))

  pub in_order_same : facts ≡ other
  in_order_same =
      let clubs = rows_determined facts.clubs other.clubs order.clubs also.clubs same.clubs in
      let players = determined (λ p. p.id) facts.players other.players (rise_of (λ p. p.id) facts.players order.players) (rise_of (λ p. p.id) other.players also.players) same.players in
      let fixtures = determined (λ x. x.id) facts.calendar.fixtures other.calendar.fixtures (rise_of (λ x. x.id) facts.calendar.fixtures order.fixtures) (rise_of (λ x. x.id) other.calendar.fixtures also.fixtures) same.fixtures in
      λ i. record {
        profile = same.profile i;
        calendar = record { deadlines = same.deadlines i; split = same.split i; locked = same.locked i; fixtures = fixtures i };
        clubs = clubs i;
        players = players i;
        matches = matches_same i;
      }
