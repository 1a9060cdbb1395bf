-- Records keep the facts in order and in their ranges, and each line with its player.
use Rattle.std.proofs.Common.{◌≡◌, ◌<◌, ℕ, Bool, true, List, [], ◌∷◌, Some, All, AllPairs, arith, sym, ap, subst}
use Rattle.std.specs.List.{AllByRecursion as Each}
use Rattle.std.proofs.lemmas.Bool.{false≢true}
use Rattle.std.proofs.lemmas.Option.{none-some}
use Rattle.fpl_base.specs.declared.kinds.Profile.{Profile}
use Rattle.rule_book.specs.declared.player.Player.{Player}
use Rattle.rule_book.specs.declared.season.Fixture.{Fixture}
use Rattle.rule_book.specs.ById.{AreSorted, at_id, placed_at}
use Rattle.rule_book.specs.Calendar.{with_fixture}
use Rattle.rule_book.specs.Figures.{IsLine}
use Rattle.rule_book.specs.MatchFacts.{Sheet, has_facts, is_finished, lines_of, tells_facts, with_line, with_sheet}
use Rattle.rule_book.specs.Players.{with_player}
use Rattle.match_facts.proofs.Maps.{lines_are_a_map, sheets_are_a_map}
use Rattle.season_book.specs.Book.{Facts}
use Rattle.season_book.specs.Commands.{has_fixture, has_player, new_season}
use Rattle.season_records.specs.ItemReading.{item_of}
use Rattle.season_records.specs.declared.item.Item.{Item}
use Rattle.season_records.specs.declared.item.Item.TheVariants as item
use Rattle.season_records.specs.declared.slot.Slot.{Slot}
use Rattle.season_records.specs.declared.slot.Slot.TheVariants as slot
use Rattle.season_facts.specs.Kept.{AreFacts, IsId}
use Rattle.season_facts.proofs.KeptFacts.{AllRanged, AreRanged, IsAmong, IsRanged, OfLines, OfMatches, among_none, ids_with_fixture, ids_with_player, of_line, of_sheet, ranged_some}
use Rattle.season_records.specs.Told.{AreInOrder}
use Rattle.season_records.proofs.FactOrder.{fixtures_put, lines_put, players_put, season_in_order, sheets_put, tell_put, there_put_sheet}
use Rattle.season_records.proofs.Orders.{put_sorted}
use Rattle.season_restoring.specs.Restored.{fixture_told, player_told, with_item, with_locked, with_row, with_rows, with_spelled}
use Rattle.season_restoring.proofs.Rows.{Row}
use Rattle.stored_records.specs.Stored.{Rows}

-- the fixtures and the players that some records tell of
abbrev pub has_fixture_in : (Slot → Bool) → ℕ → Bool
has_fixture_in has f = has (slot.Fixture f)

abbrev pub has_player_in : (Slot → Bool) → ℕ → Bool
has_player_in has p = has (slot.Player p)

-- facts in order and in their ranges, whose sheets are those of some fixtures, and whose lines are those of some players
pub record AreWhole (has : Slot → Bool) (facts : Facts) : Type 0 where
  pub player_ids : All (λ player. IsId player.id) facts.players
  pub fixture_ids : All (λ fixture. IsId fixture.id) facts.calendar.fixtures
  pub ranged : AllRanged facts.matches
  pub clubs : AreSorted facts.clubs
  pub players : AllPairs (λ p q. p.id < q.id) facts.players
  pub fixtures : AllPairs (λ x y. x.id < y.id) facts.calendar.fixtures
  pub sheets : AreSorted facts.matches
  pub lines : (f : ℕ) → AreSorted (lines_of facts.matches f)
  pub tell : (f : ℕ) (sheet : Sheet) → at_id facts.matches f ≡ Some sheet → tells_facts sheet ≡ true
  pub there : (f : ℕ) → has_facts facts.matches f ≡ true → has_fixture_in has f ≡ true
  pub played : OfMatches (IsAmong (has_player_in has)) facts.matches

-- what an item has to be for that: a mark or a line is of one of those fixtures, and a line of one of those players
abbrev pub Suits : (Slot → Bool) → Item → Type 0
Suits has (item.Player p position club price gone name) = IsId p
Suits has (item.Fixture f home away g kickoff finished) = IsId f × (has_fixture_in has f ≡ true)
Suits has (item.Line f p line) = IsLine line × (has_fixture_in has f ≡ true) × (has_player_in has p ≡ true)
Suits has i = Unit {0}

module _ (has : Slot → Bool) (facts : Facts) (whole : AreWhole has facts) where
  -- facts with another sheet
  with_that_sheet : (f : ℕ) (sheet : Sheet) → has_fixture_in has f ≡ true → AreSorted sheet.lines → AreRanged sheet.lines → OfLines (IsAmong (has_player_in has)) sheet.lines
      → AreWhole has (record facts { matches = with_sheet facts.matches f sheet })
  with_that_sheet f sheet there sorted ranged played = record {
    player_ids = whole.player_ids;
    fixture_ids = whole.fixture_ids;
    ranged = of_sheet IsRanged sheets_are_a_map facts.matches f sheet whole.ranged ranged;
    clubs = whole.clubs;
    players = whole.players;
    fixtures = whole.fixtures;
    sheets = sheets_put facts.matches f sheet whole.sheets;
    lines = lines_put facts.matches f sheet whole.lines sorted;
    tell = tell_put facts.matches f sheet whole.tell;
    there = there_put_sheet facts.matches f sheet (has_fixture_in has) whole.there there;
    played = of_sheet (IsAmong (has_player_in has)) sheets_are_a_map facts.matches f sheet whole.played played;
  }

  with_that_fixture : (new : Fixture) → IsId new.id → AreWhole has (record facts { calendar = with_fixture facts.calendar new })
  with_that_fixture new id = record {
    player_ids = whole.player_ids;
    fixture_ids = ids_with_fixture facts.calendar new id whole.fixture_ids;
    ranged = whole.ranged;
    clubs = whole.clubs;
    players = whole.players;
    fixtures = fixtures_put facts.calendar.fixtures new whole.fixtures;
    sheets = whole.sheets;
    lines = whole.lines;
    tell = whole.tell;
    there = whole.there;
    played = whole.played;
  }

  with_that_player : (new : Player) → IsId new.id → AreWhole has (record facts { players = with_player facts.players new })
  with_that_player new id = record {
    player_ids = ids_with_player facts.players new id whole.player_ids;
    fixture_ids = whole.fixture_ids;
    ranged = whole.ranged;
    clubs = whole.clubs;
    players = players_put facts.players new whole.players;
    fixtures = whole.fixtures;
    sheets = whole.sheets;
    lines = whole.lines;
    tell = whole.tell;
    there = whole.there;
    played = whole.played;
  }

  with_that_club : (c : ℕ) (name : List ℕ) → AreWhole has (record facts { clubs = placed_at facts.clubs c ((c, name) ∷ []) })
  with_that_club c name = record {
    player_ids = whole.player_ids;
    fixture_ids = whole.fixture_ids;
    ranged = whole.ranged;
    clubs = put_sorted facts.clubs c name whole.clubs;
    players = whole.players;
    fixtures = whole.fixtures;
    sheets = whole.sheets;
    lines = whole.lines;
    tell = whole.tell;
    there = whole.there;
    played = whole.played;
  }

whole_with : (has : Slot → Bool) (facts : Facts) (i : Item) → AreWhole has facts → Suits has i → AreWhole has (with_item facts i)
whole_with has facts (item.Club c name) whole suits = with_that_club has facts whole c name
whole_with has facts (item.Player p position club price gone name) whole suits = with_that_player has facts whole (player_told p position club price gone name) suits
whole_with has facts (item.Fixture f home away g kickoff finished) whole suits =
    let new : Fixture = fixture_told f home away g kickoff in
    let more = with_that_fixture has facts whole new suits.0 in
    with_that_sheet has (record facts { calendar = with_fixture facts.calendar new }) more f
    (record { lines = lines_of facts.matches f; finished = finished }) suits.1 (whole.lines f) (whole.ranged f) (whole.played f)
whole_with has facts (item.Line f p line) whole suits =
    with_that_sheet has facts whole f (record { lines = with_line (lines_of facts.matches f) p line; finished = is_finished facts.matches f }) suits.1
    (put_sorted (lines_of facts.matches f) p line (whole.lines f))
    (of_line IsRanged lines_are_a_map (lines_of facts.matches f) p line (ranged_some p line suits.0) (whole.ranged f))
    (of_line (IsAmong (has_player_in has)) lines_are_a_map (lines_of facts.matches f) p line (λ some. suits.2) (whole.played f))
whole_with has facts i whole suits = whole

-- rows whose items suit
pub record DoesSuit (has : Slot → Bool) (row : Row) : Type 0 where
  pub item : Item
  pub is : item_of row.0 row.1 ≡ Some item
  pub suits : Suits has item

pub whole_rows : (has : Slot → Bool) (rows : Rows) (facts : Facts) → AreWhole has facts → Each (DoesSuit has) rows → AreWhole has (with_rows facts rows)
whole_rows has [] facts whole each = whole
whole_rows has (row ∷ rows) facts whole each =
    whole_rows has rows (with_row facts row)
    (subst (AreWhole has) (sym (ap (with_spelled facts) each.0.is)) (whole_with has facts each.0.item whole each.0.suits)) each.1

-- a season of which nothing is told yet
pub whole_begun : (has : Slot → Bool) (profile : Profile) (deadlines : List ℕ) (split : ℕ) → AreWhole has (new_season profile deadlines split [])
whole_begun has profile deadlines split =
    let order = season_in_order profile deadlines split [] in
    record {
      player_ids = λ k d lt. absurd (omega (arith, lt));
      fixture_ids = λ k d lt. absurd (omega (arith, lt));
      ranged = λ f p line at. absurd (none-some line at);
      clubs = order.clubs;
      players = order.players;
      fixtures = order.fixtures;
      sheets = order.sheets;
      lines = order.lines;
      tell = order.tell;
      there = λ f told. absurd (false≢true told);
      played = λ f. among_none (has_player_in has);
    }

-- such facts, however many gameweeks are locked
pub facts_whole : (has : Slot → Bool) (facts : Facts) (n : ℕ) → AreWhole has facts → ((p : ℕ) → has_player_in has p ≡ true → has_player facts p ≡ true) → AreFacts (with_locked facts n)
facts_whole has facts n whole there = record {
  player_ids = whole.player_ids;
  fixture_ids = whole.fixture_ids;
  lines_in_range = whole.ranged;
  lines_there = λ f p some. there p (whole.played f p some);
}

pub order_whole : (has : Slot → Bool) (facts : Facts) (n : ℕ) → AreWhole has facts → ((f : ℕ) → has_fixture_in has f ≡ true → has_fixture facts f ≡ true) → AreInOrder (with_locked facts n)
order_whole has facts n whole there = record {
  clubs = whole.clubs;
  players = whole.players;
  fixtures = whole.fixtures;
  sheets = whole.sheets;
  lines = whole.lines;
  tell = whole.tell;
  there = λ f told. there f (whole.there f told);
}
