-- The facts of a season as its records tell them.
use Rattle.std.specs.Prelude.{◌≡◌, ◌≤◌, ◌<◌, ℕ, Bool, true, false, List, [], ◌∷◌, Option, Some, None, IfSome, fold, get_or, length, take, ⊤}
use Rattle.fpl_base.specs.Keeping.{Map, map_of}
use Rattle.fpl_base.specs.declared.kinds.Position.{Position}
use Rattle.fpl_base.specs.declared.records.RecordKey.{RecordKey}
use Rattle.rule_book.specs.declared.player.Player.{Player}
use Rattle.rule_book.specs.declared.season.Fixture.{Fixture}
use Rattle.rule_book.specs.ById.{placed_at}
use Rattle.rule_book.specs.Calendar.{with_fixture}
use Rattle.rule_book.specs.CalendarCalls.{fixture_refusal}
use Rattle.rule_book.specs.MatchCalls.{line_refusal, put_line, set_finished}
use Rattle.rule_book.specs.Players.{player_refusal, with_player}
use Rattle.season_book.specs.Book.{Facts}
use Rattle.season_book.specs.Commands.{new_season}
use Rattle.season_records.specs.ItemReading.{item_of}
use Rattle.season_records.specs.declared.item.Item.{Item}
use Rattle.season_records.specs.declared.item.Item.TheVariants as item
use Rattle.season_records.specs.declared.slot.Slot.{Slot}
use Rattle.season_records.specs.declared.slot.Slot.TheVariants as slot
use Rattle.season_restoring.specs.declared.restoring.Terms.{Terms}
use Rattle.stored_records.specs.SeasonRules.{season_breaks}
use Rattle.stored_records.specs.Stored.{Rows, told}
use Rattle.store_validation.specs.Lawful.{is_in_range}
use Rattle.season_records.specs.Records.{told_in}

-- What records tell.

-- the facts tell of a slot what the records tell of it
abbrev pub TellsAt : Map → Facts → Slot → Type 0
TellsAt m facts s = told_in facts s ≡ told m s

-- the facts are those that the records tell: of the season, of each club, player and fixture, and of each line
pub record TellsFacts (m : Map) (facts : Facts) : Type 0 where
  pub season : TellsAt m facts slot.Season
  pub clubs : (c : ℕ) → TellsAt m facts (slot.Club c)
  pub players : (p : ℕ) → TellsAt m facts (slot.Player p)
  pub fixtures : (f : ℕ) → TellsAt m facts (slot.Fixture f)
  pub lines : (f p : ℕ) → TellsAt m facts (slot.Line f p)

-- One record after the other.

abbrev pub player_told : ℕ → Position → ℕ → ℕ → Bool → List ℕ → Player
player_told p position club price gone name = record { id = p; name = name; position = position; club = club; price = price; gone = gone }

abbrev pub fixture_told : ℕ → ℕ → ℕ → Option ℕ → ℕ → Fixture
fixture_told f home away g kickoff = record { id = f; home = home; away = away; gw = g; kickoff = kickoff }

-- the facts with what a record tells: a club, a player, a fixture with its mark, or a line; the others tell none of them
abbrev pub with_item : Facts → Item → Facts
with_item facts (item.Club c name) = record facts { clubs = placed_at facts.clubs c ((c, name) ∷ []) }
with_item facts (item.Player p position club price gone name) = record facts {
  players = with_player facts.players (player_told p position club price gone name);
}
with_item facts (item.Fixture f home away g kickoff finished) = record facts {
  calendar = with_fixture facts.calendar (fixture_told f home away g kickoff);
  matches = set_finished facts.matches f finished;
}
with_item facts (item.Line f p line) = record facts { matches = put_line facts.matches f p line }
with_item facts i = facts

-- with what is spelled, if anything is
abbrev pub with_spelled : Facts → Option Item → Facts
with_spelled facts None = facts
with_spelled facts (Some i) = with_item facts i

abbrev pub with_row : Facts → RecordKey × List ℕ → Facts
with_row facts row = with_spelled facts (item_of row.0 row.1)

abbrev pub with_rows : Facts → Rows → Facts
with_rows facts rows = fold with_row facts rows

-- the season of its own record, of which nothing else is told
abbrev pub begun : Terms → Facts
begun t = new_season t.profile t.deadlines t.split []

-- so many gameweeks are locked
abbrev pub with_locked : Facts → ℕ → Facts
with_locked facts n = record facts { calendar = record facts.calendar { locked = n } }

-- The season's own record.

-- the season's record of these terms
abbrev pub season_told : Terms → Item
season_told t = item.Season t.profile t.split t.locked t.deadlines

-- the terms of a season's record, and none of another's
abbrev pub terms_in : Option Item → Option Terms
terms_in (Some (item.Season profile split locked deadlines)) = Some (record { profile = profile; split = split; locked = locked; deadlines = deadlines })
terms_in i = None

-- that record is there, in its ranges, and breaks no rule
pub record AreTerms (rows : Rows) (t : Terms) : Type 0 where
  pub there : told (map_of rows) slot.Season ≡ Some (season_told t)
  pub in_range : is_in_range (season_told t) ≡ true
  pub right : season_breaks t.split t.locked t.deadlines ≡ false

-- What is taken.

-- nothing refuses it there: a player, a fixture, which stands in a gameweek of the season or in none, or a line, whose
-- fixture stands in a locked gameweek
abbrev pub Fits : Facts → Item → Type 0
Fits facts (item.Player p position club price gone name) = player_refusal facts.players (player_told p position club price gone name) ≡ None
Fits facts (item.Fixture f home away g kickoff finished) =
    IfSome g (λ g. g ≤ length facts.calendar.deadlines) × (fixture_refusal facts.calendar (fixture_told f home away g kickoff) ≡ None)
Fits facts (item.Line f p line) = line_refusal facts.matches f true p line ≡ None
Fits facts i = ⊤

abbrev pub FitsSpelled : Facts → Option Item → Type 0
FitsSpelled facts None = ⊤
FitsSpelled facts (Some i) = Fits facts i

-- each record fits the facts that the records before it tell
abbrev pub RowsFit : Facts → Rows → Type 0
RowsFit facts rows = (n : ℕ) (row : RecordKey × List ℕ) → n < length rows → row ≡ get_or rows n row
    → FitsSpelled (with_rows facts (take n rows)) (item_of row.0 row.1)
