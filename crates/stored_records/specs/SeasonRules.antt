-- The rules on the season, its clubs, players, fixtures and lines: when a record of a store breaks one of them.
use Rattle.std.specs.Prelude.{ℕ, Bool, false, not, ◌&&◌, ◌||◌, List, [], Option, Some, None, is_some, nat_le, nat_lt, count_by, length}
use Rattle.fpl_base.specs.Keeping.{Map, map_of}
use Rattle.fpl_base.specs.declared.records.RecordKey.{RecordKey}
use Rattle.rule_book.specs.declared.season.Fixture.{Fixture}
use Rattle.rule_book.specs.Calendar.{CalendarFacts, first_out_of_order, is_gameweek, is_locked_place, kickoff_early}
use Rattle.rule_book.specs.Players.{most_players, price_refusal}
use Rattle.season_records.specs.ItemReading.{item_of}
use Rattle.season_records.specs.Keys.{key_of}
use Rattle.season_records.specs.declared.item.Item.{Item}
use Rattle.season_records.specs.declared.item.Item.TheVariants as item
use Rattle.season_records.specs.declared.slot.Slot.{Slot}
use Rattle.season_records.specs.declared.slot.Slot.TheVariants as slot
use Rattle.stored_records.specs.declared.terms.Terms.{Terms}
use Rattle.stored_records.specs.Stored.{Rows, between, deadlines_told, has_gameweek, is_there, is_within, locked_told, split_told, told}

-- What the rules share.

-- what a record names is not there
abbrev pub misses : Map → Slot → Bool
misses m s = not (is_there m s)

-- a gameweek, which may be none, is one that the season does not have
abbrev pub misses_place : Map → Option ℕ → Bool
misses_place m None = false
misses_place m (Some g) = not (has_gameweek m g)

-- as many records as there can be stand from the first slot on and before this one
abbrev pub is_full : Rows → ℕ → Slot → Slot → Bool
is_full rows most first this = nat_le most (between rows (key_of first) (key_of this))

-- the season's terms as its record tells them
abbrev pub terms_told : Map → Terms
terms_told m = record { deadlines = deadlines_told m; split = split_told m; locked = locked_told m }

-- the season's calendar; where the fixtures stand is told by their own records
abbrev pub calendar_told : Map → CalendarFacts
calendar_told m = record { deadlines = deadlines_told m; split = split_told m; locked = locked_told m; fixtures = [] }

-- The season.

-- the deadlines do not rise; more gameweeks are in the first half, or locked, than there are
abbrev pub season_breaks : ℕ → ℕ → List ℕ → Bool
season_breaks split locked deadlines =
    is_some (first_out_of_order deadlines) || nat_lt (length deadlines) split || nat_lt (length deadlines) locked

-- Clubs.

abbrev pub most_clubs : ℕ
most_clubs = 20

-- as many clubs as there can be have smaller ids
abbrev pub club_breaks : Rows → ℕ → Bool
club_breaks rows club = is_full rows most_clubs (slot.Club 0) (slot.Club club)

-- Players.

-- the club is not there; no player can have the price; as many players as there can be have smaller ids
abbrev pub player_breaks : Rows → ℕ → ℕ → ℕ → Bool
player_breaks rows player club price =
    misses (map_of rows) (slot.Club club)
    || is_some (price_refusal price)
    || is_full rows most_players (slot.Player 0) (slot.Player player)

-- Fixtures.

abbrev pub most_fixtures : ℕ
most_fixtures = 380

abbrev pub most_in_gameweek : ℕ
most_in_gameweek = 20

-- where a fixture stands
abbrev pub place_in : Option Item → Option ℕ
place_in (Some (item.Fixture fixture home away gameweek kickoff finished)) = gameweek
place_in other = None

abbrev pub place_told : Map → ℕ → Option ℕ
place_told m fixture = place_in (told m (slot.Fixture fixture))

-- a record of a fixture that stands in a gameweek
abbrev pub stands_in : ℕ → RecordKey × List ℕ → Bool
stands_in g row = is_gameweek g (place_in (item_of row.0 row.1))

-- how many fixtures of smaller ids stand in a gameweek
abbrev pub standing_before : Rows → ℕ → ℕ → ℕ
standing_before rows fixture g =
    count_by (λ row. is_within (key_of (slot.Fixture 0)) (key_of (slot.Fixture fixture)) row.0 && stands_in g row) rows

-- as many of them as can stand there
abbrev pub is_crowded : Rows → ℕ → Option ℕ → Bool
is_crowded rows fixture None = false
is_crowded rows fixture (Some g) = nat_le most_in_gameweek (standing_before rows fixture g)

-- a club or the gameweek is not there; it kicks off too early for the deadline; its gameweek is full without it; it is
-- finished and stands in no locked gameweek; as many fixtures as there can be have smaller ids
abbrev pub fixture_breaks : Rows → Fixture → Bool → Bool
fixture_breaks rows x finished =
    let m = map_of rows in
    misses m (slot.Club x.home)
    || misses m (slot.Club x.away)
    || misses_place m x.gw
    || is_some (kickoff_early (calendar_told m) x.id x.gw x.kickoff)
    || is_crowded rows x.id x.gw
    || finished && not (is_locked_place (calendar_told m) x.gw)
    || is_full rows most_fixtures (slot.Fixture 0) (slot.Fixture x.id)

-- Lines.

abbrev pub most_lines : ℕ
most_lines = 64

-- the fixture or the player is not there; the fixture stands in no locked gameweek; as many players of smaller ids have
-- lines in the fixture as can have
abbrev pub line_breaks : Rows → ℕ → ℕ → Bool
line_breaks rows fixture player =
    let m = map_of rows in
    misses m (slot.Fixture fixture)
    || misses m (slot.Player player)
    || not (is_locked_place (calendar_told m) (place_told m fixture))
    || is_full rows most_lines (slot.Line fixture 0) (slot.Line fixture player)
