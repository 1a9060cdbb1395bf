-- What the season says of a command of the files.
use Rattle.std.specs.Prelude.{◌&&◌, ◌==◌, ◌+◌, ◌∷◌, [], Bool, false, true, List, Option, Some, None, if◌then◌else◌, length, map, ℕ}
use Rattle.std.specs.List.{list_any}
use Rattle.std.specs.Str.{bytes_eq}
use Rattle.fpl_base.specs.declared.kinds.Position.{Position}
use Rattle.fpl_base.specs.declared.rule.Rule.TheVariants as rule
use Rattle.rule_book.specs.Batch.{is_same_position}
use Rattle.rule_book.specs.declared.player.Player.{Player}
use Rattle.rule_book.specs.declared.season.Fixture.{Fixture}
use Rattle.season_book.specs.declared.answer.Answer.{Answer}
use Rattle.season_book.specs.declared.answer.Answer.TheVariants as answer
use Rattle.season_book.specs.declared.command.Command.{Command}
use Rattle.season_book.specs.declared.command.Command.TheVariants as command
use Rattle.season_book.specs.declared.request.View.{View}
use Rattle.season_book.specs.declared.request.View.TheVariants as view
use Rattle.season_book.specs.declared.shown.Shown.{Shown}
use Rattle.season_book.specs.declared.shown.Shown.TheVariants as shown
use Rattle.fpl_loading.specs.declared.notes.Place.{Place}

-- what is asked of the season for a command: the player or the fixture of its id, or the season
abbrev pub view_of : Command → View
view_of (command.Player id name position club price) = view.Player id
view_of (command.Fixture id home away g kickoff) = view.Fixture id
view_of command = view.Season

-- an answer says that there is no season, or that something is not there
abbrev pub is_no_season : Answer → Bool
is_no_season (answer.Rule rule.NoSeason) = true
is_no_season told = false

abbrev pub is_unknown : Answer → Bool
is_unknown answer.Unknown = true
is_unknown told = false

-- the season lacks what a command would make, by what is told of that: there is no season, no such player, no such fixture
abbrev pub lacks : Command → Answer → Bool
lacks (command.Season profile deadlines split clubs) told = is_no_season told
lacks (command.Player id name position club price) told = is_unknown told
lacks (command.Fixture id home away g kickoff) told = is_unknown told
lacks command told = false

-- a club of a row is one of the season's, of this name
abbrev pub is_same_club : List (ℕ × List ℕ) → ℕ × List ℕ → Bool
is_same_club clubs row = list_any (λ club. club.0 == row.0 && bytes_eq club.1 row.1) clubs

-- a player has this name, position, club and price
abbrev pub is_same_player : Player → List ℕ → Position → ℕ → ℕ → Bool
is_same_player player name position club price =
    bytes_eq player.name name && (is_same_position player.position position && (player.club == club && player.price == price))

-- a gameweek is the other one, or neither is there
abbrev pub is_same_gameweek : Option ℕ → Option ℕ → Bool
is_same_gameweek (Some g) (Some h) = g == h
is_same_gameweek None None = true
is_same_gameweek g h = false

-- a fixture has these clubs, stands in this gameweek and has this kick-off
abbrev pub is_same_fixture : Fixture → ℕ → ℕ → Option ℕ → ℕ → Bool
is_same_fixture fixture home away g kickoff =
    fixture.home == home && (fixture.away == away && (is_same_gameweek fixture.gw g && fixture.kickoff == kickoff))

-- which rows of a command say what is shown of the season: of its each club, and else the one row; none where something else is
-- shown
abbrev pub rows_shown : Command → Shown → Option (List Bool)
rows_shown (command.Season profile deadlines split clubs) (shown.Season season) = Some (map (is_same_club season.clubs) clubs)
rows_shown (command.Player id name position club price) (shown.Player player) = Some (is_same_player player name position club price ∷ [])
rows_shown (command.Fixture id home away g kickoff) (shown.Fixture found) = Some (is_same_fixture found.fixture home away g kickoff ∷ [])
rows_shown command what = None

-- which of them say what the season says, by what is told of that; none where nothing is shown
abbrev pub rows_same : Command → Answer → Option (List Bool)
rows_same command (answer.Shown what) = rows_shown command what
rows_same command told = None

-- how many rows a command has: the season's one for each club
abbrev pub rows_in : Command → ℕ
rows_in (command.Season profile deadlines split clubs) = length clubs
rows_in command = 1

-- how many rows say the same
abbrev pub count_same : List Bool → ℕ
count_same [] = 0
count_same (same ∷ rows) = if same then count_same rows + 1 else count_same rows

-- the next row of a file
abbrev pub next_row : Place → Place
next_row place = record { file = place.file; row = place.row + 1 }

-- where those stand that say another thing, the first of all at this place
abbrev pub differing : Place → List Bool → List Place
differing place [] = []
differing place (same ∷ rows) = if same then differing (next_row place) rows else place ∷ differing (next_row place) rows
