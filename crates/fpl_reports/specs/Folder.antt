-- The season of three files, or their first wrong row.
use Rattle.std.specs.Prelude.{◌≡◌, ◌≢◌, ◌+◌, ◌<◌, ◌≤◌, ◌==◌, ◌⊎◌, ◌++◌, [], ◌∷◌, ℕ, List, Option, Some, None, length, map, filter, fold, max, min, slice_index}
use Rattle.std.specs.List.{reduce}
use Rattle.fpl_base.specs.declared.kinds.Profile.{Profile}
use Rattle.season_book.specs.declared.command.Command.{Command}
use Rattle.season_book.specs.declared.command.Command.TheVariants as command
use Rattle.fpl_reports.specs.Rows.{HasRows}
use Rattle.fpl_reports.specs.Files.{AddsClub, AddsPlayer, AddsFixture}
use Rattle.fpl_reports.specs.declared.files.PlayerRow.{PlayerRow}
use Rattle.fpl_reports.specs.declared.files.FixtureRow.{FixtureRow}

-- how many gameweeks there are: from 1 to the greatest of a fixture
abbrev pub gameweeks_of : List FixtureRow → ℕ
gameweeks_of rows = fold (λ n row. max n row.gameweek) 0 rows

-- the first kick-off of a gameweek: the least of its fixtures; none where it has no fixture
abbrev pub first_kickoff : List FixtureRow → ℕ → Option ℕ
first_kickoff rows g = reduce min (map (λ row. row.kickoff) (filter (λ row. row.gameweek == g) rows))

-- the deadlines of all gameweeks, each 5,400 seconds before its first kick-off, of at least one and at least as many
-- as the first half has
pub record AreDeadlines (split : ℕ) (rows : List FixtureRow) (deadlines : List ℕ) : Type 0 where
  pub count : length deadlines ≡ gameweeks_of rows
  pub each : (k : ℕ) → k < length deadlines → first_kickoff rows (k + 1) ≡ Some (slice_index deadlines k + 5400)
  pub some_gameweek : 1 ≤ length deadlines
  pub split_within : split ≤ length deadlines

-- a gameweek has no fixture
pub record LacksGameweek (rows : List FixtureRow) : Type 0 where
  pub gameweek : ℕ
  pub from_1 : 1 ≤ gameweek
  pub within : gameweek ≤ gameweeks_of rows
  pub missing : first_kickoff rows gameweek ≡ None

-- a row is missing behind the last: there is none, the first half is longer than the season, or a gameweek has no
-- fixture
abbrev pub EndsEarly : ℕ → List FixtureRow → Type 0
EndsEarly split rows = (rows ≡ []) ⊎ (gameweeks_of rows < split) ⊎ LacksGameweek rows

-- The commands.

abbrev pub order_of_player : PlayerRow → Command
order_of_player row = command.Player row.id row.name row.position row.club row.price

abbrev pub order_of_fixture : FixtureRow → Command
order_of_fixture row = command.Fixture row.id row.home row.away (Some row.gameweek) row.kickoff

-- the three files describe a season, and these commands load it: the season itself, then the players, then the
-- fixtures, each in the order of their rows
pub record AreOrders (clubs players fixtures : List ℕ) (split : ℕ) (profile : Profile) (commands : List Command) : Type 0 where
  pub club_rows : List (ℕ × List ℕ)
  pub player_rows : List PlayerRow
  pub fixture_rows : List FixtureRow
  pub deadlines : List ℕ
  pub clubs_are : HasRows AddsClub clubs club_rows
  pub some_club : club_rows ≢ []
  pub players_are : HasRows AddsPlayer players player_rows
  pub fixtures_are : HasRows AddsFixture fixtures fixture_rows
  pub deadlines_are : AreDeadlines split fixture_rows deadlines
  pub commands_are : commands ≡ command.Season profile deadlines split club_rows ∷ (map order_of_player player_rows ++ map order_of_fixture fixture_rows)
