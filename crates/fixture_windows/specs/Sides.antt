-- On which side of a match a player is, as one value.
use Rattle.std.specs.Prelude.{ℕ, Bool, true, false, Option, Some, None, if◌then◌else◌}
use Rattle.rule_book.specs.declared.season.Fixture.{Fixture}
use Rattle.season_book.specs.Book.{Facts}
use Rattle.season_book.specs.FixturesWindow.{is_at_home, is_away}
use Rattle.fixture_windows.specs.declared.sides.Side.{Side}
use Rattle.fixture_windows.specs.declared.sides.Side.TheVariants.{Home, Away}

-- at home, or away, or on neither
abbrev pub side_of : Facts → Fixture → ℕ → Option Side
side_of facts fixture p =
    if is_at_home facts fixture p then Some Home else if is_away facts fixture p then Some Away else None

-- whether a side is this one
abbrev pub is_side : Side → Option Side → Bool
is_side side None = false
is_side Home (Some Home) = true
is_side Home (Some Away) = false
is_side Away (Some Home) = false
is_side Away (Some Away) = true
