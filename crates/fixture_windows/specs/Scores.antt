-- A score, player by player.
use Rattle.std.specs.Prelude.{ℕ, ◌+◌, ◌&&◌, ◌==◌, Option, Some, None, if◌then◌else◌}
use Rattle.rule_book.specs.declared.line.Line.{Line}
use Rattle.rule_book.specs.declared.season.Fixture.{Fixture}
use Rattle.season_book.specs.Book.{Facts}
use Rattle.season_book.specs.FixturesWindow.{is_at_home, is_away}
use Rattle.season_book.specs.LineSums.{goals_of, own_goals_of}
use Rattle.fixture_windows.specs.declared.score.Score.{Score}

-- the score with the goals and own goals of one at home, and of one on the other side
abbrev pub with_home : Score → Line → Score
with_home score line = record { home = score.home + goals_of line; away = score.away + own_goals_of line }

abbrev pub with_away : Score → Line → Score
with_away score line = record { home = score.home + own_goals_of line; away = score.away + goals_of line }

-- the score with a player's goals and own goals; none where he has some, and is on neither side
abbrev pub score_with : Facts → Fixture → Score → ℕ × Line → Option Score
score_with facts fixture score row =
    if (goals_of row.1 == 0) && (own_goals_of row.1 == 0) then Some score
    else if is_at_home facts fixture row.0 then Some (with_home score row.1)
    else if is_away facts fixture row.0 then Some (with_away score row.1)
    else None
