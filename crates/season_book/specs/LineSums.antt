-- What a player has of his lines: each figure under the name that windows give it, and sums over lines. A line stands
-- beside its fixture.
use Rattle.std.specs.Prelude.{ℕ, ℤ, pos, ◌+ℤ◌, List, fold, map, sum_by, if◌then◌else◌}
use Rattle.std.specs.List.{flat_map}
use Rattle.rule_book.specs.declared.line.Line.{Line}
use Rattle.rule_book.specs.BonusPoints.{bps_of}
use Rattle.rule_book.specs.Figures.{figure}
use Rattle.rule_book.specs.PlayerFigures.{bonus_at, line_beside, lines_in_gameweek, points_at, position_in}
use Rattle.rule_book.specs.Points.{counted_yellow, is_clean_sheet}
use Rattle.season_book.specs.Book.{Facts}

-- The figures of a line.

abbrev pub minutes_of : Line → ℕ
minutes_of line = figure line 1

abbrev pub goals_of : Line → ℕ
goals_of line = figure line 2

abbrev pub assists_of : Line → ℕ
assists_of line = figure line 3

abbrev pub conceded_of : Line → ℕ
conceded_of line = figure line 4

abbrev pub saves_of : Line → ℕ
saves_of line = figure line 5

abbrev pub penalties_saved_of : Line → ℕ
penalties_saved_of line = figure line 6

abbrev pub penalties_missed_of : Line → ℕ
penalties_missed_of line = figure line 7

-- a yellow card counts where there is no red one
abbrev pub yellow_cards_of : Line → ℕ
yellow_cards_of line = counted_yellow line

abbrev pub red_cards_of : Line → ℕ
red_cards_of line = figure line 9

abbrev pub own_goals_of : Line → ℕ
own_goals_of line = figure line 10

-- a clean sheet counts whatever the position
abbrev pub clean_sheets_of : Line → ℕ
clean_sheets_of line = if is_clean_sheet line then 1 else 0

-- What follows of a player's line in a fixture.

-- his bonus
abbrev pub line_bonus : Facts → ℕ → ℕ × Line → ℕ
line_bonus facts p row = bonus_at facts.players facts.matches row.0 (p, row.1)

-- his number in the bonus points system
abbrev pub line_bps : Facts → ℕ → ℕ × Line → ℤ
line_bps facts p row = bps_of (position_in facts.players p) row.1

-- his points, with the bonus
abbrev pub line_points : Facts → ℕ → ℕ × Line → ℤ
line_points facts p row = points_at facts.profile facts.players facts.matches row.0 (p, row.1)

-- Lines, each beside its fixture, and sums over them.

-- those of a player in all fixtures, by fixture
abbrev pub all_lines : Facts → ℕ → List (ℕ × Line)
all_lines facts p = flat_map (line_beside facts.matches p) (map (λ x. x.id) facts.calendar.fixtures)

-- those in the fixtures that stand in a gameweek, by fixture
abbrev pub gameweek_lines : Facts → ℕ → ℕ → List (ℕ × Line)
gameweek_lines facts p g = lines_in_gameweek facts.calendar facts.matches p g

-- a figure, summed over lines
abbrev pub sum_over : (Line → ℕ) → List (ℕ × Line) → ℕ
sum_over counted lines = sum_by (λ row. counted row.1) lines

-- the bonus over a player's lines
abbrev pub bonus_over : Facts → ℕ → List (ℕ × Line) → ℕ
bonus_over facts p lines = sum_by (line_bonus facts p) lines

-- his numbers in the bonus points system over them
abbrev pub bps_over : Facts → ℕ → List (ℕ × Line) → ℤ
bps_over facts p lines = fold (λ total row. total +ℤ line_bps facts p row) (pos 0) lines

-- his points over them, with the bonus
abbrev pub points_over : Facts → ℕ → List (ℕ × Line) → ℤ
points_over facts p lines = fold (λ total row. total +ℤ line_points facts p row) (pos 0) lines
