-- The points of a line, without bonus: the sum of its column, and of three rules that are no plain row of it.
use Rattle.std.specs.Prelude.{Bool, ◌&&◌, ◌==◌, ℕ, ℤ, pos, ◌+◌, ◌-ℤ◌, List, [], ◌∷◌, nat_le, if◌then◌else◌}
use Rattle.fpl_base.specs.declared.kinds.Position.{Position}
use Rattle.fpl_base.specs.declared.kinds.Profile.{Profile}
use Rattle.fpl_base.specs.declared.kinds.Profile.TheVariants as profile
use Rattle.rule_book.specs.declared.line.Line.{Line}
use Rattle.rule_book.specs.Figures.{figure}
use Rattle.rule_book.specs.Scoring.{by_position, gives, takes, gives_one_per, takes_one_per, nothing, Row, gains, losses}

-- the points of a goal, by position
abbrev pub goal_points : Profile → Position → ℕ
goal_points profile.A = by_position 6 6 5 4
goal_points profile.B = by_position 10 6 5 4

-- the column of points
abbrev pub points_column : Profile → Position → List Row
points_column profile position =
    -- goals
    record { field = 2; worth = gives (goal_points profile position) }
    -- assists
    ∷ record { field = 3; worth = gives 3 }
    -- conceded
    ∷ record { field = 4; worth = by_position (takes_one_per 2) (takes_one_per 2) nothing nothing position }
    -- saves
    ∷ record { field = 5; worth = by_position (gives_one_per 3) nothing nothing nothing position }
    -- penalty saves
    ∷ record { field = 6; worth = gives 5 }
    -- penalty misses
    ∷ record { field = 7; worth = takes 2 }
    -- red
    ∷ record { field = 9; worth = takes 3 }
    -- own goals
    ∷ record { field = 10; worth = takes 2 }
    ∷ []

-- the points of the minutes: 1 for any, 2 for at least an hour
abbrev pub minutes_points : Line → ℕ
minutes_points line = if nat_le 60 (figure line 1) then 2 else if nat_le 1 (figure line 1) then 1 else 0

-- a clean sheet: at least an hour was played, and no goal was conceded
abbrev pub is_clean_sheet : Line → Bool
is_clean_sheet line = nat_le 60 (figure line 1) && (figure line 4 == 0)

-- the points of a clean sheet
abbrev pub clean_sheet_points : Position → Line → ℕ
clean_sheet_points position line = if is_clean_sheet line then by_position 4 4 1 0 position else 0

-- the yellow cards that count: beside a red one none does
abbrev pub counted_yellow : Line → ℕ
counted_yellow line = if figure line 9 == 1 then 0 else figure line 8

-- the points of a line, without bonus
unfoldable pub points_of : Profile → Position → Line → ℤ
points_of profile position line =
    pos (minutes_points line + (clean_sheet_points position line + gains (points_column profile position) line))
    -ℤ pos (counted_yellow line + losses (points_column profile position) line)
