-- The bonus points system (BPS): the number of a line, by which the bonus of a match is shared. It is the same under
-- each profile.
use Rattle.std.specs.Prelude.{◌*◌, ℕ, ℤ, pos, ◌+◌, ◌-ℤ◌, List, [], ◌∷◌, nat_le, nat_lt, if◌then◌else◌}
use Rattle.fpl_base.specs.declared.kinds.Position.{Position}
use Rattle.rule_book.specs.declared.line.Line.{Line}
use Rattle.rule_book.specs.Figures.{figure}
use Rattle.rule_book.specs.Points.{is_clean_sheet, counted_yellow}
use Rattle.rule_book.specs.Scoring.{by_position, gives, takes, gives_one_per, Row, gains, losses}

-- the column of the bonus points system
abbrev pub bonus_points_column : Position → List Row
bonus_points_column position =
    -- goals
    record { field = 2; worth = gives (by_position 12 12 18 24 position) }
    -- assists
    ∷ record { field = 3; worth = gives 9 }
    -- saves
    ∷ record { field = 5; worth = gives 2 }
    -- penalty saves
    ∷ record { field = 6; worth = gives 15 }
    -- penalty misses
    ∷ record { field = 7; worth = takes 6 }
    -- red
    ∷ record { field = 9; worth = takes 9 }
    -- own goals
    ∷ record { field = 10; worth = takes 6 }
    -- crosses in open play
    ∷ record { field = 11; worth = gives 1 }
    -- big chances created
    ∷ record { field = 12; worth = gives 3 }
    -- clearances, blocks and interceptions
    ∷ record { field = 13; worth = gives_one_per 2 }
    -- recoveries
    ∷ record { field = 14; worth = gives_one_per 3 }
    -- key passes
    ∷ record { field = 15; worth = gives 1 }
    -- net tackles
    ∷ record { field = 16; worth = gives 2 }
    -- dribbles
    ∷ record { field = 17; worth = gives 1 }
    -- winning goal
    ∷ record { field = 18; worth = gives 3 }
    -- penalties conceded
    ∷ record { field = 21; worth = takes 3 }
    -- big chances missed
    ∷ record { field = 22; worth = takes 3 }
    -- errors that led to a goal
    ∷ record { field = 23; worth = takes 3 }
    -- errors that led to an attempt
    ∷ record { field = 24; worth = takes 1 }
    -- tackled
    ∷ record { field = 25; worth = takes 1 }
    -- fouls
    ∷ record { field = 26; worth = takes 1 }
    -- offsides
    ∷ record { field = 27; worth = takes 1 }
    -- shots off target
    ∷ record { field = 28; worth = takes 1 }
    ∷ []

-- the minutes: 3 for any, 6 for more than an hour
abbrev pub minutes_bps : Line → ℕ
minutes_bps line = if nat_lt 60 (figure line 1) then 6 else if nat_le 1 (figure line 1) then 3 else 0

-- a clean sheet
abbrev pub clean_sheet_bps : Position → Line → ℕ
clean_sheet_bps position line = if is_clean_sheet line then by_position 12 12 0 0 position else 0

-- the passes, where at least 30 were attempted: by whether nine, eight or seven tenths of them were completed
abbrev pub passes_bps : ℕ → ℕ → ℕ
passes_bps attempted completed =
    if nat_lt attempted 30 then 0
    else if nat_le (9 * attempted) (10 * completed) then 6
    else if nat_le (8 * attempted) (10 * completed) then 4
    else if nat_le (7 * attempted) (10 * completed) then 2
    else 0

-- the bonus points system's number for a line; of two cards only the red one counts, as in the points
unfoldable pub bps_of : Position → Line → ℤ
bps_of position line =
    pos (minutes_bps line + (clean_sheet_bps position line + (passes_bps (figure line 19) (figure line 20) + gains (bonus_points_column position) line)))
    -ℤ pos (3 * counted_yellow line + losses (bonus_points_column position) line)
