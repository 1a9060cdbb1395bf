-- The 28 figures of a line, by the number of the field from 1, and their ranges.
use Rattle.std.specs.Prelude.{◌≤◌, ℕ, ◌+◌, ◌-◌, List, [], ◌∷◌, Option, Bool, nat_lt, position, slice_index}
use Rattle.std.specs.Option.{option_map}
use Rattle.std.specs.List.{zip}
use Rattle.fpl_base.specs.declared.rule.Rule.{Rule}
use Rattle.fpl_base.specs.declared.rule.Rule.TheVariants.{LineRange}
use Rattle.rule_book.specs.declared.line.Line.{Line}

-- the figure of a field
abbrev pub figure : Line → ℕ → ℕ
figure line field = slice_index line.figures (field - 1)

-- the greatest value of each figure, by field
abbrev pub greatest_figures : Line → List ℕ
greatest_figures line =
    120  -- 1 minutes
    ∷ 99  -- 2 goals
    ∷ 99  -- 3 assists
    ∷ 99  -- 4 goals conceded
    ∷ 99  -- 5 saves
    ∷ 99  -- 6 penalty saves
    ∷ 99  -- 7 penalty misses
    ∷ 1  -- 8 yellow card
    ∷ 1  -- 9 red card
    ∷ 99  -- 10 own goals
    ∷ 99  -- 11 crosses in open play
    ∷ 99  -- 12 big chances created
    ∷ 99  -- 13 clearances, blocks and interceptions
    ∷ 99  -- 14 recoveries
    ∷ 99  -- 15 key passes
    ∷ 99  -- 16 net tackles
    ∷ 99  -- 17 dribbles
    ∷ 1  -- 18 winning goal
    ∷ 400  -- 19 passes attempted
    ∷ figure line 19  -- 20 passes completed, of those attempted
    ∷ 99  -- 21 penalties conceded
    ∷ 99  -- 22 big chances missed
    ∷ 99  -- 23 errors that led to a goal
    ∷ 99  -- 24 errors that led to an attempt
    ∷ 99  -- 25 times tackled
    ∷ 99  -- 26 fouls
    ∷ 99  -- 27 offsides
    ∷ 99  -- 28 shots off target
    ∷ []

-- the greatest value of a field
abbrev pub greatest : Line → ℕ → ℕ
greatest line field = slice_index (greatest_figures line) (field - 1)

-- each figure of the line is at most its greatest value
abbrev pub IsLine : Line → Type 0
IsLine line = (field : ℕ) → 1 ≤ field → field ≤ 28 → figure line field ≤ greatest line field

-- a wrong line, by the first of its figures that is above its greatest value
abbrev pub line_range : Line → Option Rule
line_range line =
    let is_above : ℕ × ℕ → Bool = λ pair. nat_lt pair.1 pair.0 in
    option_map (λ place. LineRange (place + 1)) (position is_above (zip line.figures (greatest_figures line)))
