-- What a team scores in a gameweek.
use Rattle.std.specs.Prelude.{◌≡◌, ℕ, ◌-◌, ◌≤◌, ℤ, pos, negsuc, ◌+ℤ◌, ◌-ℤ◌, ◌*ℤ◌, ◌≤ℤ◌, Bool, List, Option, Some, None, slice_get, fold, sum_by, if◌then◌else◌}
use Rattle.std.specs.Option.{option_map_or}
use Rattle.rule_book.specs.declared.team.Team.{Team}
use Rattle.rule_book.specs.declared.team_score.Figures.{Figures}
use Rattle.rule_book.specs.declared.team_score.Armband.{Armband}
use Rattle.rule_book.specs.declared.team_score.TeamScore.{TeamScore}
use Rattle.rule_book.specs.Teams.{all_slots, is_boost}
use Rattle.rule_book.specs.Elevens.{IsFinal}
use Rattle.rule_book.specs.Armbands.{armband_of}

-- figures that a gameweek can give: points within a million of 0, and at most a million goals of either kind
pub record IsModest (figures : Figures) : Type 0 where
  pub low : negsuc 999999 ≤ℤ figures.points
  pub high : figures.points ≤ℤ pos 1000000
  pub goals : figures.goals ≤ 1000000
  pub conceded : figures.conceded ≤ 1000000

abbrev pub points_in : Figures → ℤ
points_in figures = figures.points

abbrev pub goals_in : Figures → ℕ
goals_in figures = figures.goals

abbrev pub conceded_in : Figures → ℕ
conceded_in figures = figures.conceded

-- the points, the goals and the conceded goals of a slot
abbrev pub points_at : List Figures → ℕ → ℤ
points_at figures slot = option_map_or points_in (slice_get figures (slot - 1)) (pos 0)

abbrev pub goals_at : List Figures → ℕ → ℕ
goals_at figures slot = option_map_or goals_in (slice_get figures (slot - 1)) 0

abbrev pub conceded_at : List Figures → ℕ → ℕ
conceded_at figures slot = option_map_or conceded_in (slice_get figures (slot - 1)) 0

-- the points of some slots
abbrev pub points_of_slots : List Figures → List ℕ → ℤ
points_of_slots figures slots = fold (λ total slot. total +ℤ points_at figures slot) (pos 0) slots

-- the slots whose points count: the final eleven, and under a bench boost all
abbrev pub counting : Team → List ℕ → List ℕ
counting team eleven = if is_boost team.chip then all_slots else eleven

-- what the armband adds to the points that count
abbrev pub extra_points : List Figures → Option Armband → ℤ
extra_points figures None = pos 0
extra_points figures (Some armband) = pos (armband.factor - 1) *ℤ points_at figures armband.slot

-- the score of a team in a gameweek in which its transfers cost so much
pub record IsScore (team : Team) (figures : List Figures) (ended : Bool) (cost : ℕ) (score : TeamScore) : Type 0 where
  pub eleven : IsFinal team figures ended score.eleven.slots
  pub armband : score.armband ≡ armband_of team figures ended
  pub gross : score.gross ≡ points_of_slots figures (counting team score.eleven.slots) +ℤ extra_points figures score.armband
  pub cost_kept : score.cost ≡ cost
  pub net : score.net ≡ score.gross -ℤ pos cost
  pub goals : score.goals ≡ sum_by (goals_at figures) score.eleven.slots
  pub conceded : score.conceded ≡ sum_by (conceded_at figures) score.eleven.slots
