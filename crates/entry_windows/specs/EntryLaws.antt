-- Laws of an entry's gameweeks.
use Rattle.std.specs.Prelude.{◌≡◌, ◌≤◌, ◌+◌, ℕ, ℤ, pos, ◌+ℤ◌, ◌-ℤ◌, ◌*ℤ◌, true, List, map}
use Rattle.rule_book.specs.HeadToHead.{total_of}
use Rattle.rule_book.specs.History.{Event}
use Rattle.rule_book.specs.HistoryTeam.{is_begun}
use Rattle.rule_book.specs.TeamScores.{points_at}
use Rattle.rule_book.specs.Teams.{all_slots}
use Rattle.rule_book.specs.declared.team.Team.{Team}
use Rattle.rule_book.specs.declared.team_score.Figures.{Figures}
use Rattle.rule_book.specs.declared.team_score.TeamScore.{TeamScore}
use Rattle.season_book.specs.Book.{EntryFacts, Facts}
use Rattle.season_book.specs.EntryViews.{score_by, team_by}
use Rattle.season_book.specs.EntryRows.{entry_row_of, figures_by}
use Rattle.season_book.specs.PicksWindow.{multiplier}

-- each total is the one before, and the points of the gameweek less what its transfers cost
abbrev pub TotalsAddUp : Type 0
TotalsAddUp = (facts : Facts) (entries : List EntryFacts) (row : ℕ × EntryFacts) (g : ℕ) → is_begun row.1.history (g + 1) ≡ true
    → (entry_row_of facts entries row (g + 1)).total ≡ (entry_row_of facts entries row g).total +ℤ ((entry_row_of facts entries row (g + 1)).points -ℤ pos (entry_row_of facts entries row (g + 1)).cost)

-- captain and vice-captain are starters, as the rules have it of each lineup
pub record HasStartersLead (team : Team) : Type 0 where
  pub captain_from : 1 ≤ team.captain
  pub captain_to : team.captain ≤ 11
  pub vice_from : 1 ≤ team.vice
  pub vice_to : team.vice ≤ 11

-- the points of a slot, as often as they count
abbrev pub points_counted : Team → TeamScore → List Figures → ℕ → ℤ
points_counted team score figures slot = pos (multiplier team score slot) *ℤ points_at figures slot

-- the points of the fifteen, each as often as it counts, are those of the gameweek
abbrev pub MultipliersAddUp : Type 0
MultipliersAddUp = (facts : Facts) (h : List Event) (g : ℕ) → HasStartersLead (team_by facts h g)
    → total_of (map (points_counted (team_by facts h g) (score_by facts h g) (figures_by facts h g)) all_slots) ≡ (score_by facts h g).gross
