-- How far the substitutions have come.
use Rattle.std.specs.Prelude.{◌≡◌, ℕ, ◌-◌, ◌≤◌, ◌<◌, false, List, All, take, drop, length, slice_index_or}
use Rattle.rule_book.specs.declared.team.Team.{Team}
use Rattle.rule_book.specs.declared.team_score.Figures.{Figures}
use Rattle.rule_book.specs.Teams.{InTeam, starters}
use Rattle.rule_book.specs.Elevens.{slot_of, is_used, keeper_for, Settles}
use Rattle.scoring.specs.declared.substitutions.Progress.{Progress}
use Rattle.scoring.specs.Counts.{AreCounts}

-- the starters before n are settled, and those from n on stand for themselves
pub record Standing (team : Team) (figures : List Figures) (n : ℕ) (p : Progress) : Type 0 where
  pub all : length p.slots ≡ 11
  pub known : All InTeam p.slots
  pub marks : length p.used ≡ 3
  pub keeper : slot_of p.slots 1 ≡ keeper_for figures
  pub settled : (m : ℕ) → 2 ≤ m → m < n → Settles team figures p.slots m
  pub rest : drop (n - 1) p.slots ≡ drop (n - 1) starters
  pub counts : AreCounts team p.slots p.counts
  pub used : (slot : ℕ) → 13 ≤ slot → slot ≤ 15 → slice_index_or p.used (slot - 13) false ≡ is_used (take (n - 1) p.slots) slot
