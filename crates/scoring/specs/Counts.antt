-- The counts that the code keeps of an eleven.
use Rattle.std.specs.Prelude.{◌≡◌, ℕ, ◌+◌, ◌≤◌, List, count_by}
use Rattle.rule_book.specs.declared.team.Team.{Team}
use Rattle.rule_book.specs.Teams.{defender_at, midfielder_at, forward_at}
use Rattle.scoring.specs.declared.counts.Counts.{Counts}
use Rattle.scoring.specs.Ones.{one_if}

-- these are the counts of some slots
pub record AreCounts (team : Team) (slots : List ℕ) (counts : Counts) : Type 0 where
  pub defenders : counts.defenders ≡ count_by (defender_at team) slots
  pub midfielders : counts.midfielders ≡ count_by (midfielder_at team) slots
  pub forwards : counts.forwards ≡ count_by (forward_at team) slots

-- the counts hold a slot, and are counts of eleven at most
pub record HasCounted (team : Team) (slot : ℕ) (counts : Counts) : Type 0 where
  pub defenders : (one_if (defender_at team slot) ≤ counts.defenders) × (counts.defenders ≤ 11)
  pub midfielders : (one_if (midfielder_at team slot) ≤ counts.midfielders) × (counts.midfielders ≤ 11)
  pub forwards : (one_if (forward_at team slot) ≤ counts.forwards) × (counts.forwards ≤ 11)

-- one slot came for another
pub record AreCountsAfter (team : Team) (goes comes : ℕ) (old new : Counts) : Type 0 where
  pub defenders : new.defenders + one_if (defender_at team goes) ≡ old.defenders + one_if (defender_at team comes)
  pub midfielders : new.midfielders + one_if (midfielder_at team goes) ≡ old.midfielders + one_if (midfielder_at team comes)
  pub forwards : new.forwards + one_if (forward_at team goes) ≡ old.forwards + one_if (forward_at team comes)
