-- What is told of the points of a gameweek while they are read, one entry after another.
use Rattle.std.specs.Prelude.{◌≡◌, ℕ, ℤ, Option, Some, None, int_lt, length, if◌then◌else◌}
use Rattle.std.specs.Option.{option_map}
use Rattle.bootstrap_window.specs.declared.scores.Best.{Best}
use Rattle.bootstrap_window.specs.declared.scores.EventScores.{EventScores}
use Rattle.season_book.specs.Events.{Scores, highest_entry, highest_score, sum_of_scores}

-- the greatest, and who has it
abbrev pub highest_of : Option Best → Option ℤ
highest_of best = option_map (λ b. b.gross) best

abbrev pub entry_of : Option Best → Option ℕ
entry_of best = option_map (λ b. b.entry) best

-- how many there are, what they sum to, the greatest, and who is the first to have it
pub record AreTold (scores : Scores) (told : EventScores) : Type 0 where
  pub many : told.many ≡ length scores
  pub total : told.total ≡ sum_of_scores scores
  pub highest : highest_of told.best ≡ highest_score scores
  pub entry : entry_of told.best ≡ highest_entry scores

-- the better of the best so far and of an entry with these points; the earlier where they have the same
abbrev pub better_of : Option Best → ℕ → ℤ → Option Best
better_of None entry gross = Some (record { entry = entry; gross = gross })
better_of (Some best) entry gross = if int_lt best.gross gross then Some (record { entry = entry; gross = gross }) else Some best
