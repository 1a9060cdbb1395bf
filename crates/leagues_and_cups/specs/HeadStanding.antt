-- By what the rows of a table are sorted.
use Rattle.std.specs.Prelude.{ℕ}
use Rattle.rule_book.specs.declared.tables.HeadScore.{HeadScore}
use Rattle.rule_book.specs.declared.tables.HeadRanked.{HeadRanked}
use Rattle.leagues_and_cups.specs.declared.head_table.Standing.{Standing}

-- what a row is sorted by
abbrev pub standing_of_row : ℕ × HeadScore → Standing
standing_of_row row = record { points = record { 0 = row.1.points }; scored = record { 0 = row.1.scored } }

-- a row with a rank
abbrev pub with_rank : (ℕ × HeadScore) × ℕ → HeadRanked
with_rank pair = record { rank = pair.1; entry = pair.0.0; score = pair.0.1 }
