-- How many counted reads the window on a player makes at most: of each match in which he has a line its lines, which tell the
-- score, and its bonus.
use Rattle.std.specs.Prelude.{ℕ, sum_by}
use Rattle.season_book.specs.Book.{Facts}
use Rattle.season_book.specs.ElementSummary.{history_lines}
use Rattle.season_views.specs.FixturesReads.{match_reads}

abbrev pub element_summary_reads : Facts → ℕ → ℕ
element_summary_reads facts p = sum_by (λ row. match_reads facts row.0.id) (history_lines facts p)
