-- The tables of leagues through a gameweek, and who stood where in them.
use Rattle.std.specs.Prelude.{ℕ, ◌-◌, ℤ, List, nat_lt, if◌then◌else◌}
use Rattle.rule_book.specs.declared.tables.HeadScore.{HeadScore}
use Rattle.rule_book.specs.ClassicTable.{is_better as is_better_in_classic}
use Rattle.rule_book.specs.HeadToHead.{is_better as is_better_in_head}
use Rattle.rule_book.specs.HistoryTransfers.{counted_through}
use Rattle.rule_book.specs.LeagueRows.{classic_row, classic_rows, head_row, head_rows}
use Rattle.rule_book.specs.Leagues.{LeagueFacts}
use Rattle.rule_book.specs.Ranks.{rank_among}
use Rattle.season_book.specs.Book.{EntryFacts, Facts}
use Rattle.season_book.specs.LeagueViews.{first_of, history_of, net_in}

module _ (facts : Facts) (entries : List EntryFacts) where
  -- the transfers of an entry that a table counts, through a gameweek
  abbrev pub transfers_through : ℕ → ℕ → ℕ
  transfers_through g e = counted_through (history_of entries e) g

  module _ (league : LeagueFacts) where
    -- a member's row of a classic league, by its total and its transfers through a gameweek; and those of all
    abbrev pub classic_row_through : ℕ → ℕ → ℕ × ℤ × ℕ
    classic_row_through g = classic_row (net_in facts entries) (first_of entries) (transfers_through g) g league

    abbrev pub classic_rows_through : ℕ → List (ℕ × ℤ × ℕ)
    classic_rows_through g = classic_rows (net_in facts entries) (first_of entries) (transfers_through g) g league

    -- a member's rank among them
    abbrev pub classic_rank : ℕ → ℕ → ℕ
    classic_rank g e = rank_among is_better_in_classic (classic_rows_through g) (classic_row_through g e)

    -- a member's row of a head-to-head league, by its matches through a gameweek; and those of all
    abbrev pub head_row_through : ℕ → ℕ → ℕ × HeadScore
    head_row_through g = head_row (net_in facts entries) g league

    abbrev pub head_rows_through : ℕ → List (ℕ × HeadScore)
    head_rows_through g = head_rows (net_in facts entries) g league

    abbrev pub head_rank : ℕ → ℕ → ℕ
    head_rank g e = rank_among is_better_in_head (head_rows_through g) (head_row_through g e)

    -- the same a gameweek before the last locked one; 0 where the league had not begun by then
    abbrev pub before : (ℕ → ℕ) → ℕ
    before rank = if nat_lt league.start facts.calendar.locked then rank (facts.calendar.locked - 1) else 0

    abbrev pub classic_last_rank : ℕ → ℕ
    classic_last_rank e = before (λ g. classic_rank g e)

    abbrev pub head_last_rank : ℕ → ℕ
    head_last_rank e = before (λ g. head_rank g e)
