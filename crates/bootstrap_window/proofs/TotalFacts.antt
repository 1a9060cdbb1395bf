-- Totals over lines, one more line at a time.
use Rattle.std.proofs.Common.{◌≡◌, ◌∷◌, [], ◌++◌, ℕ, pos, ◌+ℤ◌, List, cond}
use Rattle.std.specs.Prelude.{nat_le}
use Rattle.std.proofs.lemmas.List.{length_push}
use Rattle.std.proofs.lemmas.List.Sums.{fold_push, sum_by_push}
use Rattle.rule_book.specs.declared.line.Line.{Line}
use Rattle.season_book.specs.Book.{Facts}
use Rattle.season_book.specs.Elements.{totals_over}
use Rattle.season_book.specs.LineSums.{assists_of, clean_sheets_of, conceded_of, goals_of, line_bonus, line_bps, line_points, minutes_of, own_goals_of, penalties_missed_of, penalties_saved_of, red_cards_of, saves_of, yellow_cards_of}
use Rattle.bootstrap_window.specs.Tables.{with_line}

-- totals over lines and one more
pub totals_push : (facts : Facts) (p : ℕ) (lines : List (ℕ × Line)) (row : ℕ × Line)
    → totals_over facts p (lines ++ row ∷ []) ≡ with_line (totals_over facts p lines) row.1 (line_points facts p row) (line_bps facts p row) (line_bonus facts p row)
totals_push facts p lines row i = record {
  lines = length_push lines row i;
  played = sum_by_push (λ (r : ℕ × Line). cond (nat_le 1 (minutes_of r.1)) 1 0) lines row i;
  assists = sum_by_push (λ (r : ℕ × Line). assists_of r.1) lines row i;
  bonus = sum_by_push (line_bonus facts p) lines row i;
  bps = fold_push (λ total (r : ℕ × Line). total +ℤ line_bps facts p r) (pos 0) lines row i;
  clean_sheets = sum_by_push (λ (r : ℕ × Line). clean_sheets_of r.1) lines row i;
  conceded = sum_by_push (λ (r : ℕ × Line). conceded_of r.1) lines row i;
  goals = sum_by_push (λ (r : ℕ × Line). goals_of r.1) lines row i;
  minutes = sum_by_push (λ (r : ℕ × Line). minutes_of r.1) lines row i;
  own_goals = sum_by_push (λ (r : ℕ × Line). own_goals_of r.1) lines row i;
  penalties_missed = sum_by_push (λ (r : ℕ × Line). penalties_missed_of r.1) lines row i;
  penalties_saved = sum_by_push (λ (r : ℕ × Line). penalties_saved_of r.1) lines row i;
  points = fold_push (λ total (r : ℕ × Line). total +ℤ line_points facts p r) (pos 0) lines row i;
  red_cards = sum_by_push (λ (r : ℕ × Line). red_cards_of r.1) lines row i;
  saves = sum_by_push (λ (r : ℕ × Line). saves_of r.1) lines row i;
  yellow_cards = sum_by_push (λ (r : ℕ × Line). yellow_cards_of r.1) lines row i;
}
