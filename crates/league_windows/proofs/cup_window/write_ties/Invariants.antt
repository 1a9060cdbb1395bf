use Rattle.std.proofs.Common.{◌≡◌, ◌≤◌, ◌+◌, ◌*◌, ◌++◌, [], ◌∷◌, if◌then◌else◌}
use Rattle.std.specs.List.{range_with_len}
use Rattle.json.specs.Token.{Token}
use Rattle.rule_book.specs.Calendar.{is_locked}
use Rattle.season_views.specs.Seen.{OfEachSeen}
use Rattle.season_book.specs.CupWindow.{tie_row}
use Rattle.league_windows.specs.RowTokens.{row_tokens}
use Rattle.league_windows.proofs.cup_window.write_ties.Given as goal

-- the first ties are written
abbrev pub invariant-loop-tie : goal.invariant-loop-tie
invariant-loop-tie g l = record {
  tokens : OfEachSeen l.seen (λ entries. l.out.tokens ≡ (l.fn.out.tokens ++ Token.begin_array ∷ []) ++ row_tokens (tie_row l.seen.facts entries l.bracket l.before) (range_with_len 0 l.tie));
  before : OfEachSeen l.seen (λ entries. l.out.before ≡ l.fn.out.before);
  cost : l.steps ≤ l.fn.steps + (if is_locked l.seen.facts.calendar (l.bracket.start + l.before) then 2 * l.tie else 0);
}
