use Rattle.std.proofs.Common.{◌≡◌, ◌≤◌, ◌+◌, ◌++◌, count_by}
use Rattle.rule_book.specs.Calendar.{is_locked}
use Rattle.season_views.specs.Seen.{OfEachSeen}
use Rattle.season_book.specs.HeadMatches.{match_row}
use Rattle.league_windows.specs.RowTokens.{row_tokens}
use Rattle.league_windows.proofs.MatchesWritten.{first_matches}
use Rattle.league_windows.proofs.head_matches.write_gameweek.Given as goal

-- the matches at the first places are written
abbrev pub invariant-loop-place : goal.invariant-loop-place
invariant-loop-place g l = record {
  tokens : OfEachSeen l.seen (λ entries. l.out.tokens ≡ l.fn.out.tokens ++ row_tokens (match_row l.seen.facts entries l.id l.league) (first_matches l.league l.gameweek l.place));
  before : OfEachSeen l.seen (λ entries. l.out.before ≡ l.fn.out.before);
  cost : l.steps ≤ l.fn.steps + count_by (λ row. is_locked l.seen.facts.calendar row.0) (first_matches l.league l.gameweek l.place);
}
