use Rattle.std.proofs.Common.{◌≡◌, ◌≤◌, ◌+◌, ◌++◌, [], ◌∷◌, count_by}
use Rattle.json.specs.Token.{Token}
use Rattle.rule_book.specs.Calendar.{is_locked}
use Rattle.season_views.specs.Seen.{OfEachSeen}
use Rattle.season_book.specs.HeadMatches.{match_row}
use Rattle.league_windows.specs.RowTokens.{row_tokens}
use Rattle.league_windows.proofs.MatchesWritten.{rounds_from}
use Rattle.league_windows.proofs.head_matches.write_matches.Given as goal

-- the matches of the first gameweeks are written
abbrev pub invariant-loop-round : goal.invariant-loop-round
invariant-loop-round g l = record {
  tokens : OfEachSeen l.seen (λ entries. l.out.tokens ≡ (l.fn.out.tokens ++ Token.begin_array ∷ []) ++ row_tokens (match_row l.seen.facts entries l.id l.league) (rounds_from l.league l.league.start l.round));
  before : OfEachSeen l.seen (λ entries. l.out.before ≡ l.fn.out.before);
  cost : l.steps ≤ l.fn.steps + count_by (λ row. is_locked l.seen.facts.calendar row.0) (rounds_from l.league l.league.start l.round);
}
