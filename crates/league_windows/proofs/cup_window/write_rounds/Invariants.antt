use Rattle.std.proofs.Common.{◌≡◌, ◌≤◌, ◌+◌, ◌*◌, ◌++◌, [], ◌∷◌}
use Rattle.std.specs.List.{range_with_len}
use Rattle.json.specs.Token.{Token}
use Rattle.season_book.specs.LeagueViews.{side_in}
use Rattle.season_views.specs.Seen.{OfEachSeen}
use Rattle.season_views.proofs.Counted.{ties_until}
use Rattle.season_book.specs.CupWindow.{round_row}
use Rattle.league_windows.specs.RowTokens.{row_tokens}
use Rattle.league_windows.proofs.cup_window.write_rounds.Given as goal

-- the first rounds are written
abbrev pub invariant-loop-round : goal.invariant-loop-round
invariant-loop-round g l = record {
  tokens : OfEachSeen l.seen (λ entries. l.out.tokens ≡ (l.fn.out.tokens ++ Token.begin_array ∷ []) ++ row_tokens (round_row l.seen.facts entries l.bracket) (range_with_len 0 l.round));
  before : OfEachSeen l.seen (λ entries. l.out.before ≡ l.fn.out.before);
  cost : OfEachSeen l.seen (λ entries. l.steps ≤ l.fn.steps + 2 * ties_until l.bracket (side_in l.seen.facts entries) l.seen.facts.calendar.locked l.round);
}
