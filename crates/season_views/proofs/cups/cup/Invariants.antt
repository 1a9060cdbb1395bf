use Rattle.std.proofs.Common.{◌≡◌, ◌≤◌, ◌+◌, map}
use Rattle.std.specs.List.{range_with_len}
use Rattle.rule_book.specs.CupRounds.{locked_winners}
use Rattle.season_book.specs.LeagueViews.{side_in}
use Rattle.season_views.specs.Entries.{OfEachBook}
use Rattle.season_views.proofs.Counted.{ties_until}
use Rattle.season_views.proofs.cups.cup.Given as goal

abbrev pub invariant-loop-round : goal.invariant-loop-round
invariant-loop-round g l = record {
  shown : OfEachBook l.seen.facts l.seen.managers (λ entries. l.shown ≡ map (locked_winners l.bracket (side_in l.seen.facts entries) l.seen.facts.calendar.locked) (range_with_len 1 l.round));
  cost : OfEachBook l.seen.facts l.seen.managers (λ entries. l.steps ≤ l.fn.steps + ties_until l.bracket (side_in l.seen.facts entries) l.seen.facts.calendar.locked l.round);
}
