use Rattle.std.proofs.Common.{◌≤◌, ◌*◌}
use Rattle.rule_book.specs.MatchFacts.{lines_of}
use Rattle.fixture_windows.proofs.ScoreFacts.{ScoresSoFar}
use Rattle.fixture_windows.proofs.score.score_of.Given as goal

abbrev pub invariant-loop-place : goal.invariant-loop-place
invariant-loop-place g l = record {
  so : ScoresSoFar l.seen.facts l.fixture (lines_of l.seen.facts.matches l.fixture.id) l.place l.score;
  home : l.score.home ≤ 131070 * l.place;
  away : l.score.away ≤ 131070 * l.place;
}
