use Rattle.std.proofs.Common.{◌≡◌, ◌≤◌, ◌+◌, map, take}
use Rattle.rule_book.specs.MatchFacts.{lines_of}
use Rattle.season_book.specs.Views.{line_shown}
use Rattle.season_views.proofs.sheets.lines_shown.Given as goal

abbrev pub invariant-loop-player : goal.invariant-loop-player
invariant-loop-player g l = record {
  value : l.shown ≡ map (line_shown l.seen.facts l.fixture) (take l.player-index (lines_of l.seen.facts.matches l.fixture));
  cost : l.steps ≤ l.fn.steps + (1 + l.player-index);
}
