use Rattle.std.proofs.Common.{◌≤◌, ◌+◌, [], drop}
use Rattle.rule_book.specs.MatchFacts.{lines_of, players_in}
use Rattle.season_cells.proofs.Others.{AreSeen}
use Rattle.season_cells.proofs.sheets.others.Given as goal

-- of those who have a line, but for those who are left, the others were found; each one's line was one read
abbrev pub invariant-loop-player : goal.invariant-loop-player
invariant-loop-player g l = record {
  seen : AreSeen (lines_of l.fn.season.matches l.fn.fixture) l.fn.lines l.found.items (drop l.player-index (players_in (lines_of l.fn.season.matches l.fn.fixture))) (players_in l.fn.lines);
  cost : l.steps ≤ l.fn.steps + l.player-index;
}

-- and of those who get one, but for those who are left
abbrev pub invariant-loop-row : goal.invariant-loop-row
invariant-loop-row g l =
    AreSeen (lines_of l.fn.season.matches l.fn.fixture) l.fn.lines l.found.items [] (players_in (drop l.row-index l.fn.lines))
