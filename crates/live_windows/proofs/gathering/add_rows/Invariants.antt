use Rattle.std.proofs.Common.{◌≡◌, ◌++◌, All, map, take}
use Rattle.rule_book.specs.Figures.{IsLine}
use Rattle.rule_book.specs.MatchFacts.{lines_of}
use Rattle.live_windows.specs.declared.sums.LiveLine.{LiveLine}
use Rattle.live_windows.specs.Gathered.{live_line}
use Rattle.live_windows.proofs.gathering.add_rows.Given as goal

-- the lines so far stand behind those that there were
abbrev pub invariant-loop-place : goal.invariant-loop-place
invariant-loop-place g l = record {
  value : l.lines.items ≡ l.fn.lines.items ++ map (live_line l.seen.facts l.fn.fixture) (take l.place (lines_of l.seen.facts.matches l.fn.fixture));
  ranges : All (λ (own : LiveLine). IsLine own.line) l.lines.items;
}
