use Rattle.std.proofs.Common.{◌≡◌, take}
use Rattle.rule_book.specs.MatchFacts.{by_player}
use Rattle.match_facts.proofs.sheet.Sheet.of.Given as goal

abbrev pub invariant-loop-line : goal.invariant-loop-line
invariant-loop-line l = l.sheet ≡ record { lines = by_player (take l.line-index l.lines); finished = l.finished }
