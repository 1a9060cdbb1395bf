use Rattle.std.proofs.Common.{◌≡◌, drop}
use Rattle.rule_book.specs.MatchCalls.{lines_range}
use Rattle.match_facts.proofs.judge.judge_lines.Given as goal

abbrev pub invariant-loop-line : goal.invariant-loop-line
invariant-loop-line l = lines_range l.lines ≡ lines_range (drop l.line-index l.lines)
