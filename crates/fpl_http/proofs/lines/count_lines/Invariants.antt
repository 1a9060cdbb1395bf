use Rattle.std.proofs.Common.{◌≡◌, ◌≤◌, ◌+◌, ◌-◌, drop, length}
use Rattle.fpl_http.specs.Lines.{line_count}
use Rattle.fpl_http.proofs.lines.count_lines.Given as goal

abbrev pub invariant-loop-line : goal.invariant-loop-line
invariant-loop-line l = (l.at ≤ length l.bytes) × (l.count ≤ l.at) × (l.count + line_count (drop l.at l.bytes) ≡ line_count l.bytes)

abbrev pub decreases-loop-line : goal.decreases-loop-line
decreases-loop-line l = length l.bytes - l.at
