use Rattle.std.proofs.Common.{◌≡◌, ◌≤◌, ◌+◌, ◌-◌, drop, length, option_map}
use Rattle.fpl_http.specs.Lines.{head_len}
use Rattle.fpl_http.proofs.lines.head_length.Given as goal

abbrev pub invariant-loop-line : goal.invariant-loop-line
invariant-loop-line l = record {
  within : l.at ≤ length l.bytes;
  found : option_map (λ n. l.at + n) (head_len (drop l.at l.bytes)) ≡ head_len l.bytes;
}

abbrev pub decreases-loop-line : goal.decreases-loop-line
decreases-loop-line l = length l.bytes - l.at
