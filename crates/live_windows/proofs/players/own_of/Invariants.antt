use Rattle.std.proofs.Common.{◌≡◌, ◌==◌, filter, take}
use Rattle.live_windows.specs.declared.sums.LiveLine.{LiveLine}
use Rattle.live_windows.proofs.players.own_of.Given as goal

abbrev pub invariant-loop-line : goal.invariant-loop-line
invariant-loop-line l = record { value : l.own.items ≡ filter (λ (line : LiveLine). line.player == l.player) (take l.line-index l.lines) }
