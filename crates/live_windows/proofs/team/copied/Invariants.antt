use Rattle.std.proofs.Common.{◌≡◌, take}
use Rattle.live_windows.proofs.team.copied.Given as goal

abbrev pub invariant-loop-player : goal.invariant-loop-player
invariant-loop-player l = l.copy.items ≡ take l.player-index l.players
