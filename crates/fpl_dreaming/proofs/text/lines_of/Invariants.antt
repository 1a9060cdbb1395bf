use Rattle.std.proofs.Common.{◌≡◌, take, string_bytes}
use Rattle.fpl_dreaming.specs.Texts.{lines_of}
use Rattle.fpl_dreaming.proofs.text.lines_of.Given as goal

abbrev pub invariant-loop-player : goal.invariant-loop-player
invariant-loop-player l = string_bytes l.text ≡ lines_of l.rows (take l.player-index l.players)
