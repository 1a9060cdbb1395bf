use Rattle.std.proofs.Common.{◌≡◌, ◌++◌, take, flat_map}
use Rattle.std.specs.List.{All}
use Rattle.record_fields.specs.Fields.{whole}
use Rattle.record_fields.specs.Ranges.{IsPlayer}
use Rattle.record_fields.proofs.lists.append_whole_players.Given as goal

abbrev pub invariant-loop-player : goal.invariant-loop-player
invariant-loop-player l = (l.bytes.items ≡ l.fn.bytes.items ++ flat_map whole (take l.player-index l.fn.players)) × All IsPlayer (take l.player-index l.fn.players)
