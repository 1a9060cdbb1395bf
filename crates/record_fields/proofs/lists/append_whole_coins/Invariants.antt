use Rattle.std.proofs.Common.{◌≡◌, ◌++◌, take, flat_map}
use Rattle.record_fields.specs.Fields.{whole}
use Rattle.record_fields.proofs.lists.append_whole_coins.Given as goal

abbrev pub invariant-loop-coin : goal.invariant-loop-coin
invariant-loop-coin l = l.bytes.items ≡ l.fn.bytes.items ++ flat_map whole (take l.coin-index l.fn.coins)
