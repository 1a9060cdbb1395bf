use Rattle.std.proofs.Common.{take}
use Rattle.fpl_base.specs.Keeping.{KeysRise}
use Rattle.season_keeper.proofs.pairs.do_rise.Given as goal

abbrev pub invariant-pairs : goal.invariant-pairs
invariant-pairs l = KeysRise (take l.place l.pairs)
