use Rattle.std.proofs.Common.{◌≡◌, map, take}
use Rattle.squad_rules.specs.Pools.{row_of}
use Rattle.squad_rules.proofs.Choosing.{part}
use Rattle.squad_rules.proofs.pools.candidates.Given as goal

abbrev pub invariant-loop-row : goal.invariant-loop-row
invariant-loop-row l = map (row_of l.position) l.found.items ≡ part l.position (take l.row-index l.rows)
