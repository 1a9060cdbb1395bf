use Rattle.std.proofs.Common.{◌≡◌, map, take}
use Rattle.fixture_windows.specs.Appeared.{pair_of, some_told}
use Rattle.fixture_windows.proofs.told.some_of.Given as goal

abbrev pub invariant-loop-row : goal.invariant-loop-row
invariant-loop-row l = map pair_of l.told.items ≡ some_told l.side l.stat (take l.row-index l.rows)
