use Rattle.std.proofs.Common.{◌≤◌, length}
use Rattle.std.specs.Io.KnownBytes.{Consumes}
use Rattle.season_folder.proofs.disk.whole.Given as goal

abbrev pub invariant-loop : goal.invariant-loop
invariant-loop g l =
    Consumes (g.R.Read.remaining l.fn.file) (g.R.Read.remaining l.file) l.bytes.items
    × (length l.bytes.items ≤ 4194304)
    × (l.counter ≤ length l.bytes.items)
