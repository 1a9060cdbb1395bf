use Rattle.std.proofs.Common.{take}
use Rattle.std.specs.List.{All}
use Rattle.season_records.specs.Read.{HasBytes}
use Rattle.season_records.proofs.records.have_bytes.Given as goal

abbrev pub invariant-records : goal.invariant-records
invariant-records l = All HasBytes (take l.row-index l.records)
