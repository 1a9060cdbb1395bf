use Rattle.std.proofs.Common.{◌≡◌, length, map, take}
use Rattle.season_records.specs.Records.{pick_told}
use Rattle.record_changes.proofs.entries.picks_told.Given as goal

abbrev pub invariant-loop-place : goal.invariant-loop-place
invariant-loop-place l = (length l.told ≡ 15) × (take l.place l.told ≡ map pick_told (take l.place l.picks))
