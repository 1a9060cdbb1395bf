use Rattle.std.proofs.Common.{◌≡◌, length, take}
use Rattle.stored_records.proofs.entry_told.numbers_of.Given as goal

abbrev pub invariant-loop-place : goal.invariant-loop-place
invariant-loop-place l = (length l.numbers ≡ 15) × (take l.place l.numbers ≡ take l.place l.picks)
