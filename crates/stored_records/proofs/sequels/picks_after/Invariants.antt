use Rattle.std.proofs.Common.{◌≡◌, length, map, take}
use Rattle.stored_records.specs.Sequels.{pick_after}
use Rattle.stored_records.proofs.sequels.picks_after.Given as goal

abbrev pub invariant-loop-place : goal.invariant-loop-place
invariant-loop-place l = (length l.after ≡ 15) × (take l.place l.after ≡ map (pick_after l.sale) (take l.place l.picks))
