use Rattle.std.proofs.Common.{ℕ, ◌≡◌, ◌≢◌, ◌<◌, ◌*◌, ◌+◌, slice_index}
use Rattle.leagues_and_cups.proofs.cup_draw.has_no_bye_tie.Given as goal

abbrev pub invariant-loop-i : goal.invariant-loop-i
invariant-loop-i l = (k : ℕ) → k < l.i → slice_index l.slots (2 * k) ≡ 0 → slice_index l.slots (2 * k + 1) ≢ 0
