use Rattle.std.proofs.Common.{ℕ, ◌≢◌, ◌<◌, slice_index}
use Rattle.leagues_and_cups.proofs.cup_draw.stands_once.Given as goal

abbrev pub invariant-loop-j : goal.invariant-loop-j
invariant-loop-j l = (i j : ℕ) → i < j → j < l.j → slice_index l.slots i ≢ 0 → slice_index l.slots i ≢ slice_index l.slots j

abbrev pub invariant-loop-i : goal.invariant-loop-i
invariant-loop-i l = record {
  before : (i j : ℕ) → i < j → j < l.j → slice_index l.slots i ≢ 0 → slice_index l.slots i ≢ slice_index l.slots j;
  here : (i : ℕ) → i < l.i → slice_index l.slots i ≢ 0 → slice_index l.slots i ≢ slice_index l.slots l.j;
}
