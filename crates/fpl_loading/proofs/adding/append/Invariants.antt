use Rattle.std.proofs.Common.{◌≡◌, ◌++◌, take}
use Rattle.fpl_loading.proofs.adding.append.Given as goal

abbrev pub invariant-loop-place : goal.invariant-loop-place
invariant-loop-place l = l.places ≡ l.fn.places ++ take l.place-index l.more
