use Rattle.std.proofs.Common.{take}
use Rattle.leagues_and_cups.specs.Places.{IsIndex}
use Rattle.leagues_and_cups.proofs.drawn.index_of.Given as goal

abbrev pub invariant-loop-place : goal.invariant-loop-place
invariant-loop-place l = IsIndex (take l.place l.slots) l.rows.items
