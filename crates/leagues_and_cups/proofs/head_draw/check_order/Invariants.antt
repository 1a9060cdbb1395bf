use Rattle.std.proofs.Common.{All, Contains, take}
use Rattle.leagues_and_cups.proofs.head_draw.check_order.Given as goal

abbrev pub invariant-loop-member : goal.invariant-loop-member
invariant-loop-member l = All (Contains l.order) (take l.member-index l.members)
