use Rattle.std.proofs.Common.{◌≡◌, length, take}
use Rattle.rule_book.specs.EntryCalls.{clubs_of}
use Rattle.manager_book.proofs.register.clubs_of.Given as goal

abbrev pub invariant-loop-i : goal.invariant-loop-i
invariant-loop-i l = (length l.clubs ≡ 15) × (take l.i l.clubs ≡ clubs_of l.players (take l.i l.squad))
