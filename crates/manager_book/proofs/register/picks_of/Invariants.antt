use Rattle.std.proofs.Common.{◌≡◌, length, take}
use Rattle.rule_book.specs.EntryCalls.{picks_from}
use Rattle.manager_book.proofs.register.picks_of.Given as goal

abbrev pub invariant-loop-i : goal.invariant-loop-i
invariant-loop-i l = (length l.picks ≡ 15) × (take l.i l.picks ≡ picks_from l.players (take l.i l.squad))
