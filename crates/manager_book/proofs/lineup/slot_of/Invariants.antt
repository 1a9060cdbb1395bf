use Rattle.std.proofs.Common.{◌≡◌, ◌+◌, drop}
use Rattle.rule_book.specs.EntryCalls.{slot_from, slot_of}
use Rattle.manager_book.proofs.lineup.slot_of.Given as goal

abbrev pub invariant-loop-i : goal.invariant-loop-i
invariant-loop-i l = slot_from (l.i + 1) (drop l.i l.players) l.player ≡ slot_of l.players l.player
