use Rattle.std.proofs.Common.{◌≡◌, length, take, drop}
use Rattle.rule_book.specs.EntryCalls.{first_stranger, lined_picks}
use Rattle.manager_book.proofs.lineup.lined.Given as goal

abbrev pub invariant-loop-i : goal.invariant-loop-i
invariant-loop-i l = (length l.lined ≡ 15) × (take l.i l.lined ≡ lined_picks l.picks (take l.i l.order)) × (first_stranger l.picks (drop l.i l.order) ≡ first_stranger l.picks l.order)
