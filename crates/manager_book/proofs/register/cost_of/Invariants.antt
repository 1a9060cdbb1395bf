use Rattle.std.proofs.Common.{◌≡◌, ◌+◌, ◌*◌, ◌≤◌, drop}
use Rattle.rule_book.specs.EntryCalls.{cost_of}
use Rattle.manager_book.proofs.register.cost_of.Given as goal

abbrev pub invariant-picks : goal.invariant-picks
invariant-picks l = (l.sum + cost_of (drop l.pick-index l.picks) ≡ cost_of l.picks) × (l.sum ≤ 10000000 * l.pick-index)
