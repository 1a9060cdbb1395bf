use Rattle.std.proofs.Common.{◌≡◌, ◌+◌, ◌≤◌, drop, map}
use Rattle.rule_book.specs.HistoryRules.{times}
use Rattle.stored_records.specs.Sequels.{holdings_told}
use Rattle.stored_records.proofs.sequels.times.Given as goal

abbrev pub invariant-picks : goal.invariant-picks
invariant-picks l =
    (l.count + times l.player (map (λ k. k.player) (holdings_told (drop l.pick-index l.picks))) ≡ times l.player (map (λ k. k.player) (holdings_told l.picks)))
    × (l.count ≤ l.pick-index)
