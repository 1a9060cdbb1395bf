use Rattle.std.proofs.Common.{◌≡◌, ◌+◌, ◌-◌, ◌≤◌}
use Rattle.rule_book.specs.HistoryTransfers.{free_from}
use Rattle.season_ledger.specs.Rows.{used_by, chip_by}
use Rattle.season_ledger.proofs.transfers.free_of.Given as goal

abbrev pub invariant-loop-w : goal.invariant-loop-w
invariant-loop-w l = (l.free ≤ 5) × (l.free ≡ free_from l.profile (used_by l.rows) (chip_by l.rows) l.first (l.w - (l.first + 1)))
