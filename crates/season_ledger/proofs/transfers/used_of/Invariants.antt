use Rattle.std.proofs.Common.{◌≡◌, ◌-◌, None}
use Rattle.rule_book.specs.HistoryTransfers.{chip_among}
use Rattle.season_ledger.specs.Rows.{chip_by}
use Rattle.season_ledger.proofs.transfers.used_of.Given as goal

abbrev pub invariant-loop-w : goal.invariant-loop-w
invariant-loop-w l = chip_among (chip_by l.rows) l.chip l.from (l.w - l.from) ≡ None
