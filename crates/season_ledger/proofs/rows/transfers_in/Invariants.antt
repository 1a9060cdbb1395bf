use Rattle.std.proofs.Common.{◌≡◌, ◌+◌, ◌≤◌, length, drop}
use Rattle.rule_book.specs.EntryRecords.{sales_in}
use Rattle.season_ledger.proofs.rows.transfers_in.Given as goal

abbrev pub invariant-loop-sale : goal.invariant-loop-sale
invariant-loop-sale l = (l.count + length (sales_in (drop l.sale-index l.sales) l.g) ≡ length (sales_in l.sales l.g)) × (l.count ≤ l.sale-index)
