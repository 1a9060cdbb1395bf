use Rattle.std.proofs.Common.{◌≡◌, drop}
use Rattle.std.specs.List.{slice_get}
use Rattle.rule_book.specs.EntryRecords.{sales_in}
use Rattle.record_changes.proofs.entries.sale_at.Given as goal

abbrev pub invariant-loop-made : goal.invariant-loop-made
invariant-loop-made l = slice_get (sales_in (drop l.made-index l.sales) l.gameweek) l.left ≡ slice_get (sales_in l.sales l.gameweek) l.others
