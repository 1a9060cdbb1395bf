use Rattle.fpl_base.specs.Keeping.{map_of}
use Rattle.stored_records.specs.EntryTold.{sale_told}
use Rattle.season_restoring.proofs.Adding.{IsAdding}
use Rattle.season_restoring.proofs.entry_sales.add_sales.Given as goal

abbrev pub invariant-loop-number : goal.invariant-loop-number
invariant-loop-number l = IsAdding l.gameweek (sale_told (map_of l.stored) l.entry l.gameweek) l.number l.fn.sales.items l.sales.items
