use Rattle.fpl_base.specs.Keeping.{map_of}
use Rattle.manager_book.specs.Calls.{with_gameweek}
use Rattle.stored_records.specs.Sequels.{sales_told}
use Rattle.season_restoring.proofs.Through.{IsOnTheWay}
use Rattle.season_restoring.proofs.entry_sales.sales_of.Given as goal

abbrev pub invariant-loop-number : goal.invariant-loop-number
invariant-loop-number l = IsOnTheWay (λ g. with_gameweek g (sales_told (map_of l.stored) l.entry g)) l.number l.sales.items
