use Rattle.std.proofs.Common.{◌≡◌, ◌++◌, ℕ, List, arith, subst}
use Rattle.fpl_base.specs.Keeping.{map_of}
use Rattle.rule_book.specs.declared.transfers.Sale.{Sale}
use Rattle.manager_book.specs.Calls.{with_gameweek}
use Rattle.stored_records.specs.Sequels.{sales_told}
use Rattle.season_restoring.proofs.Through.{at_end, on_from}
use Rattle.season_restoring.proofs.entry_sales.sales_of.Goals as goal

pub loop-number-preserved : goal.loop-number-preserved
loop-number-preserved c =
    let own : ℕ → List (ℕ × Sale) = λ g. with_gameweek g (sales_told (map_of c.args.stored.now) c.args.entry g) in
    on_from own c.loop-number.number c.loop-number.sales.items c.add_sales.new.sales.items (omega arith)
    (subst (λ g. c.add_sales.new.sales.items ≡ c.loop-number.sales.items ++ own g) c.gameweek.ensures c.in_ok-add_sales.ensures)
    c.loop-number.invariant

pub returns : goal.returns
returns c =
    at_end (λ g. with_gameweek g (sales_told (map_of c.args.stored.now) c.args.entry g)) c.loop-number.number c.loop-number.sales.items
    (omega arith) c.loop-number.invariant
