-- How much the sales of a batch can move.
use Rattle.std.specs.Prelude.{◌≤◌}
use Rattle.rule_book.specs.declared.transfers.Sale.{Sale}

-- no price is above that of the dearest player
abbrev pub IsCheap : Sale → Type 0
IsCheap sale = (sale.sold ≤ 200) × (sale.bought ≤ 200)
