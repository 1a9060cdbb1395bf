use Rattle.std.proofs.Common.{◌≡◌, ◌≤◌, ◌+◌, ◌++◌, length, take}
use Rattle.std.specs.Prelude.{vec_len, vec_capacity}
use Rattle.manager_book.specs.Calls.{with_gameweek}
use Rattle.manager_book.proofs.entry_sales.append.Given as goal

abbrev pub invariant-sales : goal.invariant-sales
invariant-sales l = record {
  made : l.made.items ≡ l.fn.made.items ++ with_gameweek l.g (take l.sale-index l.sales);
  room : vec_len l.made + length l.sales ≤ vec_capacity l.made + l.sale-index;
}
