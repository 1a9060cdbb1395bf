use Rattle.std.proofs.Common.{◌≡◌, ◌++◌, length, map}
use Rattle.std.specs.Vec.Iter.{into_iter_items, into_iter_len}
use Rattle.fpl_reports.proofs.orders.put_orders.Given as goal

abbrev pub invariant-loop-row : goal.invariant-loop-row
invariant-loop-row g l = record {
  in_turn : l.yielded ++ into_iter_items l.row-iterator ≡ into_iter_items l.initial.row-iterator;
  size : into_iter_len l.row-iterator ≡ length (into_iter_items l.row-iterator);
  put : l.commands.items ≡ l.fn.commands.items ++ map g.R.Ordered.ordered l.yielded;
}
