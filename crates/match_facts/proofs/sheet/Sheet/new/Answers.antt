use Rattle.std.proofs.Common.{refl}
use Rattle.match_facts.proofs.ColumnLemmas.{no_columns}
use Rattle.match_facts.proofs.sheet.Sheet.new.Goals as goal

pub invariant_of-result : goal.invariant_of-result
invariant_of-result c = record {
  columns = rw (c.in_ok-with_capacity.ensures.items, c.in_ok-with_capacity-2.ensures.items) no_columns;
  marked = λ player none. rw c.in_ok-with_capacity.ensures.items refl;
}
