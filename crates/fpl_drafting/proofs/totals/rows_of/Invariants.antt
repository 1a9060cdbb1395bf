use Rattle.std.proofs.Common.{◌≡◌, All, map, take}
use Rattle.rule_book.specs.FigureRange.{IsWithin}
use Rattle.fpl_drafting.specs.Totals.{row_at}
use Rattle.fpl_drafting.proofs.totals.rows_of.Given as goal

abbrev pub invariant-loop-one : goal.invariant-loop-one
invariant-loop-one l = record {
  rows : l.rows.items ≡ map (row_at l.told l.gw) (take l.one-index l.squad);
  near : All (λ row. IsWithin 1000000 row.2) l.rows.items;
}
