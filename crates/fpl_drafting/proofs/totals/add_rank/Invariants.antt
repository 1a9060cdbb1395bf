use Rattle.std.proofs.Common.{◌≡◌, ◌++◌, take}
use Rattle.std.specs.List.{flat_map}
use Rattle.std.specs.Prelude.{string_bytes}
use Rattle.fpl_drafting.specs.Totals.{row_if}
use Rattle.fpl_drafting.proofs.totals.add_rank.Given as goal

abbrev pub invariant-loop-one : goal.invariant-loop-one
invariant-loop-one l = string_bytes l.text ≡ string_bytes l.fn.text ++ flat_map (row_if l.totals l.rank) (take l.one-index l.totals)
