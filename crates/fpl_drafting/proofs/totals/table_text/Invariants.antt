use Rattle.std.proofs.Common.{◌≡◌, ◌++◌, ◌∷◌, codes}
use Rattle.std.specs.List.{flat_map}
use Rattle.std.specs.Prelude.{string_bytes}
use Rattle.fpl_drafting.specs.Totals.{rows_of_rank, up_to}
use Rattle.fpl_drafting.proofs.totals.table_text.Given as goal

abbrev pub invariant-loop-place : goal.invariant-loop-place
invariant-loop-place l = string_bytes l.text ≡ codes "rank,member,total" ++ 10 ∷ flat_map (rows_of_rank l.totals) (up_to l.place)
