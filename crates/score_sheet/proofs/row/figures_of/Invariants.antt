use Rattle.std.proofs.Common.{◌≡◌, length}
use Rattle.csv.specs.Records.{fields_of}
use Rattle.score_sheet.specs.Rows.{SpellsFigures}
use Rattle.score_sheet.proofs.row.figures_of.Given as goal

abbrev pub invariant-loop-k : goal.invariant-loop-k
invariant-loop-k l = (length l.figures ≡ 28) × SpellsFigures (fields_of l.record_read) l.figures l.k
