use Rattle.std.proofs.Common.{◌*◌}
use Rattle.rule_book.specs.FigureRange.{IsWithin}
use Rattle.fpl_drafting.specs.Totals.{IsTotal}
use Rattle.fpl_drafting.proofs.totals.total_of.Given as goal

abbrev pub invariant-loop-place : goal.invariant-loop-place
invariant-loop-place l = IsTotal l.draft l.told l.member l.place l.total × IsWithin (2147483648 * l.place) l.total
