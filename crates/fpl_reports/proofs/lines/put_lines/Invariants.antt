use Rattle.std.proofs.Common.{◌≡◌, ◌++◌, map, take}
use Rattle.std.specs.List.{flat_map}
use Rattle.csv.specs.Writing.{default_writer, row_text}
use Rattle.fpl_reports.proofs.lines.put_lines.Given as goal

abbrev pub invariant-loop-line : goal.invariant-loop-line
invariant-loop-line g l = l.longer ≡ l.fn.report ++ flat_map (row_text default_writer) (map g.T.Line.fields (take l.line-index l.lines))
