use Rattle.std.proofs.Common.{◌≡◌, map, take, vec_len}
use Rattle.std.specs.List.{All}
use Rattle.csv.specs.Records.{fields_of}
use Rattle.rule_book.specs.Figures.{IsLine}
use Rattle.rule_book.specs.declared.line.Appearance.{Appearance}
use Rattle.score_sheet.specs.Rows.{AreRows}
use Rattle.score_sheet.proofs.rows.rows_of.Given as goal

abbrev pub invariant-loop-read : goal.invariant-loop-read
invariant-loop-read l =
    (vec_len l.rows ≡ l.read-index)
    × AreRows (map fields_of (take l.read-index l.records)) l.rows.items
    × All (λ (row : Appearance). IsLine row.line) l.rows.items
