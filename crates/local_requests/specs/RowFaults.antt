-- What is written of rows of an input that are not done.
use Rattle.std.specs.Prelude.{◌≡◌, ℕ, List, [], ◌∷◌, ◌++◌, Option, codes}
use Rattle.std.specs.Fmt.{decimal}
use Rattle.fpl_reports.specs.declared.rows.RowFault.{RowFault}
use Rattle.fpl_reports.specs.declared.rows.RowFault.TheVariants as fault
use Rattle.local_requests.specs.Printing.{PrintsOne}

-- the line that names a wrong row
abbrev pub row_text : ℕ → List ℕ
row_text row = codes "row " ++ (decimal row ++ 10 ∷ [])

-- the line that names a row that is refused, and the number of the rule
abbrev pub refused_text : ℕ → ℕ → List ℕ
refused_text row rule = codes "row " ++ (decimal row ++ (codes " rule " ++ (decimal rule ++ 10 ∷ [])))

-- what is told of rows that cannot be read: the first wrong one, with status 11, unless there is no memory for the line; and
-- where memory ran out, nothing, with status 6
abbrev pub TellsRowFault : RowFault → ℕ → Option (List ℕ) → Option (List ℕ) → Type 0
TellsRowFault (fault.Wrong row) status before after = PrintsOne (λ text. text ≡ row_text row) 11 status before after
TellsRowFault fault.Memory status before after = (status ≡ 6) × (after ≡ before)
