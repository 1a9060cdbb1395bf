-- What is told of a folder that gives no commands.
use Rattle.std.specs.Prelude.{◌≡◌, ◌++◌, ◌∷◌, [], ℕ, List, Option, codes}
use Rattle.std.specs.Fmt.{decimal}
use Rattle.local_requests.specs.Printing.{PrintsOne}
use Rattle.fpl_loading.specs.Files.{file_name}
use Rattle.fpl_loading.specs.declared.files.LoadFault.{LoadFault}
use Rattle.fpl_loading.specs.declared.files.LoadFault.TheVariants as fault

-- the line that names a row of a file
abbrev pub row_text : ℕ → ℕ → List ℕ
row_text file row = file_name file ++ (codes " row " ++ (decimal row ++ 10 ∷ []))

-- what is told of a fault: nothing where the shelf failed, status 9, where a file is too long, status 10, or where memory
-- ran out, status 6; and the first wrong row, status 11, unless there is no memory for the line
abbrev pub TellsLoadFault : LoadFault → ℕ → Option (List ℕ) → Option (List ℕ) → Type 0
TellsLoadFault (fault.Shelf file) status before after = (status ≡ 9) × (after ≡ before)
TellsLoadFault (fault.Long file) status before after = (status ≡ 10) × (after ≡ before)
TellsLoadFault fault.Memory status before after = (status ≡ 6) × (after ≡ before)
TellsLoadFault (fault.Row file row) status before after = PrintsOne (λ text. text ≡ row_text file row) 11 status before after
