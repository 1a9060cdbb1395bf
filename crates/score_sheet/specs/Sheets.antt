-- What the bytes of a match score, or which of its rows is wrong.
use Rattle.std.specs.Prelude.{◌≡◌, ℕ, List}
use Rattle.csv.specs.Reading.{AreRecords, default_config, strip_bom}
use Rattle.csv.specs.declared.parser.State.TheVariants as st
use Rattle.fpl_base.specs.declared.kinds.Profile.{Profile}
use Rattle.rule_book.specs.declared.line.Appearance.{Appearance}
use Rattle.score_sheet.specs.declared.sheet.SheetFault.{SheetFault}
use Rattle.score_sheet.specs.declared.sheet.SheetFault.TheVariants as fault
use Rattle.score_sheet.specs.Rows.{AreRows, IsWrongAt}
use Rattle.score_sheet.specs.Scores.{score_text}

-- the bytes read as these records of comma-separated fields, without a header; a byte order mark in front is no part
-- of them, and a blank line is no record
abbrev pub ReadAs : List ℕ → List (List (List ℕ)) → Type 0
ReadAs bytes records = AreRecords default_config st.StartRecord (strip_bom bytes) records

-- the bytes are the rows of a match, and this is the text of what they score by the rules of a profile
pub record Scores (profile : Profile) (bytes text : List ℕ) : Type 0 where
  pub records : List (List (List ℕ))
  pub rows : List Appearance
  pub read : ReadAs bytes records
  pub are_rows : AreRows records rows
  pub is_text : text ≡ score_text profile rows

-- the n-th record of the bytes is the first that is no row
pub record HasWrongRow (bytes : List ℕ) (n : ℕ) : Type 0 where
  pub records : List (List (List ℕ))
  pub read : ReadAs bytes records
  pub wrong_at : IsWrongAt records n

-- why there is no text; want of memory needs no reason
abbrev pub ExplainsScore : List ℕ → SheetFault → Type 0
ExplainsScore bytes (fault.Row n) = HasWrongRow bytes n
ExplainsScore bytes fault.Memory = Unit {0}
