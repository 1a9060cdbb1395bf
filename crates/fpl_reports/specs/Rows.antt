-- Texts of comma-separated records, where each record is a row of some kind.
use Rattle.std.specs.Prelude.{◌≡◌, ◌+◌, ◌≤◌, ◌++◌, [], ◌∷◌, ℕ, List, Option, Some, None, length}
use Rattle.std.specs.Fmt.{decimal}
use Rattle.csv.specs.Reading.{AreRecords, Reached, default_config, strip_bom}
use Rattle.csv.specs.declared.parser.State.{State}
use Rattle.csv.specs.declared.parser.State.TheVariants as st
use Rattle.fpl_reports.specs.declared.rows.RowFault.{RowFault}
use Rattle.fpl_reports.specs.declared.rows.RowFault.TheVariants as fault

-- the bytes spell this number, which is from the least to the greatest: in decimal, without sign or leading zero
abbrev pub Spells : ℕ → ℕ → List ℕ → ℕ → Type 0
Spells least greatest bytes n = (least ≤ n) × (n ≤ greatest) × (bytes ≡ decimal n)

-- what is found is what is sought, and none is found only where there is none
abbrev pub Finds : {T : Type 0} → (T → Type 0) → Option T → Type 0
Finds {T} Is None = (x : T) → Is x → ⊥
Finds Is (Some x) = Is x

-- the bytes read as these records of comma-separated fields, without a header; a byte order mark in front is no part
-- of them, and a blank line is no record
abbrev pub ReadAs : List ℕ → List (List (List ℕ)) → Type 0
ReadAs bytes records = AreRecords default_config st.StartRecord (strip_bom bytes) records

-- the bytes read in the same way begin with these records
pub record BeginWith (bytes : List ℕ) (records : List (List (List ℕ))) : Type 0 where
  pub state : State
  pub left : List ℕ
  pub read : Reached default_config st.StartRecord (strip_bom bytes) records state left

-- What a row is, is told by `Adds before fields row`: the fields spell the row, and it may follow the rows before it.

-- the records spell these rows behind those before them, one each
unfoldable pub AddAll : {Row : Type 0} → (List Row → List (List ℕ) → Row → Type 0) → List Row → List (List (List ℕ)) → List Row → Type 0
AddAll Adds before [] rows = rows ≡ before
AddAll {Row} Adds before (fields ∷ more) rows = (row : Row) × Adds before fields row × AddAll Adds (before ++ row ∷ []) more rows

-- the bytes have these rows, and no other record
pub record HasRows {Row : Type 0} (Adds : List Row → List (List ℕ) → Row → Type 0) (bytes : List ℕ) (rows : List Row) : Type 0 where
  pub records : List (List (List ℕ))
  pub read : ReadAs bytes records
  pub rows_are : AddAll Adds [] records rows

-- the n-th record of the bytes, from 1, is the first that is no row
pub record HasWrongRow {Row : Type 0} (Adds : List Row → List (List ℕ) → Row → Type 0) (bytes : List ℕ) (n : ℕ) : Type 0 where
  pub front : List (List (List ℕ))
  pub fields : List (List ℕ)
  pub rows : List Row
  pub read : BeginWith bytes (front ++ fields ∷ [])
  pub place : n ≡ length front + 1
  pub before : AddAll Adds [] front rows
  pub wrong : (row : Row) → Adds rows fields row → ⊥

-- why there are no rows; want of memory needs no reason
abbrev pub ExplainsRows : {Row : Type 0} → (List Row → List (List ℕ) → Row → Type 0) → List ℕ → RowFault → Type 0
ExplainsRows Adds bytes (fault.Wrong n) = HasWrongRow Adds bytes n
ExplainsRows Adds bytes fault.Memory = Unit {0}
