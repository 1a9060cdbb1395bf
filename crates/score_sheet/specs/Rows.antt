-- Which records of comma-separated fields are the rows of a match.
use Rattle.std.specs.Prelude.{◌≡◌, ◌+◌, ◌<◌, ◌≤◌, ◌^◌, ◌==◌, ◌++◌, [], ◌∷◌, false, ℕ, List, length, slice_index, Some, None}
use Rattle.std.specs.List.{list_any}
use Rattle.std.specs.Fmt.{decimal}
use Rattle.csv.specs.Records.{field_at}
use Rattle.fpl_base.specs.Letters.{letter_of}
use Rattle.rule_book.specs.Figures.{line_range}
use Rattle.rule_book.specs.declared.line.Appearance.{Appearance}
use Rattle.score_sheet.specs.declared.rows.RowFault.{RowFault}
use Rattle.score_sheet.specs.declared.rows.RowFault.TheVariants as fault

-- behind the first two fields, the next n spell these figures
abbrev pub SpellsFigures : List (List ℕ) → List ℕ → ℕ → Type 0
SpellsFigures fields figures n = (k : ℕ) → k < n → (slice_index figures k < 2 ^ 16) × (field_at fields (k + 2) ≡ Some (decimal (slice_index figures k)))

-- thirty fields spell a row: the player's number, the letter of his position, and his figures
pub record Spells (fields : List (List ℕ)) (row : Appearance) : Type 0 where
  pub count : length fields ≡ 30
  pub player : field_at fields 0 ≡ Some (decimal row.player)
  pub player_range : (1 ≤ row.player) × (row.player ≤ 999999)
  pub position : field_at fields 1 ≡ Some (letter_of row.position)
  pub size : length row.line.figures ≡ 28
  pub figures : SpellsFigures fields row.line.figures 28

-- the fields spell a row that may follow these rows: no figure is above its greatest value, the player stands in no
-- earlier row, and there are at most 64 rows
pub record Adds (before : List Appearance) (fields : List (List ℕ)) (row : Appearance) : Type 0 where
  pub spelled : Spells fields row
  pub in_range : line_range row.line ≡ None
  pub new_player : list_any (λ earlier. earlier.player == row.player) before ≡ false
  pub few : length before < 64

-- the records spell these rows after those, each of which may follow the ones before it
unfoldable pub AddAll : List Appearance → List (List (List ℕ)) → List Appearance → Type 0
AddAll before [] rows = rows ≡ before
AddAll before (fields ∷ more) rows = (row : Appearance) × Adds before fields row × AddAll (before ++ row ∷ []) more rows

-- the records are the rows of a match
abbrev pub AreRows : List (List (List ℕ)) → List Appearance → Type 0
AreRows records rows = AddAll [] records rows

-- the n-th record is the first that is no row
pub record IsWrongAt (records : List (List (List ℕ))) (n : ℕ) : Type 0 where
  pub front : List (List (List ℕ))
  pub fields : List (List ℕ)
  pub rest : List (List (List ℕ))
  pub rows : List Appearance
  pub parts : records ≡ front ++ fields ∷ rest
  pub place : n ≡ length front + 1
  pub before : AreRows front rows
  pub wrong : (row : Appearance) → Adds rows fields row → ⊥

-- why there are no rows; want of memory needs no reason
abbrev pub ExplainsRows : List (List (List ℕ)) → RowFault → Type 0
ExplainsRows records (fault.Wrong n) = IsWrongAt records n
ExplainsRows records fault.Memory = Unit {0}
