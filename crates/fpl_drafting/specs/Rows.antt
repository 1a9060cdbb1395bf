-- The rows of a draft league: which records spell them.
use Rattle.std.specs.Prelude.{◌≡◌, ◌≤◌, ℕ, List, [], ◌∷◌, Some, codes, length, ⊤}
use Rattle.std.specs.Fmt.{decimal}
use Rattle.csv.specs.Records.{field_at}
use Rattle.fpl_reports.specs.Rows.{HasRows, HasWrongRow}
use Rattle.fpl_drafting.specs.declared.row.DraftRow.{DraftRow}
use Rattle.fpl_drafting.specs.declared.row.DraftRow.TheVariants as row
use Rattle.fpl_reports.specs.declared.rows.RowFault.{RowFault}
use Rattle.fpl_reports.specs.declared.rows.RowFault.TheVariants as fault

-- a field spells this number, which is from 1 to the greatest: in decimal, without sign or leading zero
abbrev pub IsNumberAt : List (List ℕ) → ℕ → ℕ → ℕ → Type 0
IsNumberAt fields place greatest n = (1 ≤ n) × (n ≤ greatest) × (field_at fields place ≡ Some (decimal n))

-- the first field is this word, and there are so many fields
abbrev pub Begins : List (List ℕ) → List ℕ → ℕ → Type 0
Begins fields word count = (length fields ≡ count) × (field_at fields 0 ≡ Some word)

-- fields spell a row in a league of so many members: `pick,PLAYER`, `bid,GAMEWEEK,MEMBER,INTO,OUT` or `waive,GAMEWEEK`
abbrev pub Spells : ℕ → List (List ℕ) → DraftRow → Type 0
Spells members fields (row.Pick player) = Begins fields (codes "pick") 2 × IsNumberAt fields 1 999999 player
Spells members fields (row.Bid gw member into out) =
    Begins fields (codes "bid") 5 × IsNumberAt fields 1 38 gw × IsNumberAt fields 2 members member × IsNumberAt fields 3 999999 into × IsNumberAt fields 4 999999 out
Spells members fields (row.Waive gw) = Begins fields (codes "waive") 2 × IsNumberAt fields 1 38 gw

-- a row may follow any others
abbrev pub Adds : ℕ → List DraftRow → List (List ℕ) → DraftRow → Type 0
Adds members before fields row = Spells members fields row

-- the bytes have these rows, and no other record; or this one, from 1, is the first that is no row
abbrev pub HasDraftRows : ℕ → List ℕ → List DraftRow → Type 0
HasDraftRows members bytes rows = HasRows (Adds members) bytes rows

abbrev pub HasWrongDraftRow : ℕ → List ℕ → ℕ → Type 0
HasWrongDraftRow members bytes n = HasWrongRow (Adds members) bytes n

-- why there are no rows; want of memory needs no reason
abbrev pub ExplainsRows : ℕ → List ℕ → RowFault → Type 0
ExplainsRows members bytes (fault.Wrong n) = HasWrongDraftRow members bytes n
ExplainsRows members bytes fault.Memory = ⊤

-- the member of a bid is one of so many, and so it is in all of these rows
abbrev pub IsRowOf : ℕ → DraftRow → Type 0
IsRowOf members (row.Pick player) = ⊤
IsRowOf members (row.Bid gw member into out) = (1 ≤ member) × (member ≤ members)
IsRowOf members (row.Waive gw) = ⊤

abbrev pub AreRowsOf : ℕ → List DraftRow → Type 0
AreRowsOf members [] = ⊤
AreRowsOf members (row ∷ rows) = IsRowOf members row × AreRowsOf members rows
