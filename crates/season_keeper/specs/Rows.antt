-- The rows of the two tables as records.
use Rattle.std.specs.Prelude.{◌≡◌, ◌≢◌, ◌⊎◌, ℕ, ℤ, pos, List, [], ◌∷◌, IsPermutation}
use Rattle.std.specs.List.{AllZip}
use Rattle.sqlite_value.specs.declared.value.Value.TheVariants.{Int, Blob}
use Rattle.sqlite_value.specs.Order.{Row, column}
use Rattle.sqlite_trees.specs.Tree.{rowid}
use Rattle.sqlite_rules.specs.Lists.{Has}
use Rattle.fpl_base.specs.declared.records.RecordKey.{RecordKey as Key}

-- what a row of `record` has behind its rowid
abbrev pub record_values : Key → List ℕ → Row
record_values k body = Int (pos k.kind) ∷ Int (pos k.a) ∷ Int (pos k.b) ∷ Int (pos k.c) ∷ Blob body ∷ []

-- the key of a row of `line`
pub record LineKey : Type 0 where
  pub a : ℕ
  pub b : ℕ
  pub c : ℕ

-- it stands for a key of kind 5
abbrev pub line_key : LineKey → Key
line_key at = record { kind = 5; a = at.a; b = at.b; c = at.c }

-- what a row of `line` has behind its rowid
abbrev pub line_values : LineKey → List ℕ → Row
line_values at body = Int (pos at.a) ∷ Int (pos at.b) ∷ Int (pos at.c) ∷ Blob body ∷ []

module _ {K : Type 0} (values : K → List ℕ → Row) where
  -- a row with a rowid, a key and a body
  pub record IsRow (r : Row) : Type 0 where
    pub id : ℤ
    pub key : K
    pub body : List ℕ
    pub is : r ≡ Int id ∷ values key body

  -- each row is such a row, and no rowid comes twice
  pub record AreRows (rows : List Row) : Type 0 where
    pub each : (r : Row) → Has rows r → IsRow r
    pub ids : (r s : Row) → Has rows r → Has rows s → rowid r ≡ rowid s → r ≡ s

  -- the table has this body under this key
  abbrev pub Stores : List Row → K → List ℕ → Type 0
  Stores rows k body = (id : ℤ) × Has rows (Int id ∷ values k body)

-- the two tables have this body under this key: `record` under its key, `line` under its numbers where its kind is 5
abbrev pub Stored : List Row → List Row → Key → List ℕ → Type 0
Stored records lines k body = Stores record_values records k body ⊎ ((at : LineKey) × (k ≡ line_key at) × Stores line_values lines at body)

-- no key stands in both tables
abbrev pub AreApart : List Row → List Row → Type 0
AreApart records lines = (at : LineKey) (x y : List ℕ) → Stores record_values records (line_key at) x → Stores line_values lines at y → ⊥

-- no key of kind 5 stands in `record`
abbrev pub HasNoLine : List Row → Type 0
HasNoLine records = (k : Key) (body : List ℕ) → Stores record_values records k body → k.kind ≢ 5

-- the reading shows each record of the two tables, and no other row
pub record IsReading (records lines out : List Row) : Type 0 where
  pub sound : (x : Row) → Has out x → (k : Key) × (body : List ℕ) × Stored records lines k body × (x ≡ record_values k body)
  pub complete : (k : Key) (body : List ℕ) → Stored records lines k body → Has out (record_values k body)

-- the row shows this record
pub record Shows (row : Row) (pair : Key × List ℕ) : Type 0 where
  pub kind : column row 0 ≡ Int (pos pair.0.kind)
  pub a : column row 1 ≡ Int (pos pair.0.a)
  pub b : column row 2 ≡ Int (pos pair.0.b)
  pub c : column row 3 ≡ Int (pos pair.0.c)
  pub body : column row 4 ≡ Blob pair.1

-- each row shows the pair at its place
abbrev pub ShowEach : List Row → List (Key × List ℕ) → Type 0
ShowEach = AllZip Shows

-- the rows show these pairs, in whatever order
abbrev pub ShowAll : List Row → List (Key × List ℕ) → Type 0
ShowAll rows pairs = (in_turn : List (Key × List ℕ)) × ShowEach rows in_turn × IsPermutation in_turn pairs
