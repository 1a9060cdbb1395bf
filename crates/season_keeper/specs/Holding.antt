-- Which databases keep a map, and what a stop may leave of it.
use Rattle.std.specs.Prelude.{is_some, refl, ◌≡◌, ◌⊎◌, ℕ, Bool, true, false, IsTrue, List, Option, Some, None}
use Rattle.std.specs.Coded.{Coded, code_by, coded×, coded_ℕ, coded_bool}
use Rattle.std.proofs.Common.{sym, ap, subst, ◌∙◌, true≢false}
use Rattle.sqlite_value.specs.Order.{Row}
use Rattle.sqlite_trees.specs.Tree.{Trees}
use Rattle.sqlite_schema.specs.declared.schema.Schema.{Schema}
use Rattle.sqlite.specs.Effect.{Database, IsDatabase}
use Rattle.sqlite.specs.State.{State}
use Rattle.sqlite.specs.Held.{Held, held_code}
use Rattle.fpl_base.specs.declared.records.RecordKey.{RecordKey as Key}
use Rattle.fpl_base.specs.Keeping.{Map}
use Rattle.season_keeper.specs.Table.{Tables, neither, record_alone, line_alone, record_first, line_first, schema_of, are_both, records_in, lines_in, tables_of}
use Rattle.season_keeper.specs.Rows.{record_values, line_values, AreRows, Stored, AreApart, HasNoLine}

-- each of the two tables is missing, or has its columns and rules and rows of records; nothing else is there
pub record Store (db : Database) : Type 0 where
  pub tables : Tables
  pub schema : db.schema ≡ schema_of tables
  pub sound : IsDatabase db
  pub records : AreRows record_values (records_in tables db.trees)
  pub lines : AreRows line_values (lines_in tables db.trees)

module _ {db : Database} (it : Store db) where
  abbrev pub records_of : List Row
  records_of = records_in it.tables db.trees

  abbrev pub lines_of : List Row
  lines_of = lines_in it.tables db.trees

-- the rows of the two tables hold the map
pub record Holds (records lines : List Row) (m : Map) : Type 0 where
  pub sound : (k : Key) (body : List ℕ) → Stored records lines k body → m k ≡ Some body
  pub complete : (k : Key) (body : List ℕ) → m k ≡ Some body → Stored records lines k body

-- each of the two tables is missing or ours, no key stands in both, and together they hold the map
pub record Tells (db : Database) (m : Map) : Type 0 where
  pub store : Store db
  pub apart : AreApart (records_of store) (lines_of store)
  pub holds : Holds (records_of store) (lines_of store) m

-- both tables are there, each key of kind 5 stands in `line`, and they hold the map
pub record Keeps (db : Database) (m : Map) : Type 0 where
  pub store : Store db
  pub both : are_both store.tables ≡ true
  pub moved : HasNoLine (records_of store)
  pub holds : Holds (records_of store) (lines_of store) m

-- the two tables hold the map; before the first reading either may be missing, and `record` may have keys of kind 5
abbrev pub Finds : Database → Bool → Map → Type 0
Finds db true m = Keeps db m
Finds db false m = Tells db m

-- no transaction is open, and the tables hold the map
pub record HoldsMap (s : State) (ready : Bool) (m : Map) : Type 0 where
  pub open_ : IsTrue s.is_open
  pub autocommit : s.in_transaction ≡ false
  pub finds : Finds s.now ready m

-- a stop at this moment may leave tables that tell the map
abbrev pub MayLeave : State → Map → Type 0
MayLeave s m = (db : Database) × s.may_leave db.trees × Tells db m

-- these trees are those of tables that tell the map
abbrev pub TreesTell : Trees → Map → Type 0
TreesTell trees m = (db : Database) × (trees ≡ db.trees) × Tells db m

-- whatever a stop may leave now, and could not leave before, tells the map
abbrev pub LeavesNewly : State → State → Map → Type 0
LeavesNewly old new m = (trees : Trees) → new.may_leave trees → old.may_leave trees ⊎ TreesTell trees m

-- whatever a stop may leave tells the map
abbrev pub LeavesOnly : State → Map → Type 0
LeavesOnly s m = (trees : Trees) → s.may_leave trees → TreesTell trees m

-- both tables are there now, with the rows of before
pub record Grows (before after : Database) (was : Store before) : Type 0 where
  pub store : Store after
  pub both : are_both store.tables ≡ true
  pub records : records_of store ≡ records_of was
  pub lines : lines_of store ≡ lines_of was

-- Both tables are there now, each key of kind 5 stands in `line`, and the records are those of before. No key stood in both.
pub record Moves (before after : Database) (was : Store before) : Type 0 where
  pub store : Store after
  pub both : are_both store.tables ≡ true
  pub moved : HasNoLine (records_of store)
  pub apart : AreApart (records_of was) (lines_of was)
  pub back : (k : Key) (body : List ℕ) → Stored (records_of store) (lines_of store) k body → Stored (records_of was) (lines_of was) k body
  pub forth : (k : Key) (body : List ℕ) → Stored (records_of was) (lines_of was) k body → Stored (records_of store) (lines_of store) k body

-- so it is of the tables of before, wherever they were ours
abbrev pub Moved : Database → Database → Type 0
Moved before after = (was : Store before) → Moves before after was

-- inside a transaction, of which nothing is committed yet, this was made of the database
pub record Inside (old now : State) (made : Database → Type 0) : Type 0 where
  pub was_open : IsTrue now.is_open → IsTrue old.is_open
  pub mode : IsTrue now.in_transaction
  pub committed : now.committed ≡ old.committed
  pub makes : made now.now

-- what is seen, and what a stop leaves while the store is open, are as they were
abbrev pub IsUndone : State → State → Type 0
IsUndone old new = (new.now ≡ old.now) × (new.committed ≡ old.committed)

pub record HeldKeeper (S : Type 0) : Type 0 where
  pub conn : Held S
  pub faults : ℕ
  pub ready : Bool

abbrev pub keeper_code : {S : Type 0} → Coded S → Coded (HeldKeeper S)
keeper_code {S} store =
    code_by (Held S × (ℕ × Bool)) (coded× (held_code store) (coded× coded_ℕ coded_bool)) (λ k. (k.conn, (k.faults, k.ready))) (λ p. record { conn = p.0; faults = p.1.0; ready = p.1.1 }) (λ _. refl)

-- rows hold one map at most
pub holds_one : (records lines : List Row) (m n : Map) → Holds records lines m → Holds records lines n → m ≡ n
holds_one records lines m n p q = λ i k. same k (m k) refl (n k) refl i
  where
    same : (k : Key) (x : Option (List ℕ)) → m k ≡ x → (y : Option (List ℕ)) → n k ≡ y → m k ≡ n k
    same k (Some b) e y f = e ∙ sym (q.sound k b (p.complete k b e))
    same k None e (Some b) f = absurd (true≢false (sym (ap is_some (sym e ∙ p.sound k b (q.complete k b f)))))
    same k None e None f = e ∙ sym f

-- the tables of a schema are known by it
pub named : (tables : Tables) → tables_of (schema_of tables) ≡ tables
named neither = refl
named record_alone = refl
named line_alone = refl
named record_first = refl
named line_first = refl

pub one_schema : (schema : Schema) (s t : Tables) → schema ≡ schema_of s → schema ≡ schema_of t → s ≡ t
one_schema schema s t p q = sym (named s) ∙ ap tables_of (sym p ∙ q) ∙ named t

pub tells_one : (db : Database) (m n : Map) → Tells db m → Tells db n → m ≡ n
tells_one db m n p q =
    let same = one_schema db.schema q.store.tables p.store.tables q.store.schema p.store.schema in
    holds_one _ _ m n p.holds (subst (λ t. Holds (records_in t db.trees) (lines_in t db.trees) n) same q.holds)

-- what was moved tells the same map
pub keeps_tells : (db : Database) (m : Map) → Keeps db m → Tells db m
keeps_tells db m keeps = record { store = keeps.store; apart = λ at x y record_has line_has. keeps.moved _ x record_has refl; holds = keeps.holds }

pub finds_tells : (db : Database) (ready : Bool) (m : Map) → Finds db ready m → Tells db m
finds_tells db true m found = keeps_tells db m found
finds_tells db false m found = found

-- a keeper holds one map at most
pub finds_one : (db : Database) (ready : Bool) (m n : Map) → Finds db ready m → Finds db ready n → m ≡ n
finds_one db ready m n p q = tells_one db m n (finds_tells db ready m p) (finds_tells db ready n q)
