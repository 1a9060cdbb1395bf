-- What a stop may leave of a keeper.
use Rattle.std.proofs.Common.{◌≡◌, ◌⊎◌, inl, inr, Bool, true, false, List, [], ◌∷◌, map, filter, length, if◌then◌else◌, ◌==◌, refl, sym, ap, ap₂, subst, ◌∙◌}
use Rattle.std.specs.List.{AllZip}
use Rattle.sqlite_value.specs.declared.value.Value.{Value}
use Rattle.sqlite_value.specs.declared.value.Value.TheVariants.{Text}
use Rattle.sqlite_value.specs.Order.{Row, column, bytes}
use Rattle.sqlite_trees.specs.Tree.{Trees}
use Rattle.sqlite_trees.specs.Objects.{catalog_tree}
use Rattle.sqlite_schema.specs.declared.schema.Table.{Table}
use Rattle.sqlite_catalog.specs.Listing.{is_table_row, IsTableRow, IsSound}
use Rattle.sqlite.specs.Effect.{Database}
use Rattle.sqlite.specs.State.{State, HasCleanDisk, Survives}
use Rattle.fpl_base.specs.declared.records.Op.{Op}
use Rattle.fpl_base.specs.Keeping.{Map, applied}
use Rattle.season_keeper.specs.Table.{Tables, neither, record_alone, line_alone, record_first, line_first, schema_of, records_in, lines_in}
use Rattle.season_keeper.specs.Holding.{Store, Tells, Keeps, Finds, Moved, MayLeave, LeavesNewly, LeavesOnly, holds_one, tells_one, keeps_tells}
use Rattle.season_keeper.proofs.Changing.{holds_as}
use Rattle.season_keeper.proofs.Batches.{Leaves, Applied}

-- ---- the trees tell which tables are there

abbrev names_in : List Row → List Value
names_in objects = map (λ (r : Row). column r 2) (filter is_table_row objects)

abbrev names_of : List Table → List Value
names_of tables = map (λ (t : Table). Text t.name) tables

zip_names : (rows : List Row) (tables : List Table) → AllZip IsTableRow rows tables → map (λ (r : Row). column r 2) rows ≡ names_of tables
zip_names [] [] all = refl
zip_names [] (t ∷ tables) all = absurd all
zip_names (r ∷ rows) [] all = absurd all
zip_names (r ∷ rows) (t ∷ tables) all = ap₂ ◌∷◌ all.0.described.name_is (zip_names rows tables all.1)

-- the tables of these names
abbrev by_names : List Value → Tables
by_names [] = neither
by_names (one ∷ []) = if length (bytes one) == 6 then record_alone else line_alone
by_names (one ∷ other ∷ more) = if length (bytes one) == 6 then record_first else line_first

names_tell : (t : Tables) → by_names (names_of (schema_of t).tables) ≡ t
names_tell neither = refl
names_tell record_alone = refl
names_tell line_alone = refl
names_tell record_first = refl
names_tell line_first = refl

told_by : (db : Database) (store : Store db) → by_names (names_in (db.trees catalog_tree)) ≡ store.tables
told_by db store =
    let sound : IsSound (schema_of store.tables) db.trees = subst (λ s. IsSound s db.trees) store.schema store.sound in
    ap by_names (zip_names _ _ sound.lists.listed.tables) ∙ names_tell store.tables

same_tables : (db other : Database) (p : Store db) (q : Store other) → db.trees ≡ other.trees → p.tables ≡ q.tables
same_tables db other p q same = sym (told_by db p) ∙ ap (λ (t : Trees). by_names (names_in (t catalog_tree))) same ∙ told_by other q

-- so trees tell one map at most
pub trees_one : (db other : Database) (m n : Map) → db.trees ≡ other.trees → Tells db m → Tells other n → m ≡ n
trees_one db other m n same p q =
    let tables = same_tables db other p.store q.store same in
    let records : records_in q.store.tables other.trees ≡ records_in p.store.tables db.trees = sym (ap₂ records_in tables same) in
    let lines : lines_in q.store.tables other.trees ≡ lines_in p.store.tables db.trees = sym (ap₂ lines_in tables same) in
    holds_one _ _ m n p.holds (holds_as records lines q.holds)

-- ---- what a call leaves

-- the move keeps each map that the tables told
pub moved_tells : (before after : Database) (m : Map) → Moved before after → Tells before m → Keeps after m
moved_tells before after m moved tells =
    let it = moved tells.store in
    record {
      store = it.store;
      both = it.both;
      moved = it.moved;
      holds = record { sound = λ k body h. tells.holds.sound k body (it.back k body h); complete = λ k body h. it.forth k body (tells.holds.complete k body h) };
    }

pub keeps_finds : (db : Database) (ready : Bool) (m : Map) → Keeps db m → Finds db ready m
keeps_finds db true m keeps = keeps
keeps_finds db false m keeps = keeps_tells db m keeps

-- where the reading gave one map, it is the one that was told
pub gave_keeps : (old new : Database) (m n : Map) → Tells old m → Tells old n × Keeps new n → Keeps new m
gave_keeps old new m n tells gave = subst (Keeps new) (tells_one old n m gave.0 tells) gave.1

-- while the store is open, a stop leaves what was committed alone
pub only_of : (s : State) (m : Map) → ((db : Trees) → s.may_leave db → db ≡ s.committed.trees) → s.committed ≡ s.now → Keeps s.now m → LeavesOnly s m
only_of s m settled same keeps trees left = (s.now, settled trees left ∙ ap (λ (d : Database). d.trees) same, keeps_tells s.now m keeps)

pub alone_by : (s : State) (m : Map) → LeavesOnly s m → (x : Map) → MayLeave s x → x ≡ m
alone_by s m only x left = let it = only left.0.trees left.1 in trees_one left.0 it.0 x m it.1 left.2 it.2

-- a batch leaves what could be left before it, or itself
pub batch_leaves : (old new : State) (ops : List Op) (m : Map) → Survives old new (Leaves (Applied old.now ops)) → HasCleanDisk new → Keeps old.now m → LeavesNewly old new (applied m ops)
batch_leaves old new ops m s clean keeps trees left = elim (s.crash clean trees left) [
  | inl before ↦ inl before
  | inr after ↦ inr (after.0, after.1, keeps_tells after.0 (applied m ops) (after.2 m keeps))
]

-- a reading leaves what could be left before it, or the same records in the two tables
pub reading_leaves : (old new : State) (m : Map) → Survives old new (Leaves (Moved old.now)) → HasCleanDisk new → Tells old.now m → LeavesNewly old new m
reading_leaves old new m s clean tells trees left = elim (s.crash clean trees left) [
  | inl before ↦ inl before
  | inr after ↦ inr (after.0, after.1, keeps_tells after.0 m (moved_tells old.now after.0 m after.2 tells))
]

-- so a stop leaves a map that it could leave before, or the new one
pub stops_by : (old new : State) (m : Map) → LeavesNewly old new m → (x : Map) → MayLeave new x → MayLeave old x ⊎ (x ≡ m)
stops_by old new m newly x left = elim (newly left.0.trees left.1) [
  | inl before ↦ inl (left.0, before, left.2)
  | inr it ↦ inr (trees_one left.0 it.0 x m it.1 left.2 it.2)
]

-- and one that it could leave before, where the new one is that which the store told
pub told_before : (old new : State) (m : Map) → LeavesNewly old new m → old.may_leave old.now.trees → Tells old.now m → (x : Map) → MayLeave new x → MayLeave old x
told_before old new m newly settled tells x left = elim (stops_by old new m newly x left) [
  | inl before ↦ before
  | inr is ↦ subst (MayLeave old) (sym is) (old.now, settled, tells)
]
