-- What the making of a table does.
use Rattle.std.proofs.Common.{◌≡◌, ℕ, List, [], false, None, Ok, sym, ap, subst, ◌∙◌}
use Rattle.sqlite_trees.specs.Tree.{Trees}
use Rattle.sqlite_schema.specs.declared.schema.Schema.{Schema}
use Rattle.sqlite_schema.specs.declared.schema.Table.{Table}
use Rattle.sqlite_schema.specs.declared.command.Command.TheVariants.{CreateTable, Nothing}
use Rattle.sqlite_resolve.specs.Compile.{table_defined_by}
use Rattle.sqlite_catalog.specs.Change.{created, next_tree, KeepsRows}
use Rattle.sqlite.specs.Does.{Tally, lacks_sequence}
use Rattle.sqlite.specs.Effect.{Database, IsDatabase}
use Rattle.sqlite.specs.State.{State, Writes, Executes, IsUnchanged}
use Rattle.sqlite.proofs.Callers.{runs_as}
use Rattle.season_keeper.specs.Table.{Tables, schema_of}
use Rattle.season_keeper.proofs.Texts.{Means, Makes}
use Rattle.season_keeper.proofs.Deleting.{went, same_value}

-- the table is there, without rows, and the others have their rows
pub record Made (before after : Tables) (old new : Database) : Type 0 where
  pub schema : new.schema ≡ schema_of after
  pub sound : IsDatabase new
  pub empty : new.trees (next_tree (schema_of before)) ≡ []
  pub others : KeepsRows (schema_of before).tables old.trees new.trees

pub creates : (before after : Tables) (table : Table) (sql : List ℕ) → Makes before sql → table_defined_by sql ≡ Ok table → created (schema_of before) table ≡ schema_of after → lacks_sequence (schema_of after) ≡ false
    → (old new : State) (count : ℕ) → old.now.schema ≡ schema_of before → Executes sql [] old new (Ok count) → Made before after old.now new.now
creates before after table sql makes defined made unneeded old new count has h =
    let w = subst (λ t. Writes old new None CreateTable t [] count) makes.whole (runs_as sql [] old new (schema_of before) has CreateTable makes.means.command_is makes.means.plain count h) in
    let all = went w.changed in
    let first = went all.1 in
    let is = first.1 in
    let same : is.table ≡ table = same_value (sym is.defined ∙ defined) in
    let schema : first.0.schema ≡ schema_of after = is.is ∙ ap (λ s. created s is.table) has ∙ ap (created (schema_of before)) same ∙ made in
    let plain : lacks_sequence first.0.schema ≡ false = ap lacks_sequence schema ∙ unneeded in
    let now : new.now ≡ first.0 = ap (λ (p : Tally × Database). p.1) (same_value all.2) ∙ same_value (rw plain at first.2) in
    let trees : new.now.trees ≡ first.0.trees = ap (λ (d : Database). d.trees) now in
    record {
      schema = ap (λ (d : Database). d.schema) now ∙ schema;
      sound = w.sound;
      empty = ap (λ (t : Trees). t (next_tree (schema_of before))) trees ∙ subst (λ s. first.0.trees (next_tree s) ≡ []) has is.empty;
      others = subst (λ t. KeepsRows (schema_of before).tables old.now.trees t) (sym trees) (subst (λ (s : Schema). KeepsRows s.tables old.now.trees first.0.trees) has is.others);
    }

-- the table is there
pub rests : (tables : Tables) (sql : List ℕ) → Means (schema_of tables) sql Nothing → (old new : State) (count : ℕ) → old.now.schema ≡ schema_of tables → Executes sql [] old new (Ok count) → IsUnchanged old new
rests tables sql means old new count has h = (runs_as sql [] old new (schema_of tables) has Nothing means.command_is means.plain count h).0
