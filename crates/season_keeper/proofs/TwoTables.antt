-- Both tables, by which was made first, and the making of them.
use Rattle.std.proofs.Common.{◌≡◌, ℕ, List, [], Bool, true, false, true≢false, Ok, refl, sym, ap, subst, ◌∙◌}
use Rattle.sqlite_value.specs.Order.{Row}
use Rattle.sqlite_trees.specs.Tree.{Trees}
use Rattle.sqlite.specs.Effect.{Database, IsDatabase}
use Rattle.sqlite.specs.State.{State, Executes, IsUnchanged}
use Rattle.season_keeper.specs.Table.{Tables, neither, record_alone, line_alone, record_first, line_first, schema_of, are_both, records_in, lines_in, two, record_table, line_table}
use Rattle.season_keeper.specs.Rows.{record_values, line_values, AreRows}
use Rattle.season_keeper.specs.Holding.{Store, records_of, lines_of, Grows}
use Rattle.season_keeper.proofs.Texts.{record_tree, line_tree, make_record, make_line, record_defined, line_defined, neither_makes_record, line_makes_record, record_makes_line, neither_made, line_made, record_made, record_rests, two_rest_record, two_rest_line}
use Rattle.season_keeper.proofs.Making.{creates, rests}

-- both tables are there, with rows of records
pub record Pair (first : Bool) (db : Database) : Type 0 where
  pub schema : db.schema ≡ schema_of (two first)
  pub sound : IsDatabase db
  pub records : AreRows record_values (db.trees (record_tree first))
  pub lines : AreRows line_values (db.trees (line_tree first))

-- the store has the rows of these two tables
pub record Both {db : Database} (store : Store db) (first : Bool) : Type 0 where
  pub pair : Pair first db
  pub records_are : records_of store ≡ db.trees (record_tree first)
  pub lines_are : lines_of store ≡ db.trees (line_tree first)

module _ (db : Database) (is_sound : IsDatabase db) where
  abbrev Told : List Row → List Row → Type 0
  Told records lines = (first : Bool) × (pair : Pair first db) × (records ≡ db.trees (record_tree first)) × (lines ≡ db.trees (line_tree first))

  told : (t : Tables) → are_both t ≡ true → db.schema ≡ schema_of t → AreRows record_values (records_in t db.trees) → AreRows line_values (lines_in t db.trees) → Told (records_in t db.trees) (lines_in t db.trees)
  told neither both schema records lines = absurd (true≢false (sym both))
  told record_alone both schema records lines = absurd (true≢false (sym both))
  told line_alone both schema records lines = absurd (true≢false (sym both))
  told record_first both schema records lines = (false, record { schema = schema; sound = is_sound; records = records; lines = lines }, refl, refl)
  told line_first both schema records lines = (true, record { schema = schema; sound = is_sound; records = records; lines = lines }, refl, refl)

pub pair_of : (db : Database) (store : Store db) → are_both store.tables ≡ true → (first : Bool) × Both store first
pair_of db store both = let it = told db store.sound store.tables both store.schema store.records store.lines in (it.0, record { pair = it.1; records_are = it.2; lines_are = it.3 })

pub both_two : (first : Bool) → are_both (two first) ≡ true
both_two false = refl
both_two true = refl

records_two : (first : Bool) (trees : Trees) → records_in (two first) trees ≡ trees (record_tree first)
records_two false trees = refl
records_two true trees = refl

lines_two : (first : Bool) (trees : Trees) → lines_in (two first) trees ≡ trees (line_tree first)
lines_two false trees = refl
lines_two true trees = refl

-- two tables with such rows are a store
pub store_of : (first : Bool) (db : Database) → Pair first db → (store : Store db) × (are_both store.tables ≡ true) × Both store first
store_of first db pair =
    let records = records_two first db.trees in
    let lines = lines_two first db.trees in
    let store : Store db = record {
      tables = two first;
      schema = pair.schema;
      sound = pair.sound;
      records = subst (AreRows record_values) (sym records) pair.records;
      lines = subst (AreRows line_values) (sym lines) pair.lines;
    } in
    (store, both_two first, record { pair = pair; records_are = records; lines_are = lines })

-- ---- the making

-- the same rows, and more tables
pub record Grown (before after : Database) (was : Store before) (has : Tables → Bool) : Type 0 where
  pub store : Store after
  pub there : has store.tables ≡ true
  pub records : records_of store ≡ records_of was
  pub lines : lines_of store ≡ lines_of was

abbrev pub has_record : Tables → Bool
has_record neither = false
has_record record_alone = true
has_record line_alone = false
has_record record_first = true
has_record line_first = true

module _ (before after : Database) (is_sound : IsDatabase before) where
  abbrev Grows_to : (Tables → Bool) → Tables → Type 0
  Grows_to has t = (schema : before.schema ≡ schema_of t) (records : AreRows record_values (records_in t before.trees)) (lines : AreRows line_values (lines_in t before.trees))
      → (u : Tables) × (has u ≡ true) × (after.schema ≡ schema_of u) × IsDatabase after × (records_in u after.trees ≡ records_in t before.trees) × (lines_in u after.trees ≡ lines_in t before.trees)

  -- what rests is as it was
  stays : (has : Tables → Bool) (t : Tables) → has t ≡ true → after ≡ before → Grows_to has t
  stays has t there same schema records lines =
      (t, there, ap (λ (d : Database). d.schema) same ∙ schema, subst IsDatabase (sym same) is_sound, ap (λ (d : Database). records_in t d.trees) same, ap (λ (d : Database). lines_in t d.trees) same)

pub makes_record : (old new : State) (count : ℕ) (was : Store old.now) → Executes make_record [] old new (Ok count) → Grown old.now new.now was has_record
makes_record old new count was ran =
    let it = grows was.tables was.schema was.records was.lines in
    record {
      store = record { tables = it.0; schema = it.2; sound = it.3; records = subst (AreRows record_values) (sym it.4) was.records; lines = subst (AreRows line_values) (sym it.5) was.lines };
      there = it.1;
      records = it.4;
      lines = it.5;
    }
  where
    unchanged : IsUnchanged old new → new.now ≡ old.now
    unchanged same = same.0.now_is

    grows : (t : Tables) → Grows_to old.now new.now was.sound has_record t
    grows neither schema records lines =
        let it = creates neither record_alone (record_table 0) make_record neither_makes_record record_defined neither_made refl old new count schema ran in
        (record_alone, refl, it.schema, it.sound, it.empty, refl)
    grows record_alone schema records lines = stays old.now new.now was.sound has_record record_alone refl (unchanged (rests record_alone make_record record_rests old new count schema ran)) schema records lines
    grows line_alone schema records lines =
        let it = creates line_alone line_first (record_table 0) make_record line_makes_record record_defined line_made refl old new count schema ran in
        (line_first, refl, it.schema, it.sound, it.empty, it.others.0)
    grows record_first schema records lines = stays old.now new.now was.sound has_record record_first refl (unchanged (rests record_first make_record (two_rest_record false) old new count schema ran)) schema records lines
    grows line_first schema records lines = stays old.now new.now was.sound has_record line_first refl (unchanged (rests line_first make_record (two_rest_record true) old new count schema ran)) schema records lines

pub makes_line : (old new : State) (count : ℕ) (was : Store old.now) → has_record was.tables ≡ true → Executes make_line [] old new (Ok count) → Grows old.now new.now was
makes_line old new count was has ran =
    let it = grows was.tables has was.schema was.records was.lines in
    record {
      store = record { tables = it.0; schema = it.2; sound = it.3; records = subst (AreRows record_values) (sym it.4) was.records; lines = subst (AreRows line_values) (sym it.5) was.lines };
      both = it.1;
      records = it.4;
      lines = it.5;
    }
  where
    grows : (t : Tables) → has_record t ≡ true → Grows_to old.now new.now was.sound are_both t
    grows neither has schema records lines = absurd (true≢false (sym has))
    grows record_alone has schema records lines =
        let it = creates record_alone record_first (line_table 0) make_line record_makes_line line_defined record_made refl old new count schema ran in
        (record_first, refl, it.schema, it.sound, it.others.0, it.empty)
    grows line_alone has schema records lines = absurd (true≢false (sym has))
    grows record_first has schema records lines = stays old.now new.now was.sound are_both record_first refl (rests record_first make_line (two_rest_line false) old new count schema ran).0.now_is schema records lines
    grows line_first has schema records lines = stays old.now new.now was.sound are_both line_first refl (rests line_first make_line (two_rest_line true) old new count schema ran).0.now_is schema records lines

-- both texts together
pub makes_both : (old middle new : State) (count more : ℕ) (was : Store old.now) → Executes make_record [] old middle (Ok count) → Executes make_line [] middle new (Ok more) → Grows old.now new.now was
makes_both old middle new count more was record_ran line_ran =
    let one = makes_record old middle count was record_ran in
    let two = makes_line middle new more one.store one.there line_ran in
    record { store = two.store; both = two.both; records = two.records ∙ one.records; lines = two.lines ∙ one.lines }
