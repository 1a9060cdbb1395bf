-- What a change makes of the map.
use Rattle.std.proofs.Common.{◌≡◌, ◌≢◌, inl, inr, ℕ, List, ◌∷◌, Bool, true, false, cond, Some, None, Ok, refl, sym, ap, subst, ◌∙◌, true≢false}
use Rattle.std.proofs.lemmas.Bool.{cases_Bool}
use Rattle.sqlite_value.specs.declared.value.Value.TheVariants.{Int}
use Rattle.sqlite_value.specs.Order.{Row, column}
use Rattle.sqlite_catalog.specs.Listing.{IsSound}
use Rattle.sqlite.specs.Effect.{Database}
use Rattle.sqlite.specs.State.{State, Executes}
use Rattle.fpl_base.specs.declared.records.RecordKey.{RecordKey as Key}
use Rattle.fpl_base.specs.Keeping.{Map, is_same_key}
use Rattle.fpl_base.proofs.KeyLemmas.{same_key, same_key_self}
use Rattle.season_keeper.specs.Table.{schema_of, two}
use Rattle.season_keeper.specs.Rows.{record_values, LineKey, line_key, line_values, AreRows, Stores, Stored, HasNoLine}
use Rattle.season_keeper.specs.Holding.{Holds, Keeps}
use Rattle.season_keeper.proofs.Texts.{record_filter, line_filter, put_record, put_line, delete_record, delete_line, put_record_means, put_line_means, delete_record_means, delete_line_means, record_tree, line_tree}
use Rattle.season_keeper.proofs.Forms.{Form, record_form, line_form, is_hit, hit_self, hit_key, once}
use Rattle.season_keeper.proofs.Deleting.{Writes, Removed, deletes}
use Rattle.season_keeper.proofs.Putting.{Put, upserts}
use Rattle.season_keeper.proofs.Upserting.{record_putting, line_putting}
use Rattle.season_keeper.proofs.TwoTables.{Pair, pair_of, store_of}
use Rattle.season_keeper.proofs.Moving.{at_of, body_same}

-- this body stands under the key now, and under the others what stood there
pub record IsPut (old new : Key → List ℕ → Type 0) (k : Key) (body : List ℕ) : Type 0 where
  pub there : new k body
  pub only : (more : List ℕ) → new k more → more ≡ body
  pub others : (other : Key) (more : List ℕ) → other ≢ k → new other more → old other more
  pub kept : (other : Key) (more : List ℕ) → other ≢ k → old other more → new other more

-- nothing stands under the key now, and under the others what stood there
pub record IsDeleted (old new : Key → List ℕ → Type 0) (k : Key) : Type 0 where
  pub gone : (more : List ℕ) → new k more → ⊥
  pub others : (other : Key) (more : List ℕ) → other ≢ k → new other more → old other more
  pub kept : (other : Key) (more : List ℕ) → other ≢ k → old other more → new other more

apart_from : (k m : Key) → is_same_key k m ≡ false → m ≢ k
apart_from k m h same = true≢false (sym (subst (λ q. is_same_key k q ≡ true) (sym same) (same_key_self k)) ∙ h)

module _ (records lines new_records new_lines : List Row) (m : Map) (k : Key) (holds : Holds records lines m) where
  pub holds_put : (body : List ℕ) → IsPut (Stored records lines) (Stored new_records new_lines) k body → Holds new_records new_lines (λ other. cond (is_same_key k other) (Some body) (m other))
  holds_put body put = record {
    sound = λ other more h. elim (cases_Bool (is_same_key k other)) [
      | inl hit ↦ rw hit (ap Some (sym (put.only more (subst (λ q. Stored new_records new_lines q more) (sym (same_key k other hit)) h))))
      | inr miss ↦ rw miss (holds.sound other more (put.others other more (apart_from k other miss) h))
    ];
    complete = λ other more h. elim (cases_Bool (is_same_key k other)) [
      | inl hit ↦
          let body_is : Some body ≡ Some more = rw hit at h in
          let same : body ≡ more = cc in
          subst (λ q. Stored new_records new_lines q more) (same_key k other hit) (subst (Stored new_records new_lines k) same put.there)
      | inr miss ↦ put.kept other more (apart_from k other miss) (holds.complete other more (rw miss at h))
    ];
  }

  pub holds_deleted : IsDeleted (Stored records lines) (Stored new_records new_lines) k → Holds new_records new_lines (λ other. cond (is_same_key k other) None (m other))
  holds_deleted gone = record {
    sound = λ other more h. elim (cases_Bool (is_same_key k other)) [
      | inl hit ↦ absurd (gone.gone more (subst (λ q. Stored new_records new_lines q more) (sym (same_key k other hit)) h))
      | inr miss ↦ rw miss (holds.sound other more (gone.others other more (apart_from k other miss) h))
    ];
    complete = λ other more h. elim (cases_Bool (is_same_key k other)) [
      | inl hit ↦ absurd (let e = rw hit at h in cc)
      | inr miss ↦ gone.kept other more (apart_from k other miss) (holds.complete other more (rw miss at h))
    ];
  }

-- ---- one body under a key

one_record : (first : Bool) (db : Database) → Pair first db → (k : Key) (x y : List ℕ) → Stores record_values (db.trees (record_tree first)) k x → Stores record_values (db.trees (record_tree first)) k y → x ≡ y
one_record first db pair k x y h g =
    let id = once (record_form first) db.trees h.0 g.0 k x y (subst (λ s. IsSound s db.trees) pair.schema pair.sound) h.1 g.1 in
    body_same x y (ap (λ (r : Row). column r 5) (pair.records.ids _ _ h.1 g.1 (ap Int id)))

one_line : (first : Bool) (db : Database) → Pair first db → (at : LineKey) (x y : List ℕ) → Stores line_values (db.trees (line_tree first)) at x → Stores line_values (db.trees (line_tree first)) at y → x ≡ y
one_line first db pair at x y h g =
    let id = once (line_form first) db.trees h.0 g.0 at x y (subst (λ s. IsSound s db.trees) pair.schema pair.sound) h.1 g.1 in
    body_same x y (ap (λ (r : Row). column r 4) (pair.lines.ids _ _ h.1 g.1 (ap Int id)))

-- ---- a change of one table

-- what it removes is what stood under the key
removed_gone : (F : Form) (rows new : List Row) (k : F.K) → Removed rows new (is_hit F k) → (body : List ℕ) → Stores F.values new k body → ⊥
removed_gone F rows new k removed body h = true≢false (sym (hit_self F k h.0 body) ∙ (removed.from _ h.1).1)

removed_others : (F : Form) (rows new : List Row) (k : F.K) → Removed rows new (is_hit F k) → (other : F.K) (body : List ℕ) → Stores F.values new other body → Stores F.values rows other body
removed_others F rows new k removed other body h = (h.0, (removed.from _ h.1).0)

removed_kept : (F : Form) (rows new : List Row) (k : F.K) → Removed rows new (is_hit F k) → (other : F.K) (body : List ℕ) → other ≢ k → Stores F.values rows other body → Stores F.values new other body
removed_kept F rows new k removed other body apart h = (h.0, removed.kept _ h.1 (missed (is_hit F k _) refl))
  where
    missed : (b : Bool) → is_hit F k (Int h.0 ∷ F.values other body) ≡ b → is_hit F k (Int h.0 ∷ F.values other body) ≡ false
    missed true hit = absurd (apart (hit_key F k other h.0 body hit))
    missed false miss = miss

removed_rows : (F : Form) (rows new : List Row) (hit : Row → Bool) → Removed rows new hit → AreRows F.values rows → AreRows F.values new
removed_rows F rows new hit removed sound = record { each = λ r h. sound.each r (removed.from r h).0; ids = λ r s h g e. sound.ids r s (removed.from r h).0 (removed.from s g).0 e }

module _ (first : Bool) (old new : Database) (pair : Pair first old) where
  abbrev Before : Key → List ℕ → Type 0
  Before = Stored (old.trees (record_tree first)) (old.trees (line_tree first))

  abbrev After : Key → List ℕ → Type 0
  After = Stored (new.trees (record_tree first)) (new.trees (line_tree first))

  -- `record` was written, and `line` has its rows
  module _ (writes : Writes (record_form first) old new) (rows : AreRows record_values (new.trees (record_tree first))) where
    pub record_pair : Pair first new
    record_pair = record { schema = writes.schema; sound = writes.sound; records = rows; lines = subst (AreRows line_values) (sym writes.other) pair.lines }

    same_line : (k : Key) (body : List ℕ) → (at : LineKey) × (k ≡ line_key at) × Stores line_values (new.trees (line_tree first)) at body
        → (at : LineKey) × (k ≡ line_key at) × Stores line_values (old.trees (line_tree first)) at body
    same_line k body h = (h.0, h.1, subst (λ l. Stores line_values l h.0 body) writes.other h.2)

    line_same : (k : Key) (body : List ℕ) → (at : LineKey) × (k ≡ line_key at) × Stores line_values (old.trees (line_tree first)) at body
        → (at : LineKey) × (k ≡ line_key at) × Stores line_values (new.trees (line_tree first)) at body
    line_same k body h = (h.0, h.1, subst (λ l. Stores line_values l h.0 body) (sym writes.other) h.2)

    pub record_put : (k : Key) (body : List ℕ) → k.kind ≢ 5 → Put record_values (old.trees (record_tree first)) (new.trees (record_tree first)) k body → IsPut Before After k body
    record_put k body kind put = record {
      there = inl put.there;
      only = λ more h. elim h [
        | inl stores ↦ one_record first new record_pair k more body stores put.there
        | inr line ↦ absurd (kind (ap (λ (q : Key). q.kind) line.1))
      ];
      others = λ other more apart h. elim h [ inl stores ↦ inl (put.others other more apart stores) | inr line ↦ inr (same_line other more line) ];
      kept = λ other more apart h. elim h [ inl stores ↦ inl (put.kept other more apart stores) | inr line ↦ inr (line_same other more line) ];
    }

    pub record_put_moved : (k : Key) (body : List ℕ) → k.kind ≢ 5 → Put record_values (old.trees (record_tree first)) (new.trees (record_tree first)) k body → HasNoLine (old.trees (record_tree first))
        → HasNoLine (new.trees (record_tree first))
    record_put_moved k body kind put moved other more stores = elim (cases_Bool (is_same_key k other)) [
      | inl hit ↦ λ five. kind (ap (λ (q : Key). q.kind) (same_key k other hit) ∙ five)
      | inr miss ↦ moved other more (put.others other more (apart_from k other miss) stores)
    ]

    pub record_deleted : (k : Key) → k.kind ≢ 5 → Removed (old.trees (record_tree first)) (new.trees (record_tree first)) (is_hit (record_form first) k) → IsDeleted Before After k
    record_deleted k kind removed = record {
      gone = λ more h. elim h [
        | inl stores ↦ removed_gone (record_form first) (old.trees (record_tree first)) _ k removed more stores
        | inr line ↦ kind (ap (λ (q : Key). q.kind) line.1)
      ];
      others = λ other more apart h. elim h [ inl stores ↦ inl (removed_others (record_form first) _ _ k removed other more stores) | inr line ↦ inr (same_line other more line) ];
      kept = λ other more apart h. elim h [ inl stores ↦ inl (removed_kept (record_form first) _ _ k removed other more apart stores) | inr line ↦ inr (line_same other more line) ];
    }

  -- `line` was written, and `record` has its rows
  module _ (writes : Writes (line_form first) old new) (rows : AreRows line_values (new.trees (line_tree first))) where
    pub line_pair : Pair first new
    line_pair = record { schema = writes.schema; sound = writes.sound; records = subst (AreRows record_values) (sym writes.other) pair.records; lines = rows }

    pub line_moved : HasNoLine (old.trees (record_tree first)) → HasNoLine (new.trees (record_tree first))
    line_moved moved = subst HasNoLine (sym writes.other) moved

    same_record : (k : Key) (body : List ℕ) → Stores record_values (new.trees (record_tree first)) k body → Stores record_values (old.trees (record_tree first)) k body
    same_record k body h = subst (λ l. Stores record_values l k body) writes.other h

    record_same : (k : Key) (body : List ℕ) → Stores record_values (old.trees (record_tree first)) k body → Stores record_values (new.trees (record_tree first)) k body
    record_same k body h = subst (λ l. Stores record_values l k body) (sym writes.other) h

    -- another key has other numbers
    other_at : (at to : LineKey) (other : Key) → other ≢ line_key at → other ≡ line_key to → to ≢ at
    other_at at to other apart is same = apart (is ∙ ap line_key same)

    pub line_put : (at : LineKey) (body : List ℕ) → HasNoLine (old.trees (record_tree first)) → Put line_values (old.trees (line_tree first)) (new.trees (line_tree first)) at body → IsPut Before After (line_key at) body
    line_put at body moved put = record {
      there = inr (at, refl, put.there);
      only = λ more h. elim h [
        | inl stores ↦ absurd (moved _ more (same_record _ more stores) refl)
        | inr line ↦ one_line first new line_pair at more body (subst (λ (q : LineKey). Stores line_values (new.trees (line_tree first)) q more) (sym (ap at_of line.1)) line.2) put.there
      ];
      others = λ other more apart h. elim h [ inl stores ↦ inl (same_record other more stores) | inr line ↦ inr (line.0, line.1, put.others line.0 more (other_at at line.0 other apart line.1) line.2) ];
      kept = λ other more apart h. elim h [ inl stores ↦ inl (record_same other more stores) | inr line ↦ inr (line.0, line.1, put.kept line.0 more (other_at at line.0 other apart line.1) line.2) ];
    }

    pub line_deleted : (at : LineKey) → HasNoLine (old.trees (record_tree first)) → Removed (old.trees (line_tree first)) (new.trees (line_tree first)) (is_hit (line_form first) at)
        → IsDeleted Before After (line_key at)
    line_deleted at moved removed = record {
      gone = λ more h. elim h [
        | inl stores ↦ moved _ more (same_record _ more stores) refl
        | inr line ↦ removed_gone (line_form first) (old.trees (line_tree first)) _ at removed more (subst (λ (q : LineKey). Stores line_values (new.trees (line_tree first)) q more) (sym (ap at_of line.1)) line.2)
      ];
      others = λ other more apart h. elim h [ inl stores ↦ inl (same_record other more stores) | inr line ↦ inr (line.0, line.1, removed_others (line_form first) _ _ at removed line.0 more line.2) ];
      kept = λ other more apart h. elim h [
        | inl stores ↦ inl (record_same other more stores)
        | inr line ↦ inr (line.0, line.1, removed_kept (line_form first) _ _ at removed line.0 more (other_at at line.0 other apart line.1) line.2)
      ];
    }

-- ---- the four statements

pub record PairKeeps (first : Bool) (db : Database) (m : Map) : Type 0 where
  pub pair : Pair first db
  pub moved : HasNoLine (db.trees (record_tree first))
  pub holds : Holds (db.trees (record_tree first)) (db.trees (line_tree first)) m

pub holds_as : {records lines new_records new_lines : List Row} {m : Map} → records ≡ new_records → lines ≡ new_lines → Holds records lines m → Holds new_records new_lines m
holds_as {lines = lines} {new_records = new_records} {m = m} r l h = subst (λ rows. Holds new_records rows m) l (subst (λ rows. Holds rows lines m) r h)

keeps_pair : (db : Database) (m : Map) → Keeps db m → (first : Bool) × PairKeeps first db m
keeps_pair db m keeps =
    let of = pair_of db keeps.store keeps.both in (
      of.0,
      record {
        pair = of.1.pair;
        moved = subst HasNoLine of.1.records_are keeps.moved;
        holds = holds_as of.1.records_are of.1.lines_are keeps.holds;
      },
    )

pair_keeps : (first : Bool) (db : Database) (m : Map) → PairKeeps first db m → Keeps db m
pair_keeps first db m it =
    let end = store_of first db it.pair in
    record {
      store = end.0;
      both = end.1;
      moved = subst HasNoLine (sym end.2.records_are) it.moved;
      holds = holds_as (sym end.2.records_are) (sym end.2.lines_are) it.holds;
    }

module _ (old new : State) (count : ℕ) (m : Map) (keeps : Keeps old.now m) where
  abbrev of : (first : Bool) × PairKeeps first old.now m
  of = keeps_pair old.now m keeps

  lawful : IsSound (schema_of (two of.0)) old.now.trees
  lawful = subst (λ s. IsSound s old.now.trees) of.1.pair.schema of.1.pair.sound

  pub puts_record : (k : Key) (body : List ℕ) → k.kind ≢ 5 → Executes put_record (record_values k body) old new (Ok count) → Keeps new.now (λ other. cond (is_same_key k other) (Some body) (m other))
  puts_record k body kind h =
      let first = of.0 in
      let it = of.1 in
      let did = upserts (record_form first) (record_putting first) put_record k body (put_record_means first) old new count it.pair.schema lawful it.pair.records h in
      pair_keeps first new.now _ (record {
        pair = record_pair first old.now new.now it.pair did.0 did.1;
        moved = record_put_moved first old.now new.now it.pair did.0 did.1 k body kind did.2 it.moved;
        holds = holds_put _ _ _ _ m k it.holds body (record_put first old.now new.now it.pair did.0 did.1 k body kind did.2);
      })

  pub puts_line : (at : LineKey) (body : List ℕ) → Executes put_line (line_values at body) old new (Ok count) → Keeps new.now (λ other. cond (is_same_key (line_key at) other) (Some body) (m other))
  puts_line at body h =
      let first = of.0 in
      let it = of.1 in
      let did = upserts (line_form first) (line_putting first) put_line at body (put_line_means first) old new count it.pair.schema lawful it.pair.lines h in
      pair_keeps first new.now _ (record {
        pair = line_pair first old.now new.now it.pair did.0 did.1;
        moved = line_moved first old.now new.now it.pair did.0 did.1 it.moved;
        holds = holds_put _ _ _ _ m (line_key at) it.holds body (line_put first old.now new.now it.pair did.0 did.1 at body it.moved did.2);
      })

  pub deletes_record : (k : Key) → k.kind ≢ 5 → Executes delete_record ((record_form false).key_row k) old new (Ok count) → Keeps new.now (λ other. cond (is_same_key k other) None (m other))
  deletes_record k kind h =
      let first = of.0 in
      let it = of.1 in
      let did = deletes (record_form first) delete_record record_filter ((record_form false).key_row k) (delete_record_means first) old new count it.pair.schema it.pair.records h in
      let rows = removed_rows (record_form first) _ _ _ did.1 it.pair.records in
      pair_keeps first new.now _ (record {
        pair = record_pair first old.now new.now it.pair did.0 rows;
        moved = λ other more stores. it.moved other more (removed_others (record_form first) _ _ k did.1 other more stores);
        holds = holds_deleted _ _ _ _ m k it.holds (record_deleted first old.now new.now it.pair did.0 rows k kind did.1);
      })

  pub deletes_line : (at : LineKey) → Executes delete_line ((line_form false).key_row at) old new (Ok count) → Keeps new.now (λ other. cond (is_same_key (line_key at) other) None (m other))
  deletes_line at h =
      let first = of.0 in
      let it = of.1 in
      let did = deletes (line_form first) delete_line line_filter ((line_form false).key_row at) (delete_line_means first) old new count it.pair.schema it.pair.lines h in
      let rows = removed_rows (line_form first) _ _ _ did.1 it.pair.lines in
      pair_keeps first new.now _ (record {
        pair = line_pair first old.now new.now it.pair did.0 rows;
        moved = line_moved first old.now new.now it.pair did.0 rows it.moved;
        holds = holds_deleted _ _ _ _ m (line_key at) it.holds (line_deleted first old.now new.now it.pair did.0 rows at it.moved did.1);
      })
