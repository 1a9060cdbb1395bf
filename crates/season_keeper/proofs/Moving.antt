-- What the move of the lines does.
use Rattle.std.proofs.Common.{◌≡◌, ◌≢◌, ◌⊎◌, inl, inr, ℕ, ℤ, pos, List, [], ◌∷◌, map, drop, Bool, true, false, true≢false, Option, None, Ok, refl, sym, ap, subst, ◌∙◌, int_eq}
use Rattle.std.specs.Ordering.{is_eq}
use Rattle.std.proofs.lemmas.Bool.{and_parts, and_from, not-true, cases_Bool}
use Rattle.std.proofs.lemmas.Cmp.{tied_itself}
use Rattle.std.proofs.lemmas.Bool.Decides.{Decides-int_eq}
use Rattle.sqlite_value.specs.declared.value.Value.TheVariants.{Null, Int, Blob}
use Rattle.sqlite_value.specs.declared.keys.Collation.TheVariants.{Binary}
use Rattle.sqlite_value.specs.Order.{Row, column, value_cmp}
use Rattle.sqlite_value.proofs.OrderLemmas.{value_cmp_total}
use Rattle.sqlite_trees.specs.Tree.{Trees, rowid, put_row}
use Rattle.sqlite_sql.specs.declared.ops.CompareOp.TheVariants.{Eq}
use Rattle.sqlite_sql.specs.Query.{IsAnswer}
use Rattle.sqlite_sql.specs.Program.{overlay}
use Rattle.sqlite_schema.specs.declared.command.Source.TheVariants as source
use Rattle.sqlite_schema.specs.declared.command.Command.TheVariants.{Insert}
use Rattle.sqlite_schema.specs.declared.schema.Table.{Table}
use Rattle.sqlite_typed.proofs.TestLemmas.{at_ints}
use Rattle.sqlite_rules.specs.Lists.{Has}
use Rattle.sqlite_rules.specs.Cast.{cast_row}
use Rattle.sqlite_rules.specs.Edit.{with_rowid, numbered, put_all, is_taken, are_fresh, next_rowid}
use Rattle.sqlite_rules.specs.declared.error.Rowids.TheVariants.{Chosen}
use Rattle.sqlite_rules.proofs.ListLemmas.{some_from}
use Rattle.sqlite_rules.proofs.TableLemmas.{put_has, put_all_has, put_all_keeps, put_all_adds}
use Rattle.sqlite.specs.Rows.{Written}
use Rattle.sqlite.specs.Does.{Tally, Does, AtPlace, OnRows}
use Rattle.sqlite.specs.Effect.{Database}
use Rattle.sqlite.specs.Listing.{understood}
use Rattle.sqlite.specs.State.{State, mode_of, Executes}
use Rattle.sqlite.proofs.Callers.{statement_of, runs_as}
use Rattle.fpl_base.specs.declared.records.RecordKey.{RecordKey as Key}
use Rattle.season_keeper.specs.Table.{two, are_both}
use Rattle.season_keeper.specs.Holding.{Store, Grows, Moves}
use Rattle.season_keeper.specs.Rows.{record_values, LineKey, line_key, line_values, AreRows, Stores, Stored, AreApart, HasNoLine}
use Rattle.season_keeper.proofs.Texts.{asking, program, is_kind, as_line, insert_lines, insert_lines_means, clear_lines, clear_lines_means, record_tree, line_tree, line_place}
use Rattle.season_keeper.proofs.Lists.{has_mapped, mapped_has}
use Rattle.season_keeper.proofs.Forms.{record_form, line_form, hits, shown_of, shown_was, record_bare, and_true, was_shown, once, pos_same}
use Rattle.season_keeper.proofs.Deleting.{went, same_value, step_of, Writes, deletes, Removed}
use Rattle.season_keeper.proofs.Putting.{cast_null}
use Rattle.season_keeper.proofs.Upserting.{line_cast}
use Rattle.season_keeper.proofs.TwoTables.{Pair, pair_of, store_of}

-- ---- fresh rowids

taken : (rows : List Row) (new r : Row) → Has rows r → rowid r ≡ rowid new → is_taken rows new ≡ true
taken rows new r h same = some_from (λ q. is_eq (value_cmp (rowid q) (rowid new))) rows r h (ap (λ v. is_eq (value_cmp v (rowid new))) same ∙ ap is_eq (tied_itself value_cmp_total (rowid new)))

head_fresh : (rows : List Row) (new : Row) (news : List Row) → are_fresh rows (new ∷ news) ≡ true → (r : Row) → Has rows r → rowid r ≢ rowid new
head_fresh rows new news fresh r h same = true≢false (sym (taken rows new r h same) ∙ not-true _ (and_parts _ _ fresh).0)

put_keeps : (rows : List Row) (new : Row) (news : List Row) → are_fresh rows (new ∷ news) ≡ true → (r : Row) → Has rows r → Has (put_row new rows) r
put_keeps rows new news fresh r h = put_all_keeps (new ∷ []) rows r (and_from _ _ (and_parts _ _ fresh).0 refl) h

-- no new row has the rowid of a row that was there
news_fresh : (news rows : List Row) → are_fresh rows news ≡ true → (n r : Row) → Has news n → Has rows r → rowid r ≢ rowid n
news_fresh [] rows fresh n r h g same = absurd h
news_fresh (new ∷ news) rows fresh n r (inl is) g same = head_fresh rows new news fresh r g (same ∙ ap rowid is)
news_fresh (new ∷ news) rows fresh n r (inr later) g same = news_fresh news (put_row new rows) (and_parts _ _ fresh).1 n r later (put_keeps rows new news fresh r g) same

abbrev AreOne : List Row → Type 0
AreOne rows = (r s : Row) → Has rows r → Has rows s → rowid r ≡ rowid s → r ≡ s

-- and no rowid comes twice among them all
all_one : (news rows : List Row) → are_fresh rows news ≡ true → AreOne rows → AreOne (put_all rows news)
all_one [] rows fresh one = one
all_one (new ∷ news) rows fresh one = all_one news (put_row new rows) (and_parts _ _ fresh).1 (λ r s h g e. elim (put_has new rows r h) [
  | inl is ↦ elim (put_has new rows s g) [ inl also ↦ is ∙ sym also | inr was ↦ absurd (head_fresh rows new news fresh s was (sym e ∙ ap rowid is)) ]
  | inr was ↦ elim (put_has new rows s g) [ inl is ↦ absurd (head_fresh rows new news fresh r was (e ∙ ap rowid is)) | inr also ↦ one r s was also e ]
])

-- ---- chosen rowids

numbered_has : (news rows : List Row) (x : Row) → Has (numbered Chosen rows news) x → (s : Row) × (before : List Row) × Has news s × (x ≡ with_rowid Chosen before s)
numbered_has [] rows x h = absurd h
numbered_has (s ∷ news) rows x (inl same) = (s, rows, inl refl, same)
numbered_has (s ∷ news) rows x (inr later) = let it = numbered_has news (put_row (with_rowid Chosen rows s) rows) x later in (it.0, it.1, inr it.2, it.3)

has_numbered : (news rows : List Row) (s : Row) → Has news s → (before : List Row) × Has (numbered Chosen rows news) (with_rowid Chosen before s)
has_numbered [] rows s h = absurd h
has_numbered (t ∷ news) rows s (inl same) = (rows, inl (ap (with_rowid Chosen rows) same))
has_numbered (t ∷ news) rows s (inr later) = let it = has_numbered news (put_row (with_rowid Chosen rows t) rows) s later in (it.0, inr it.1)

-- ---- the records of kind 5

abbrev is_line : Row → Bool
is_line = hits (is_kind Eq) []

kind_is : (id : ℤ) (k : Key) (body : List ℕ) → is_line (Int id ∷ record_values k body) ≡ int_eq (pos k.kind) (pos 5)
kind_is id k body = and_true _ ∙ at_ints false Eq (pos k.kind) (pos 5)

line_is : (id : ℤ) (at : LineKey) (body : List ℕ) → is_line (Int id ∷ record_values (line_key at) body) ≡ true
line_is id at body = kind_is id (line_key at) body

abbrev pub at_of : Key → LineKey
at_of k = record { a = k.a; b = k.b; c = k.c }

pub key_of_kind : (k : Key) → k.kind ≡ 5 → k ≡ line_key (at_of k)
key_of_kind k five = λ i. record { kind = five i; a = k.a; b = k.b; c = k.c }

-- the lines have these records too
pub record Inserted (records old new : List Row) : Type 0 where
  pub from : (x : Row) → Has new x → Has old x ⊎ ((id : ℤ) × (at : LineKey) × (body : List ℕ) × (x ≡ Int id ∷ line_values at body) × Stores record_values records (line_key at) body)
  pub kept : (x : Row) → Has old x → Has new x
  pub copied : (at : LineKey) (body : List ℕ) → Stores record_values records (line_key at) body → (id : ℤ) × Has new (Int id ∷ line_values at body) × ((r : Row) → Has old r → rowid r ≢ Int id)
  pub ids : AreOne new

module _ (tree : ℕ) (records lines : List Row) (each : AreRows record_values records) (sound : AreRows line_values lines) (out : List Row)
    (shown : (x : Row) → Has out x → (r : Row) × Has records r × (is_line r ≡ true) × (x ≡ shown_of as_line [] r))
    (listed : (r : Row) → Has records r → is_line r ≡ true → Has out (shown_of as_line [] r)) where
  abbrev table : Table
  table = Rattle.season_keeper.specs.Table.line_table tree

  abbrev stored_by : Row → Row
  stored_by s = cast_row table (drop 0 s)

  abbrev news : List Row
  news = numbered Chosen lines (map stored_by out)

  unnumbered : (at : LineKey) (body : List ℕ) → stored_by (Null ∷ line_values at body) ≡ Null ∷ line_values at body
  unnumbered at body = line_cast tree Null at body ∙ ap (λ v. v ∷ line_values at body) cast_null

  inserted : are_fresh lines news ≡ true → Inserted records lines (put_all lines news)
  inserted fresh = record {
    from = λ x h. elim (put_all_has news lines x h) [
      | inr was ↦ inl was
      | inl new ↦ inr (
          let n = numbered_has (map stored_by out) lines x new in
          let s = has_mapped stored_by out n.0 n.2 in
          let it = shown s.0 s.1 in
          let r = each.each it.0 it.1 in
          let five : r.key.kind ≡ 5 = pos_same r.key.kind 5 (sym (kind_is r.id r.key r.body) ∙ ap is_line (sym r.is) ∙ it.2) in
          let source : s.0 ≡ Null ∷ line_values (at_of r.key) r.body = it.3 ∙ ap (shown_of as_line []) r.is in
          let stored : n.0 ≡ Null ∷ line_values (at_of r.key) r.body = s.2 ∙ ap stored_by source ∙ unnumbered (at_of r.key) r.body in (
            next_rowid n.1,
            at_of r.key,
            r.body,
            n.3 ∙ ap (with_rowid Chosen n.1) stored,
            (r.id, subst (Has records) (r.is ∙ ap (λ k. Int r.id ∷ record_values k r.body) (key_of_kind r.key five)) it.1),
          ))
    ];
    kept = λ x h. put_all_keeps news lines x fresh h;
    copied = λ at body stores.
        let source = listed _ stores.1 (line_is stores.0 at body) in
        let mapped = subst (Has (map stored_by out)) (unnumbered at body) (mapped_has stored_by out _ source) in
        let it = has_numbered (map stored_by out) lines _ mapped in
        (next_rowid it.0, put_all_adds news lines _ fresh it.1, λ r h. news_fresh news lines fresh _ r it.1 h);
    ids = all_one news lines fresh sound.ids;
  }

-- ---- the two statements

pub inserts_lines : (first : Bool) (old new : State) (count : ℕ) → Pair first old.now → Executes insert_lines [] old new (Ok count)
    → Writes (line_form first) old.now new.now × Inserted (old.now.trees (record_tree first)) (old.now.trees (line_tree first)) (new.now.trees (line_tree first))
inserts_lines first old new count pair h =
    let F = line_form first in
    let db = old.now.trees in
    let query = asking (record_tree first) (is_kind Eq) as_line (Binary ∷ Binary ∷ Binary ∷ Binary ∷ Binary ∷ []) [] in
    let command = Insert (line_place first) (source.Query (program query)) in
    let means = insert_lines_means first in
    let w = runs_as insert_lines [] old new F.schema pair.schema command means.command_is means.plain count h in
    let text = statement_of insert_lines (understood F.schema insert_lines) in
    let changed = subst (λ s. Does old.step_limit (mode_of old) [] (record old.now { schema = s }) text None command (Ok (w.tally, new.now))) pair.schema w.changed in
    let placed = subst (λ (o : Option Table). AtPlace (λ table. OnRows (record { limit = old.step_limit; keys = (mode_of old).keys; schema = F.schema; table = table; params = [] }) (mode_of old) None command db) o (Ok (w.tally, new.now))) F.there changed in
    let done = went placed in
    let now = ap (λ (p : Tally × Database). p.1) (same_value (went (went done.2).2).2) in
    let found = went done.1 in
    let answer : IsAnswer query (overlay db []) [] found.0 = found.1.answer Null in
    let counted = went found.2 in
    let edited = went counted.2 in
    let step = step_of F (mode_of old).keys db edited.0 [] Chosen 0 found.0 edited.1 in
    let last = went edited.2 in
    let all : new.now.trees ≡ edited.0 = ap (λ (d : Database). d.trees) now ∙ ap (λ (w : Written). w.trees) (same_value last.2) ∙ same_value last.1 in
    let rows = ap (λ (t : Trees). t (line_tree first)) all ∙ step.rows in (
      record { schema = ap (λ (d : Database). d.schema) now; sound = w.sound; other = ap (λ (t : Trees). t F.other) all ∙ F.others db edited.0 step.tables },
      subst (Inserted (db (record_tree first)) (db (line_tree first))) (sym rows)
          (inserted (line_tree first) (db (record_tree first)) (db (line_tree first)) pair.records pair.lines found.0 (shown_was (record_tree first) (is_kind Eq) as_line _ [] db (record_bare first db) [] found.0 answer)
          (was_shown (record_tree first) (is_kind Eq) as_line _ [] db (record_bare first db) [] found.0 answer) step.fresh),
    )

-- `record` has no line any more
pub clears_lines : (first : Bool) (old new : State) (count : ℕ) → Pair first old.now → Executes clear_lines [] old new (Ok count)
    → Writes (record_form first) old.now new.now × Removed (old.now.trees (record_tree first)) (new.now.trees (record_tree first)) is_line
clears_lines first old new count pair h = deletes (record_form first) clear_lines (is_kind Eq) [] (clear_lines_means first) old new count pair.schema pair.records h

-- ---- what stands where

module _ (first : Bool) (before middle after : Database) (pair : Pair first before) (copied : Writes (line_form first) before middle)
    (lines : Inserted (before.trees (record_tree first)) (before.trees (line_tree first)) (middle.trees (line_tree first))) where
  lines_rows : AreRows line_values (middle.trees (line_tree first))
  lines_rows = record {
    each = λ r h. elim (lines.from r h) [ inl was ↦ pair.lines.each r was | inr new ↦ record { id = new.0; key = new.1; body = new.2; is = new.3 } ];
    ids = lines.ids;
  }

  pub copied_pair : Pair first middle
  copied_pair = record { schema = copied.schema; sound = copied.sound; records = subst (AreRows record_values) (sym copied.other) pair.records; lines = lines_rows }

  -- a key in both tables would stand twice in `line`
  pub were_apart : AreApart (before.trees (record_tree first)) (before.trees (line_tree first))
  were_apart at x y record_has line_has =
      let new = lines.copied at x record_has in
      let old = lines.kept _ line_has.1 in
      let same = once (line_form first) middle.trees new.0 line_has.0 at x y (subst (λ s. Rattle.sqlite_catalog.specs.Listing.IsSound s middle.trees) copied.schema copied.sound) new.1 old in
      new.2 _ line_has.1 (ap Int (sym same))

number_same : (m n : ℕ) → Int (pos m) ≡ Int (pos n) → m ≡ n
number_same m n h = cc

pub body_same : (x y : List ℕ) → Blob x ≡ Blob y → x ≡ y
body_same x y h = cc

pub line_same : (i j : ℤ) (at to : LineKey) (x y : List ℕ) → Int i ∷ line_values at x ≡ Int j ∷ line_values to y → (at ≡ to) × (x ≡ y)
line_same i j at to x y h =
    let a = number_same at.a to.a (ap (λ (r : Row). column r 1) h) in
    let b = number_same at.b to.b (ap (λ (r : Row). column r 2) h) in
    let c = number_same at.c to.c (ap (λ (r : Row). column r 3) h) in
    (λ i. record { a = a i; b = b i; c = c i }, body_same x y (ap (λ (r : Row). column r 4) h))

-- rows that are the same have the same records
pub stored_as : {records lines new_records new_lines : List Row} → records ≡ new_records → lines ≡ new_lines → (k : Key) (body : List ℕ) → Stored records lines k body → Stored new_records new_lines k body
stored_as {lines = lines} {new_records = new_records} r l k body h = subst (λ rows. Stored new_records rows k body) l (subst (λ rows. Stored rows lines k body) r h)

-- both statements together
module _ (first : Bool) (before middle after : Database) (pair : Pair first before) (copied : Writes (line_form first) before middle)
    (lines : Inserted (before.trees (record_tree first)) (before.trees (line_tree first)) (middle.trees (line_tree first))) (cleared : Writes (record_form first) middle after)
    (removed : Removed (middle.trees (record_tree first)) (after.trees (record_tree first)) is_line) where
  was_record : (x : Row) → Has (after.trees (record_tree first)) x → Has (before.trees (record_tree first)) x
  was_record x h = subst (λ l. Has l x) copied.other (removed.from x h).0

  pub moved_pair : Pair first after
  moved_pair = record {
    schema = cleared.schema;
    sound = cleared.sound;
    records = record { each = λ r h. pair.records.each r (was_record r h); ids = λ r s h g e. pair.records.ids r s (was_record r h) (was_record s g) e };
    lines = subst (AreRows line_values) (sym cleared.other) (copied_pair first before middle after pair copied lines).lines;
  }

  pub no_line : HasNoLine (after.trees (record_tree first))
  no_line k body stores five = true≢false (sym (kind_is stores.0 k body ∙ (Decides-int_eq (pos k.kind) (pos 5)).1 (ap pos five)) ∙ (removed.from _ stores.1).1)

  now_line : (x : Row) → Has (middle.trees (line_tree first)) x → Has (after.trees (line_tree first)) x
  now_line x h = subst (λ l. Has l x) (sym cleared.other) h

  pub moved_back : (k : Key) (body : List ℕ) → Stored (after.trees (record_tree first)) (after.trees (line_tree first)) k body → Stored (before.trees (record_tree first)) (before.trees (line_tree first)) k body
  moved_back k body (inl stores) = inl (stores.0, was_record _ stores.1)
  moved_back k body (inr line) = elim (lines.from _ (subst (λ l. Has l (Int line.2.0 ∷ line_values line.0 body)) cleared.other line.2.1)) [
    | inl was ↦ inr (line.0, line.1, (line.2.0, was))
    | inr new ↦
        let same = line_same line.2.0 new.0 line.0 new.1 body new.2 new.3 in
        inl (subst (λ q. Stores record_values (before.trees (record_tree first)) q body) (ap line_key (sym same.0) ∙ sym line.1)
        (subst (Stores record_values (before.trees (record_tree first)) (line_key new.1)) (sym same.1) new.4))
  ]

  pub moved_forth : (k : Key) (body : List ℕ) → Stored (before.trees (record_tree first)) (before.trees (line_tree first)) k body → Stored (after.trees (record_tree first)) (after.trees (line_tree first)) k body
  moved_forth k body (inr line) = inr (line.0, line.1, (line.2.0, now_line _ (lines.kept _ line.2.1)))
  moved_forth k body (inl stores) = elim (cases_Bool (is_line (Int stores.0 ∷ record_values k body))) [
    | inl five ↦
        let key = key_of_kind k (pos_same k.kind 5 (sym (kind_is stores.0 k body) ∙ five)) in
        let it = lines.copied (at_of k) body (subst (λ q. Stores record_values (before.trees (record_tree first)) q body) key stores) in
        inr (at_of k, key, (it.0, now_line _ it.1))
    | inr other ↦ inl (stores.0, removed.kept _ (subst (λ l. Has l (Int stores.0 ∷ record_values k body)) (sym copied.other) stores.1) other)
  ]

-- the move of a store of both tables
pub moves : (old middle new : State) (count more : ℕ) (was : Store old.now) → are_both was.tables ≡ true → Executes insert_lines [] old middle (Ok count) → Executes clear_lines [] middle new (Ok more) → Moves old.now new.now was
moves old middle new count more was both insert clear =
    let of = pair_of old.now was both in
    let first = of.0 in
    let pair = of.1.pair in
    let copied = inserts_lines first old middle count pair insert in
    let cleared = clears_lines first middle new more (copied_pair first old.now middle.now new.now pair copied.0 copied.1) clear in
    let end = store_of first new.now (moved_pair first old.now middle.now new.now pair copied.0 copied.1 cleared.0 cleared.1) in
    let records = of.1.records_are in
    let lines = of.1.lines_are in
    let now_records = end.2.records_are in
    let now_lines = end.2.lines_are in
    record {
      store = end.0;
      both = end.1;
      moved = subst HasNoLine (sym now_records) (no_line first old.now middle.now new.now pair copied.0 copied.1 cleared.0 cleared.1);
      apart = λ at x y r l. were_apart first old.now middle.now new.now pair copied.0 copied.1 at x y (subst (λ l. Stores record_values l (line_key at) x) records r) (subst (λ l. Stores line_values l at y) lines l);
      back = λ k body h.
          stored_as (sym records) (sym lines) k body
          (moved_back first old.now middle.now new.now pair copied.0 copied.1 cleared.0 cleared.1 k body (stored_as now_records now_lines k body h));
      forth = λ k body h.
          stored_as (sym now_records) (sym now_lines) k body
          (moved_forth first old.now middle.now new.now pair copied.0 copied.1 cleared.0 cleared.1 k body (stored_as records lines k body h));
    }

-- what was grown and then moved
pub grown_moves : (before middle after : Database) (was : Store before) (grown : Grows before middle was) → Moves middle after grown.store → Moves before after was
grown_moves before middle after was grown it = record {
  store = it.store;
  both = it.both;
  moved = it.moved;
  apart = λ at x y r l. it.apart at x y (subst (λ l. Stores record_values l (line_key at) x) (sym grown.records) r) (subst (λ l. Stores line_values l at y) (sym grown.lines) l);
  back = λ k body h. stored_as grown.records grown.lines k body (it.back k body h);
  forth = λ k body h. it.forth k body (stored_as (sym grown.records) (sym grown.lines) k body h);
}
