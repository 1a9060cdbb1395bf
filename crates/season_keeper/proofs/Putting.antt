-- What an upsert does.
use Rattle.std.proofs.Common.{◌≡◌, ◌≢◌, ◌⊎◌, inl, inr, ℕ, ℤ, ◌/◌, List, [], ◌∷◌, ◌++◌, map, drop, length, Bool, true, false, cond, if◌then◌else◌, Option, Some, None, Ok, refl, sym, ap, subst, ◌∙◌, int_eq, true≢false}
use Rattle.std.specs.Prelude.{MatchBool}
use Rattle.std.specs.Ordering.{is_eq, is_lt, int_cmp}
use Rattle.std.proofs.lemmas.Bool.{and_parts, not-true}
use Rattle.std.proofs.lemmas.Bool.Decides.{Decides-int_eq}
use Rattle.sqlite_value.specs.declared.value.Value.{Value}
use Rattle.sqlite_value.specs.declared.value.Value.TheVariants.{Null, Int}
use Rattle.sqlite_value.specs.Order.{Row, value_cmp}
use Rattle.sqlite_trees.specs.Tree.{Trees, rowid, has_rowid, put_row}
use Rattle.sqlite_trees.proofs.TreeLemmas.{not_true}
use Rattle.sqlite_sql.specs.Ops.{unary}
use Rattle.sqlite_sql.specs.Term.{Term}
use Rattle.sqlite_sql.specs.Query.{IsAnswer}
use Rattle.sqlite_sql.specs.Program.{overlay}
use Rattle.sqlite_schema.specs.declared.command.Conflict.TheVariants.{Abort}
use Rattle.sqlite_schema.specs.declared.command.Source.TheVariants.{Values}
use Rattle.sqlite_schema.specs.declared.command.Upsert.{Upsert}
use Rattle.sqlite_schema.specs.declared.command.Command.TheVariants.{InsertOr}
use Rattle.sqlite_schema.specs.declared.schema.Kind.TheVariants.{Integer}
use Rattle.sqlite_schema.specs.declared.schema.Table.{Table}
use Rattle.sqlite_schema.specs.declared.schema.Keys.{Keys}
use Rattle.sqlite_rules.specs.Lists.{Has}
use Rattle.sqlite_rules.specs.Cast.{cast, cast_row}
use Rattle.sqlite_rules.specs.Keys.{conflicts, AreConflicts}
use Rattle.sqlite_rules.specs.Edit.{id_in, next_rowid, with_rowid, numbered, put_all, is_taken, are_fresh, without_all}
use Rattle.sqlite_rules.specs.Calls.{ids_of}
use Rattle.sqlite_rules.specs.declared.error.Rowids.TheVariants.{Given, Chosen, Above}
use Rattle.sqlite_rules.specs.declared.error.Refusal.{Refusal}
use Rattle.sqlite_rules.proofs.ListLemmas.{some_from}
use Rattle.sqlite_rules.proofs.TableLemmas.{without_all_has, put_all_has, put_all_keeps, put_all_adds}
use Rattle.sqlite.specs.Rows.{Written, Tries, TriesEach, InsertsOr, Judged, Upserts, Meets, Clears, Puts, Updates, Counts, CountsIn, Gives, Task, rowids_for, nothing, shown, count_of, stamped, sequence}
use Rattle.sqlite.specs.Does.{Tally, Does, AtPlace, OnRows}
use Rattle.sqlite.specs.Effect.{Database, value_rows}
use Rattle.sqlite.specs.Listing.{understood}
use Rattle.sqlite_catalog.specs.Listing.{IsSound}
use Rattle.sqlite.specs.State.{State, mode_of, Executes}
use Rattle.sqlite.proofs.Callers.{statement_of, runs_as}
use Rattle.season_keeper.specs.Rows.{IsRow, AreRows, Stores}
use Rattle.season_keeper.proofs.Texts.{Means, asking, program, there_by, upserting}
use Rattle.season_keeper.proofs.Lists.{has_mapped, mapped_has, left_lacks, left_keeps}
use Rattle.season_keeper.proofs.Forms.{Form, hits, shown_of, shown_was, was_shown, same_rowid, other_rowid, int_same, is_hit, hit_self, hit_key, once}
use Rattle.season_keeper.proofs.Deleting.{went, same_value, step_of, Writes}

either : (b : Bool) (x : Value) → cond b x x ≡ x
either true x = refl
either false x = refl

pub cast_null : cast Integer Null ≡ Null
unfolding unary
cast_null = either _ Null

pub cast_int : (n : ℤ) → cast Integer (Int n) ≡ Int n
unfolding unary
cast_int n = either _ (Int n)

pub numbered_given : (news rows : List Row) → numbered Given rows news ≡ news
numbered_given [] rows = refl
numbered_given (r ∷ news) rows = ap (λ l. r ∷ l) (numbered_given news (put_row r rows))

-- what is left under the other keys, and this body under the key
pub record Put {K : Type 0} (values : K → List ℕ → Row) (old new : List Row) (k : K) (body : List ℕ) : Type 0 where
  pub there : Stores values new k body
  pub others : (other : K) (more : List ℕ) → other ≢ k → Stores values new other more → Stores values old other more
  pub kept : (other : K) (more : List ℕ) → other ≢ k → Stores values old other more → Stores values new other more

-- no other row has the rowid
pub fresh_apart : (rows : List Row) (id : ℤ) (values : Row) (more : List Row) → are_fresh rows ((Int id ∷ values) ∷ more) ≡ true → (r : Row) → Has rows r → rowid r ≢ Int id
fresh_apart rows id values more fresh r h same =
    let free : is_taken rows (Int id ∷ values) ≡ false = not-true _ (and_parts _ _ fresh).0 in
    true≢false (sym (some_from (λ q. is_eq (value_cmp (rowid q) (Int id))) rows r h (ap (λ v. is_eq (value_cmp v (Int id))) same ∙ same_rowid id)) ∙ free)

-- how the upsert of a form is written
pub record Putting (F : Form) : Type 0 where
  pub terms : List Term
  pub width : ℕ
  pub at : ℕ
  pub update : List Term
  pub sources : (k : F.K) (body : List ℕ) → value_rows (stamped F.table (F.values k body)) width (length terms / width) terms ≡ (Null ∷ F.values k body) ∷ []
  pub casts : (id : Value) (k : F.K) (body : List ℕ) → cast_row F.table (id ∷ F.values k body) ≡ cast Integer id ∷ F.values k body
  pub conflict_is : (k m : F.K) (i j : ℤ) (x y : List ℕ) → conflicts (Some F.places) F.schema.indexes F.table (Int i ∷ F.values k x) (Int j ∷ F.values m y) ≡ F.same k m
  pub there_is : (was new id : ℤ) (k m : F.K) (body more : List ℕ) → hits (there_by at) (F.values k body ++ (Int was ∷ shown F.table (Int new ∷ F.values k body))) (Int id ∷ F.values m more) ≡ int_eq id was
  pub updated_is : (was new : ℤ) (k : F.K) (body old : List ℕ)
      → shown_of update (F.values k body ++ (Int was ∷ shown F.table (Int new ∷ F.values k body))) (Int was ∷ F.values k old) ≡ Int was ∷ Int was ∷ F.values k body

module _ (F : Form) (P : Putting F) where
  abbrev tree : ℕ
  tree = F.table.tree

  abbrev row : ℤ → F.K → List ℕ → Row
  row id k body = Int id ∷ F.values k body

  pub cast_stored : (id : ℤ) (k : F.K) (body : List ℕ) → cast_row F.table (row id k body) ≡ row id k body
  cast_stored id k body = P.casts (Int id) k body ∙ ap (λ v. v ∷ F.values k body) (cast_int id)

  new_is : (k : F.K) (body : List ℕ) (top : ℤ) (rows : List Row) → with_rowid (rowids_for F.table top) rows (cast_row F.table (Null ∷ F.values k body)) ≡ row (next_rowid rows) k body
  new_is k body top rows =
      ap (λ b. with_rowid (if b then Above top else Chosen) rows (cast_row F.table (Null ∷ F.values k body))) F.uncounted
      ∙ ap (with_rowid Chosen rows) (P.casts Null k body ∙ ap (λ v. v ∷ F.values k body) cast_null)

  -- ---- one row in place of those of its key

  pub record Replaces (rows new : List Row) (id : ℤ) (k : F.K) (body : List ℕ) : Type 0 where
    pub there : Has new (row id k body)
    pub from : (x : Row) → Has new x → (x ≡ row id k body) ⊎ (Has rows x × (is_hit F k x ≡ false) × (rowid x ≢ Int id))
    pub kept : (x : Row) → Has rows x → is_hit F k x ≡ false → Has new x

  module _ (rows new : List Row) (id : ℤ) (k : F.K) (body : List ℕ) (sound : AreRows F.values rows) (it : Replaces rows new id k body) where
    key_is : (i : ℤ) (m : F.K) (x : List ℕ) → row i m x ≡ row id k body → m ≡ k
    key_is i m x same = hit_key F k m i x (subst (λ r. is_hit F k r ≡ true) (sym same) (hit_self F k id body))

    pub puts_rows : AreRows F.values new
    puts_rows = record {
      each = λ r h. elim (it.from r h) [ inl same ↦ record { id = id; key = k; body = body; is = same } | inr was ↦ sound.each r was.0 ];
      ids = λ r s h g e. elim (it.from r h) [
        | inl same ↦ elim (it.from s g) [ inl also ↦ same ∙ sym also | inr was ↦ absurd (was.2 (sym e ∙ ap rowid same)) ]
        | inr was ↦ elim (it.from s g) [ inl same ↦ absurd (was.2 (e ∙ ap rowid same)) | inr also ↦ sound.ids r s was.0 also.0 e ]
      ];
    }

    pub puts : Put F.values rows new k body
    puts = record {
      there = (id, it.there);
      others = λ other more apart h. elim (it.from _ h.1) [ inl same ↦ absurd (apart (key_is h.0 other more same)) | inr was ↦ (h.0, was.0) ];
      kept = λ other more apart h. (h.0, it.kept _ h.1 (not_true _ (λ hit. apart (hit_key F k other h.0 more hit))));
    }

  -- ---- a row that is new

  adds : (rows : List Row) (id : ℤ) (k : F.K) (body : List ℕ) → ((r : Row) → Has rows r → is_hit F k r ≡ false) → are_fresh rows (row id k body ∷ []) ≡ true
      → Replaces rows (put_all rows (row id k body ∷ [])) id k body
  adds rows id k body none fresh = record {
    there = put_all_adds (row id k body ∷ []) rows _ fresh (inl refl);
    from = λ x h. elim (put_all_has (row id k body ∷ []) rows x h) [
      | inl new ↦ elim new [ inl same ↦ inl same | inr more ↦ absurd more ]
      | inr was ↦ inr (was, none x was, fresh_apart rows id (F.values k body) [] fresh x was)
    ];
    kept = λ x h miss. put_all_keeps (row id k body ∷ []) rows x fresh h;
  }

  -- ---- a row that was there

  -- the parameters, the rowid of the row that is there, and the row that is not inserted
  abbrev given_row : ℤ → ℤ → F.K → List ℕ → Row
  given_row was new k body = F.values k body ++ (Int was ∷ shown F.table (row new k body))

  module _ (rows : List Row) (sound : AreRows F.values rows) (alone : (i j : ℤ) (k : F.K) (x y : List ℕ) → Has rows (row i k x) → Has rows (row j k y) → i ≡ j) (was new : ℤ) (k : F.K) (body old : List ℕ)
      (has : Has rows (row was k old)) (out : List Row)
      (shown : (x : Row) → Has out x → (r : Row) × Has rows r × (hits (there_by P.at) (given_row was new k body) r ≡ true) × (x ≡ shown_of P.update (given_row was new k body) r))
      (listed : (r : Row) → Has rows r → hits (there_by P.at) (given_row was new k body) r ≡ true → Has out (shown_of P.update (given_row was new k body) r)) where
    abbrev stored_by : Row → Row
    stored_by s = cast_row F.table (drop 1 s)

    abbrev news : List Row
    news = map stored_by out

    abbrev left : List Row
    left = without_all rows (ids_of out)

    -- the row that is shown
    abbrev one : Row
    one = Int was ∷ row was k body

    it_is : (x : Row) → Has out x → x ≡ one
    it_is x h =
        let it = shown x h in
        let r = sound.each it.0 it.1 in
        let there = sym (P.there_is was new r.id k r.key body r.body) ∙ subst (λ q. hits (there_by P.at) (given_row was new k body) q ≡ true) r.is it.2 in
        let same : rowid it.0 ≡ Int was = ap rowid r.is ∙ ap Int ((Decides-int_eq r.id was).0 there) in
        it.3 ∙ ap (shown_of P.update (given_row was new k body)) (sound.ids it.0 _ it.1 has same) ∙ P.updated_is was new k body old

    it_has : Has out one
    it_has = subst (Has out) (P.updated_is was new k body old) (listed _ has (P.there_is was new was k k body old ∙ int_same was))

    was_listed : Has (ids_of out) was
    was_listed = mapped_has (λ (r : Row). id_in (rowid r)) out one it_has

    updates : are_fresh left news ≡ true → Replaces rows (put_all left news) was k body
    updates fresh = record {
      there = put_all_adds news left _ fresh (subst (Has news) (cast_stored was k body) (mapped_has stored_by out one it_has));
      from = λ x h. elim (put_all_has news left x h) [
        | inl new ↦ inl (let s = has_mapped stored_by out x new in s.2 ∙ ap stored_by (it_is s.0 s.1) ∙ cast_stored was k body)
        | inr stays ↦ inr (let there = without_all_has (ids_of out) rows x stays in
            let other : rowid x ≢ Int was = λ same. true≢false (sym (ap (λ v. is_eq (value_cmp v (Int was))) same ∙ same_rowid was) ∙ left_lacks (ids_of out) rows x was stays was_listed) in (
              there,
              not_true _ (λ hit.
                  let r = sound.each x there in
                  let key = hit_key F k r.key r.id r.body (subst (λ q. is_hit F k q ≡ true) r.is hit) in
                  let mine : x ≡ row r.id k r.body = r.is ∙ ap (λ q. row r.id q r.body) key in
                  other (ap rowid r.is ∙ ap Int (alone r.id was k r.body old (subst (Has rows) mine there) has))),
              other,
            ))
      ];
      kept = λ x h miss. put_all_keeps news left x fresh (left_keeps (ids_of out) rows x (λ j g.
          let s = has_mapped (λ (r : Row). id_in (rowid r)) out j g in
          let is : j ≡ was = s.2 ∙ ap (λ (r : Row). id_in (rowid r)) (it_is s.0 s.1) in
          let r = sound.each x h in
          ap (has_rowid j) r.is ∙ other_rowid r.id j (λ same.
          let mine = sound.ids x _ h has (ap rowid r.is ∙ ap Int (same ∙ is)) in
          true≢false (sym (subst (λ q. is_hit F k q ≡ true) (sym mine) (hit_self F k was old)) ∙ miss))) h);
    }

  -- ---- the statement

  module _ (limit : Option ℕ) (keys : Keys) (k : F.K) (body : List ℕ) where
    abbrev task : Task
    task = record { limit = limit; keys = keys; schema = F.schema; table = F.table; params = F.values k body }

    abbrev clause : Upsert
    clause = upserting tree F.places P.at P.update

    pub record Mends (db next : Trees) : Type 0 where
      pub id : ℤ
      pub replaces : Replaces (db tree) (next tree) id k body
      pub other : next F.other ≡ db F.other

    mended_as : (db a b : Trees) → a ≡ b → Mends db b → Mends db a
    mended_as db a b same = subst (Mends db) (sym same)

    puts_one : (id : ℤ) (db : Trees) (w : Written) → ((r : Row) → Has (db tree) r → is_hit F k r ≡ false) → Puts task (row id k body) db (Ok w) → Mends db w.trees
    puts_one id db w none h =
        let done = went h in
        let it = step_of F keys db done.0 [] Given 0 (row id k body ∷ []) done.1 in
        let news : numbered Given (db tree) (cast_row F.table (row id k body) ∷ []) ≡ row id k body ∷ [] = ap (λ r. r ∷ []) (cast_stored id k body) in
        let rows : done.0 tree ≡ put_all (db tree) (row id k body ∷ []) = it.rows ∙ ap (put_all (db tree)) news in
        mended_as db w.trees done.0 (ap (λ (w : Written). w.trees) (same_value done.2)) (record {
          id = id;
          replaces = subst (λ l. Replaces (db tree) l id k body) (sym rows) (adds (db tree) id k body none (subst (λ l. are_fresh (db tree) l ≡ true) news it.fresh));
          other = F.others db done.0 it.tables;
        })

    alone_in : (db : Trees) → IsSound F.schema db → (i j : ℤ) (k : F.K) (x y : List ℕ) → Has (db tree) (row i k x) → Has (db tree) (row j k y) → i ≡ j
    alone_in db sound i j k x y h g = once F db i j k x y sound h g

    updates_one : (new : ℤ) (db : Trees) (w : Written) (r : Row) → IsSound F.schema db → AreRows F.values (db tree) → Has (db tree) r → is_hit F k r ≡ true
        → Updates task (program (asking tree (there_by P.at) P.update [] [])) (F.values k body ++ (rowid r ∷ shown F.table (row new k body))) db (Ok w) → Mends db w.trees
    updates_one new db w r lawful sound has hit h =
        let it = sound.each r has in
        let key = hit_key F k it.key it.id it.body (subst (λ q. is_hit F k q ≡ true) it.is hit) in
        let there : Has (db tree) (row it.id k it.body) = subst (Has (db tree)) (it.is ∙ ap (λ q. row it.id q it.body) key) has in
        let given = given_row it.id new k body in
        let query = asking tree (there_by P.at) P.update [] [] in
        let mine = subst (λ v. Updates task (program query) (F.values k body ++ (v ∷ shown F.table (row new k body))) db (Ok w)) (ap rowid it.is) h in
        let found = went mine in
        let answer : IsAnswer query (overlay db []) given found.0 = found.1.answer Null in
        let done = went found.2 in
        let step = step_of F keys db done.0 (ids_of found.0) Given 1 found.0 done.1 in
        let sources = map (λ (s : Row). cast_row F.table (drop 1 s)) found.0 in
        let left = without_all (db tree) (ids_of found.0) in
        let news : numbered Given left sources ≡ sources = numbered_given sources left in
        let rows : done.0 tree ≡ put_all left sources = step.rows ∙ ap (put_all left) news in
        let fresh = subst (λ l. are_fresh left l ≡ true) news step.fresh in
        mended_as db w.trees done.0 (ap (λ (w : Written). w.trees) (same_value done.2)) (record {
          id = it.id;
          replaces = subst (λ l. Replaces (db tree) l it.id k body) (sym rows)
              (updates (db tree) sound (alone_in db lawful) it.id new k body it.body there found.0 (shown_was tree (there_by P.at) P.update [] [] db (F.bare db) given found.0 answer)
              (was_shown tree (there_by P.at) P.update [] [] db (F.bare db) given found.0 answer) fresh);
          other = F.others db done.0 step.tables;
        })

    conflict_is_hit : (id : ℤ) (r : Row) → IsRow F.values r → conflicts (Some F.places) F.schema.indexes F.table (row id k body) r ≡ is_hit F k r
    conflict_is_hit id r it =
        ap (conflicts (Some F.places) F.schema.indexes F.table (row id k body)) it.is ∙ P.conflict_is k it.key id it.id body it.body ∙ sym (F.hit_is k it.key it.id it.body) ∙ ap (is_hit F k) (sym it.is)

    clears_one : (id : ℤ) (db : Trees) (w : Written) (found : List Row) → ((r : Row) → Has (db tree) r → is_hit F k r ≡ false) → Clears task Abort (row id k body) db found (Ok w) → Mends db w.trees
    clears_one id db w [] none h = puts_one id db w none h
    clears_one id db w (x ∷ more) none h = puts_one id db w none h

    meets_one : (id : ℤ) (db : Trees) (w : Written) (found : List Row) → IsSound F.schema db → AreRows F.values (db tree)
        → AreConflicts (Some F.places) F.schema.indexes F.table (db tree) (row id k body) found → Meets task (Upserts task Abort (row id k body) db []) (row id k body) db clause found (Ok w) → Mends db w.trees
    meets_one id db w [] lawful sound are h = clears_one id db w h.0 (λ r has. not_true _ (λ hit. are.complete r has (conflict_is_hit id r (sound.each r has) ∙ hit))) h.2
    meets_one id db w (x ∷ more) lawful sound are h =
        let it = are.sound x (inl refl) in
        updates_one id db w it.0 lawful sound it.1 (sym (conflict_is_hit id it.0 (sound.each it.0 it.1)) ∙ it.2)
        (subst (λ v. Updates task (program (asking tree (there_by P.at) P.update [] [])) (F.values k body ++ (v ∷ shown F.table (row id k body))) db (Ok w)) (ap rowid it.3) h)

    judged_one : (id : ℤ) (db : Trees) (w : Written) (verdict : Option Refusal) → IsSound F.schema db → AreRows F.values (db tree) → Judged task Abort (clause ∷ []) (row id k body) db verdict (Ok w)
        → Mends db w.trees
    judged_one id db w None lawful sound h = meets_one id db w h.0 lawful sound h.1 h.2
    judged_one id db w (Some why) lawful sound h = absurd (let e = h in cc)

    tries_one : (id : ℤ) (db : Trees) (w : Written) → IsSound F.schema db → AreRows F.values (db tree) → Tries task Abort (clause ∷ []) (row id k body) db (Ok w) → Mends db w.trees
    tries_one id db w lawful sound (inl big) = absurd (let e = big.1 in cc)
    tries_one id db w lawful sound (inr judged) = judged_one id db w judged.0 lawful sound judged.2

    uncounted : (db next : Trees) (counter : Option Row) (top : ℤ) → Counts task db counter top (Ok next) → next ≡ db
    uncounted db next counter top h =
        same_value (subst (λ b. MatchBool (if b then is_lt (int_cmp (count_of counter) top) else false) (CountsIn task db counter top (sequence F.schema) (Ok next)) (Gives db (Ok next))) F.uncounted h)

    inserts_one : (db : Trees) (w : Written) → IsSound F.schema db → AreRows F.values (db tree) → InsertsOr task Abort (clause ∷ []) (Values P.terms P.width) db (Ok w) → Mends db w.trees
    inserts_one db w lawful sound h =
        let given = went h in
        let counted = went given.2 in
        let tried = went counted.2 in
        let source : given.0 ≡ (Null ∷ F.values k body) ∷ [] = given.1.1 ∙ P.sources k body in
        let each = subst (λ l. TriesEach task Abort (clause ∷ []) l (count_of counted.0) (nothing db) (Ok tried.0)) source tried.1 in
        let one = went each in
        let row = subst (λ r. Tries task Abort (clause ∷ []) r db (Ok one.0)) (new_is k body (count_of counted.0) (db tree)) one.1 in
        let last = went tried.2 in
        let first = ap (λ (p : Written × ℤ). p.0.trees) (same_value one.2) in
        let same = ap (λ (w : Written). w.trees) (same_value last.2) ∙ uncounted tried.0.0.trees last.0 counted.0 tried.0.1 last.1 ∙ first in
        mended_as db w.trees one.0.trees same (tries_one (next_rowid (db tree)) db one.0 lawful sound row)

  pub upserts : (sql : List ℕ) (k : F.K) (body : List ℕ) → Means F.schema sql (InsertOr F.place Abort (Values P.terms P.width) (upserting tree F.places P.at P.update ∷ [])) → (old new : State) (count : ℕ)
      → old.now.schema ≡ F.schema → IsSound F.schema old.now.trees → AreRows F.values (old.now.trees tree) → Executes sql (F.values k body) old new (Ok count)
      → Writes F old.now new.now × AreRows F.values (new.now.trees tree) × Put F.values (old.now.trees tree) (new.now.trees tree) k body
  upserts sql k body means old new count has lawful sound h =
      let params = F.values k body in
      let db = old.now.trees in
      let command = InsertOr F.place Abort (Values P.terms P.width) (upserting tree F.places P.at P.update ∷ []) in
      let w = runs_as sql params old new F.schema has command means.command_is means.plain count h in
      let text = statement_of sql (understood F.schema sql) in
      let changed = subst (λ s. Does old.step_limit (mode_of old) params (record old.now { schema = s }) text None command (Ok (w.tally, new.now))) has w.changed in
      let placed = subst (λ (o : Option Table). AtPlace (λ table. OnRows (record { limit = old.step_limit; keys = (mode_of old).keys; schema = F.schema; table = table; params = params }) (mode_of old) None command db) o (Ok (w.tally, new.now))) F.there changed in
      let done = went placed in
      let now = ap (λ (p : Tally × Database). p.1) (same_value (went (went done.2).2).2) in
      let it = inserts_one old.step_limit (mode_of old).keys k body db done.0 lawful sound done.1 in
      let trees : new.now.trees ≡ done.0.trees = ap (λ (d : Database). d.trees) now in
      let rows : new.now.trees tree ≡ done.0.trees tree = ap (λ (t : Trees). t tree) trees in (
        record { schema = ap (λ (d : Database). d.schema) now; sound = w.sound; other = ap (λ (t : Trees). t F.other) trees ∙ it.other },
        subst (AreRows F.values) (sym rows) (puts_rows (db tree) (done.0.trees tree) it.id k body sound it.replaces),
        subst (λ l. Put F.values (db tree) l k body) (sym rows) (puts (db tree) (done.0.trees tree) it.id k body sound it.replaces),
      )
