-- What a deletion does.
use Rattle.std.proofs.Common.{◌≡◌, ◌⊎◌, inl, inr, ℕ, ℤ, List, [], ◌∷◌, Bool, true, false, Option, None, Ok, Err, Result, sym, ap, subst, ◌∙◌, true≢false}
use Rattle.sqlite_rules.proofs.TableLemmas.{without_all_has}
use Rattle.sqlite_value.specs.declared.value.Value.TheVariants.{Null, Int}
use Rattle.sqlite_value.specs.Order.{Row}
use Rattle.sqlite_trees.specs.Tree.{Trees, rowid, has_rowid}
use Rattle.sqlite_trees.proofs.TreeLemmas.{not_true}
use Rattle.sqlite_sql.specs.Term.{Term}
use Rattle.sqlite_sql.specs.Query.{IsAnswer}
use Rattle.sqlite_sql.specs.Program.{overlay}
use Rattle.sqlite_schema.specs.declared.schema.Table.{Table}
use Rattle.sqlite_schema.specs.declared.command.Command.TheVariants.{Delete}
use Rattle.sqlite_rules.specs.Lists.{Has}
use Rattle.sqlite_rules.specs.Edit.{id_in, without_all, edit_of, taken_by, Applies}
use Rattle.sqlite_rules.specs.Action as Action
use Rattle.sqlite_schema.specs.declared.schema.Keys.{Keys}
use Rattle.sqlite_rules.specs.declared.error.Rowids.{Rowids}
use Rattle.sqlite_rules.specs.Calls.{ids_of}
use Rattle.sqlite_rules.specs.declared.error.Rowids.TheVariants.{Given}
use Rattle.sqlite.specs.Rows.{Written}
use Rattle.sqlite.specs.Does.{Tally, Does, AtPlace, OnRows}
use Rattle.sqlite.specs.Effect.{Database, IsDatabase}
use Rattle.sqlite.specs.Listing.{understood}
use Rattle.sqlite.specs.State.{State, mode_of, Executes}
use Rattle.sqlite.proofs.Callers.{statement_of, runs_as, one_step}
use Rattle.season_keeper.specs.Rows.{AreRows}
use Rattle.season_keeper.proofs.Texts.{Means, asking, program, rowids}
use Rattle.season_keeper.proofs.Lists.{has_mapped, mapped_has, left_lacks, left_keeps}
use Rattle.season_keeper.proofs.Forms.{Form, hits, shown_was, was_shown, same_rowid, other_rowid}

-- a part that gave a value did not stop on the way
pub went : {B E R : Type 0} {b : B} {Stops : E → Type 0} → ((stop : E) × Stops stop × (Ok b ≡ Err stop)) ⊎ R → R
went (inl stopped) = absurd (let e = stopped.2 in cc)
went (inr on) = on

pub same_value : {B E : Type 0} {a b : B} → ◌≡◌ {A = Result B E} (Ok a) (Ok b) → a ≡ b
same_value e = cc

-- the rows that are not hit are left
pub record Removed (rows new : List Row) (hit : Row → Bool) : Type 0 where
  pub from : (x : Row) → Has new x → Has rows x × (hit x ≡ false)
  pub kept : (x : Row) → Has rows x → hit x ≡ false → Has new x

module _ {K : Type 0} (values : K → List ℕ → Row) (rows : List Row) (sound : AreRows values rows) (hit : Row → Bool) (out : List Row)
    (shown : (x : Row) → Has out x → (r : Row) × Has rows r × (hit r ≡ true) × (x ≡ rowid r ∷ []))
    (listed : (r : Row) → Has rows r → hit r ≡ true → Has out (rowid r ∷ [])) where
  abbrev left : List Row
  left = without_all rows (ids_of out)

  pub removed : Removed rows left hit
  removed = record {
    from = λ x h.
        let there = without_all_has (ids_of out) rows x h in
        let r = sound.each x there in (
          there,
          not_true _ (λ yes.
              let named = mapped_has (λ (r : Row). id_in (rowid r)) out _ (listed x there yes) in
              let id : id_in (rowid x) ≡ r.id = ap (λ (q : Row). id_in (rowid q)) r.is in
              true≢false (sym (ap (has_rowid r.id) r.is ∙ same_rowid r.id) ∙ left_lacks (ids_of out) rows x r.id h (subst (Has (ids_of out)) id named))),
        );
    kept = λ x h miss. left_keeps (ids_of out) rows x (λ j g.
        let s = has_mapped (λ (r : Row). id_in (rowid r)) out j g in
        let it = shown s.0 s.1 in
        let r = sound.each it.0 it.1 in
        let mine = sound.each x h in
        let id : j ≡ r.id = s.2 ∙ ap (λ (r : Row). id_in (rowid r)) it.3 ∙ ap (λ (r : Row). id_in (rowid r)) r.is in
        ap (has_rowid j) mine.is ∙ other_rowid mine.id j (λ same.
        let one : rowid x ≡ rowid it.0 = ap rowid mine.is ∙ ap Int (same ∙ id) ∙ sym (ap rowid r.is) in
        true≢false (sym (ap hit (sound.ids x it.0 h it.1 one) ∙ it.2) ∙ miss))) h;
  }

module _ (F : Form) where
  abbrev tree : ℕ
  tree = F.table.tree

  pub step_of : (keys : Keys) (db next : Trees) (gone : List ℤ) (given : Rowids) (from : ℕ) (sources : List Row) → Action.Writes F.schema keys db (edit_of db F.table gone given from sources) (Ok next)
      → Applies F.schema keys db (edit_of db F.table gone given from sources) next
  step_of keys db next gone given from sources h =
      let edit = edit_of db F.table gone given from sources in one_step F.schema keys db next edit (F.free keys (taken_by db edit) edit.news) h

  -- a statement wrote on this table alone
  pub record Writes (old new : Database) : Type 0 where
    pub schema : new.schema ≡ F.schema
    pub sound : IsDatabase new
    pub other : new.trees F.other ≡ old.trees F.other

  pub deletes : (sql : List ℕ) (filter : List Term) (params : Row) → Means F.schema sql (Delete F.place (program (asking tree filter rowids [] []))) → (old new : State) (count : ℕ) → old.now.schema ≡ F.schema
      → AreRows F.values (old.now.trees tree) → Executes sql params old new (Ok count) → Writes old.now new.now × Removed (old.now.trees tree) (new.now.trees tree) (hits filter params)
  deletes sql filter params means old new count has sound h =
      let db = old.now.trees in
      let command = Delete F.place (program (asking tree filter rowids [] [])) in
      let w = runs_as sql params old new F.schema has command means.command_is means.plain count h in
      let text = statement_of sql (understood F.schema sql) in
      let changed = subst (λ s. Does old.step_limit (mode_of old) params (record old.now { schema = s }) text None command (Ok (w.tally, new.now))) has w.changed in
      let placed = subst (λ (o : Option Table). AtPlace (λ table. OnRows (record { limit = old.step_limit; keys = (mode_of old).keys; schema = F.schema; table = table; params = params }) (mode_of old) None command db) o (Ok (w.tally, new.now))) F.there changed in
      let done = went placed in
      let now = ap (λ (p : Tally × Database). p.1) (same_value (went (went done.2).2).2) in
      let found = went done.1 in
      let answer : IsAnswer (asking tree filter rowids [] []) (overlay db []) params found.0 = found.1.answer Null in
      let written = went found.2 in
      let trees : done.0.trees ≡ written.0 = ap (λ (it : Written). it.trees) (same_value written.2) in
      let step = step_of (mode_of old).keys db written.0 (ids_of found.0) Given 0 [] written.1 in
      let all : new.now.trees ≡ written.0 = ap (λ (d : Database). d.trees) now ∙ trees in
      let rows : new.now.trees tree ≡ without_all (db tree) (ids_of found.0) = ap (λ (t : Trees). t tree) all ∙ step.rows in (
        record { schema = ap (λ (d : Database). d.schema) now; sound = w.sound; other = ap (λ (t : Trees). t F.other) all ∙ F.others db written.0 step.tables },
        subst (λ l. Removed (db tree) l (hits filter params)) (sym rows) (removed F.values (db tree) sound (hits filter params) found.0
            (shown_was tree filter rowids [] [] db (F.bare db) params found.0 answer) (was_shown tree filter rowids [] [] db (F.bare db) params found.0 answer)),
      )
