-- The readings inside a transaction.
use Rattle.std.proofs.Common.{◌≡◌, ◌⊎◌, inl, inr, ℕ, List, [], ◌++◌, Bool, true, IsTrue, cond, None, Some, refl, sym, ap, subst, ◌∙◌}
use Rattle.std.specs.Prelude.{Option}
use Rattle.sqlite_value.specs.Order.{Row}
use Rattle.sqlite_schema.specs.declared.command.Returning.{Returning}
use Rattle.sqlite_resolve.specs.declared.compiled.Compiled.{Compiled}
use Rattle.sqlite_sql.specs.Query.{IsAnswer}
use Rattle.sqlite_sql.specs.Program.{overlay}
use Rattle.sqlite.specs.declared.error.Error.{Error}
use Rattle.sqlite.specs.Effect.{Database}
use Rattle.sqlite.specs.State.{State, IsUnchanged, IsRolledBack, KeepsCommit, IsNotRun, FailsToQuery, FailsToShow, IsTooLate, Shown, Shows, ShowsRows}
use Rattle.season_keeper.specs.Table.{are_both, schema_of, two}
use Rattle.season_keeper.specs.Rows.{IsReading}
use Rattle.season_keeper.specs.Holding.{Store, records_of, lines_of, Inside}
use Rattle.season_keeper.proofs.Texts.{asking, read_records, read_lines, line_columns, record_names, line_names, line_tree, reads_records, reads_lines}
use Rattle.season_keeper.proofs.TwoTables.{Pair, pair_of}
use Rattle.season_keeper.proofs.Reading.{answers, same_after, reading}
use Rattle.season_keeper.proofs.Batches.{still_kept, inside_then}

failed_to_show : (old new : State) (sql : List ℕ) (c : Compiled) (params : Row) (e : Error) (what : Option Returning) → FailsToShow old new sql c params e what → IsUnchanged old new ⊎ IsRolledBack old new
failed_to_show old new sql c params e None h = inl h.3
failed_to_show old new sql c params e (Some what) (inl h) = inl h.1
failed_to_show old new sql c params e (Some what) (inr h) = inr h.3

not_run : (old new : State) (sql : List ℕ) (params : Row) (e : Error) → IsNotRun old new sql params e → IsUnchanged old new ⊎ IsRolledBack old new
unfolding IsNotRun
not_run old new sql params e (inl h) = inl h.1
not_run old new sql params e (inr h) = inr h.3

query_failed : (old new : State) (sql : List ℕ) (params : Row) (e : Error) → FailsToQuery sql params old new e ⊎ IsTooLate sql params old new e → IsUnchanged old new ⊎ IsRolledBack old new
unfolding FailsToQuery
query_failed old new sql params e (inl (inl h)) = not_run old new sql params e h
query_failed old new sql params e (inl (inr h)) = failed_to_show old new sql h.0 _ e h.0.returning h.2
query_failed old new sql params e (inr h) = inl h.5

-- a query that failed has committed nothing
pub query_kept : (old new : State) (sql : List ℕ) (params : Row) (e : Error) → FailsToQuery sql params old new e ⊎ IsTooLate sql params old new e → KeepsCommit old new
query_kept old new sql params e h = still_kept old new (query_failed old new sql params e h)

shows_inside : (old new : State) (sql : List ℕ) (c : Compiled) (params : Row) (rows : List Row) (what : Option Returning) → IsTrue old.in_transaction → ShowsRows old new sql c params rows what → Shows old new new.now old.committed true
shows_inside old new sql c params rows None mode h = record { was_open = h.3.0.was_open; is_open = h.3.0.is_open; now_is = refl; committed_is = h.3.0.committed_is; mode = h.3.0.mode ∙ mode }
shows_inside old new sql c params rows (Some what) mode h =
    let shown = h.1.shown in
    record { was_open = shown.was_open; is_open = shown.is_open; now_is = refl; committed_is = shown.committed_is ∙ ap (λ b. cond b old.committed new.now) mode; mode = shown.mode ∙ mode }

abbrev pub Anything : Database → Type 0
Anything db = Unit {0}

-- a query in a transaction commits nothing
pub shown_inside : (old new : State) (sql : List ℕ) (params : Row) (rows : List Row) → IsTrue old.in_transaction → Shown sql params old new rows → Inside old new Anything
unfolding Shown
shown_inside old new sql params rows mode h =
    let same = shows_inside old new sql h.0 _ rows h.0.returning mode h.2 in record { was_open = λ _. same.was_open; mode = same.mode; committed = same.committed_is; makes = tt }

-- and so do two
pub two_inside : (old one new : State) (sql other : List ℕ) (params : Row) (records lines : List Row) → IsTrue old.in_transaction → Shown sql params old one records → Shown other params one new lines → Inside old new Anything
two_inside old one new sql other params records lines mode shown then =
    let first = shown_inside old one sql params records mode shown in
    inside_then old one new Anything Anything Anything first (shown_inside one new other params lines first.mode then) (λ _ _. tt)

-- the two readings
module _ (old one new : State) (records lines : List Row) (store : Store old.now) (both : are_both store.tables ≡ true) (shown : Shown read_records [] old one records) (then : Shown read_lines [] one new lines) where
  abbrev first : Bool
  first = (pair_of old.now store both).0

  abbrev pair : Pair first old.now
  pair = (pair_of old.now store both).1.pair

  one_is : one.now ≡ old.now
  one_is = (same_after (schema_of (two first)) read_records _ record_names (reads_records first) old one records pair.schema shown).0.now_is

  one_schema : one.now.schema ≡ schema_of (two first)
  one_schema = ap (λ (d : Database). d.schema) one_is ∙ pair.schema

  pub two_same : new.now ≡ old.now
  two_same = (same_after (schema_of (two first)) read_lines _ line_names (reads_lines first) one new lines one_schema then).0.now_is ∙ one_is

  pub two_read : IsReading (records_of store) (lines_of store) (records ++ lines)
  two_read =
      let of = (pair_of old.now store both).1 in
      let first_is = answers (schema_of (two first)) read_records _ record_names (reads_records first) old one records pair.schema shown in
      let then_is = answers (schema_of (two first)) read_lines _ line_names (reads_lines first) one new lines one_schema then in
      let it = reading first old.now pair records lines first_is (subst (λ (d : Database). IsAnswer (asking (line_tree first) [] line_columns [] []) (overlay d.trees []) [] lines) one_is then_is) in
      subst (λ l. IsReading (records_of store) l (records ++ lines)) (sym of.lines_are) (subst (λ r. IsReading r (old.now.trees (line_tree first)) (records ++ lines)) (sym of.records_are) it)
