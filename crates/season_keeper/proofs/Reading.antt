-- What the readings show.
use Rattle.std.proofs.Common.{◌≡◌, ◌⊎◌, inl, inr, ℕ, List, [], ◌∷◌, ◌++◌, Bool, refl, sym, ap, subst, ◌∙◌}
use Rattle.sqlite_value.specs.declared.value.Value.TheVariants.{Null}
use Rattle.sqlite_value.specs.Order.{Row}
use Rattle.sqlite_sql.specs.Query.{Query, IsAnswer}
use Rattle.sqlite_sql.specs.Program.{overlay}
use Rattle.sqlite_schema.specs.declared.schema.Schema.{Schema}
use Rattle.sqlite_schema.specs.declared.command.Command.TheVariants.{Select}
use Rattle.sqlite_rules.specs.Lists.{Has}
use Rattle.sqlite_rules.proofs.ListLemmas.{has_left, has_right}
use Rattle.sqlite.specs.Clock.{timed}
use Rattle.sqlite.specs.Effect.{Database}
use Rattle.sqlite.specs.Listing.{understood}
use Rattle.sqlite.specs.State.{State, Shown, ShowsRows, IsUnchanged}
use Rattle.sqlite.proofs.Callers.{IsPlain, reads_as}
use Rattle.fpl_base.specs.declared.records.RecordKey.{RecordKey as Key}
use Rattle.season_keeper.specs.Rows.{record_values, line_key, Stored, IsReading}
use Rattle.season_keeper.proofs.Texts.{Reads, asking, program, record_columns, line_columns, record_tree, line_tree}
use Rattle.season_keeper.proofs.Forms.{shown_of, shown_was, was_shown, record_bare, line_bare}
use Rattle.season_keeper.proofs.TwoTables.{Pair}

pub answers : (schema : Schema) (text : List ℕ) (query : Query) (names : List (List ℕ)) → Reads schema text query names → (old new : State) (out : List Row) → old.now.schema ≡ schema → Shown text [] old new out
    → IsAnswer query (overlay old.now.trees []) [] out
answers schema text query names reads old new out has h = (reads_as text [] old new schema has (Select (program query) names) reads.means.command_is reads.means.plain reads.unlisted out h).answer Null

-- a query changes nothing
pub same_after : (schema : Schema) (text : List ℕ) (query : Query) (names : List (List ℕ)) → Reads schema text query names → (old new : State) (out : List Row) → old.now.schema ≡ schema → Shown text [] old new out
    → IsUnchanged old new
unfolding Shown
same_after schema text query names reads old new out has h =
    let known = sym h.1.is ∙ ap (λ s. understood s text) has in
    let none = (subst IsPlain (sym known) reads.means.plain).0 in
    (subst (ShowsRows old new text h.0 (timed [] h.0.formats h.1.now) out) none h.2).3

has_either : {X : Type 0} (xs ys : List X) (x : X) → Has (xs ++ ys) x → Has xs x ⊎ Has ys x
has_either [] ys x h = inr h
has_either (y ∷ xs) ys x (inl same) = inl (inl same)
has_either (y ∷ xs) ys x (inr later) = elim (has_either xs ys x later) [ inl left ↦ inl (inr left) | inr right ↦ inr right ]

module _ (first : Bool) (db : Database) (pair : Pair first db) (records lines : List Row)
    (first_is : IsAnswer (asking (record_tree first) [] record_columns [] []) (overlay db.trees []) [] records) (then_is : IsAnswer (asking (line_tree first) [] line_columns [] []) (overlay db.trees []) [] lines) where
  abbrev Told : Row → Type 0
  Told x = (k : Key) × (body : List ℕ) × Stored (db.trees (record_tree first)) (db.trees (line_tree first)) k body × (x ≡ record_values k body)

  record_told : (x r : Row) → Has (db.trees (record_tree first)) r → x ≡ shown_of record_columns [] r → Told x
  record_told x r h is = let it = pair.records.each r h in (it.key, it.body, inl (it.id, subst (Has (db.trees (record_tree first))) it.is h), is ∙ ap (shown_of record_columns []) it.is)

  line_told : (x r : Row) → Has (db.trees (line_tree first)) r → x ≡ shown_of line_columns [] r → Told x
  line_told x r h is =
      let it = pair.lines.each r h in (line_key it.key, it.body, inr (it.key, refl, (it.id, subst (Has (db.trees (line_tree first))) it.is h)), is ∙ ap (shown_of line_columns []) it.is)

  pub reading : IsReading (db.trees (record_tree first)) (db.trees (line_tree first)) (records ++ lines)
  reading = record {
    sound = λ x h. elim (has_either records lines x h) [
      | inl here ↦ let it = shown_was (record_tree first) [] record_columns [] [] db.trees (record_bare first db.trees) [] records first_is x here in record_told x it.0 it.1 it.3
      | inr here ↦ let it = shown_was (line_tree first) [] line_columns [] [] db.trees (line_bare first db.trees) [] lines then_is x here in line_told x it.0 it.1 it.3
    ];
    complete = λ k body stored. elim stored [
      | inl stores ↦ has_left records lines _ (was_shown (record_tree first) [] record_columns [] [] db.trees (record_bare first db.trees) [] records first_is _ stores.1 refl)
      | inr line ↦ subst (λ q. Has (records ++ lines) (record_values q body)) (sym line.1)
          (has_right records lines _ (was_shown (line_tree first) [] line_columns [] [] db.trees (line_bare first db.trees) [] lines then_is _ line.2.1 refl))
    ];
  }
