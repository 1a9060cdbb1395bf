-- The upserts of the two tables.
use Rattle.std.proofs.Common.{◌≡◌, ℕ, ℤ, pos, List, [], ◌∷◌, Bool, true, false, Some, refl, ◌∙◌}
use Rattle.sqlite_value.specs.declared.value.Value.{Value}
use Rattle.sqlite_value.specs.declared.value.Value.TheVariants.{Int, Blob}
use Rattle.sqlite_sql.specs.declared.ops.CompareOp.TheVariants.{Eq}
use Rattle.sqlite_schema.specs.declared.schema.Kind.TheVariants.{Integer}
use Rattle.sqlite_typed.proofs.TestLemmas.{at_ints}
use Rattle.sqlite_rules.specs.Cast.{cast, cast_row}
use Rattle.sqlite_rules.specs.Keys.{conflicts}
use Rattle.fpl_base.specs.declared.records.RecordKey.{RecordKey as Key}
use Rattle.season_keeper.specs.Table.{record_table, line_table, schema_of, two}
use Rattle.season_keeper.specs.Rows.{record_values, LineKey, line_values}
use Rattle.season_keeper.proofs.Texts.{record_terms, line_terms, record_update, line_update, record_tree, line_tree}
use Rattle.season_keeper.proofs.Forms.{record_form, line_form, same_record, same_line, record_agrees, line_agrees, and_true, or_false}
use Rattle.season_keeper.proofs.Putting.{Putting, cast_int}

pub record_cast : (tree : ℕ) (id : Value) (k : Key) (body : List ℕ) → cast_row (record_table tree) (id ∷ record_values k body) ≡ cast Integer id ∷ record_values k body
record_cast tree id k body =
    let kind = cast_int (pos k.kind) in
    let a = cast_int (pos k.a) in
    let b = cast_int (pos k.b) in
    let c = cast_int (pos k.c) in
    λ i. cast Integer id ∷ kind i ∷ a i ∷ b i ∷ c i ∷ Blob body ∷ []

pub line_cast : (tree : ℕ) (id : Value) (k : LineKey) (body : List ℕ) → cast_row (line_table tree) (id ∷ line_values k body) ≡ cast Integer id ∷ line_values k body
line_cast tree id k body =
    let a = cast_int (pos k.a) in
    let b = cast_int (pos k.b) in
    let c = cast_int (pos k.c) in
    λ i. cast Integer id ∷ a i ∷ b i ∷ c i ∷ Blob body ∷ []

pub record_conflict : (first : Bool) (k m : Key) (i j : ℤ) (x y : List ℕ)
    → conflicts (Some (1 ∷ 2 ∷ 3 ∷ 4 ∷ [])) (schema_of (two first)).indexes (record_table (record_tree first)) (Int i ∷ record_values k x) (Int j ∷ record_values m y) ≡ same_record k m
record_conflict false k m i j x y = or_false _ ∙ record_agrees j i m k y x
record_conflict true k m i j x y = or_false _ ∙ record_agrees j i m k y x

pub line_conflict : (first : Bool) (k m : LineKey) (i j : ℤ) (x y : List ℕ)
    → conflicts (Some (1 ∷ 2 ∷ 3 ∷ [])) (schema_of (two first)).indexes (line_table (line_tree first)) (Int i ∷ line_values k x) (Int j ∷ line_values m y) ≡ same_line k m
line_conflict false k m i j x y = or_false _ ∙ line_agrees j i m k y x
line_conflict true k m i j x y = or_false _ ∙ line_agrees j i m k y x

abbrev pub record_putting : (first : Bool) → Putting (record_form first)
record_putting first = record {
  terms = record_terms;
  width = 6;
  at = 5;
  update = record_update;
  sources = λ k body. refl;
  casts = record_cast (record_tree first);
  conflict_is = record_conflict first;
  there_is = λ was new id k m body more. and_true _ ∙ at_ints false Eq id was;
  updated_is = λ was new k body old. refl;
}

abbrev pub line_putting : (first : Bool) → Putting (line_form first)
line_putting first = record {
  terms = line_terms;
  width = 5;
  at = 4;
  update = line_update;
  sources = λ k body. refl;
  casts = line_cast (line_tree first);
  conflict_is = line_conflict first;
  there_is = λ was new id k m body more. and_true _ ∙ at_ints false Eq id was;
  updated_is = λ was new k body old. refl;
}
