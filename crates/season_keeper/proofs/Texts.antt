-- What the texts of the keeper mean.
use Rattle.std.proofs.Common.{◌≡◌, ℕ, pos, negsuc, List, [], ◌∷◌, codes, Bool, true, false, Some, None, Ok, refl}
use Rattle.sqlite_value.specs.declared.value.Value.TheVariants.{Null, Int}
use Rattle.sqlite_value.specs.declared.keys.Key.{Key}
use Rattle.sqlite_value.specs.declared.keys.Collation.{Collation}
use Rattle.sqlite_value.specs.declared.keys.Collation.TheVariants.{Binary}
use Rattle.sqlite_sql.specs.Term.{Term, lit, col, op2}
use Rattle.sqlite_sql.specs.declared.ops.BinaryOp.TheVariants.{Compare}
use Rattle.sqlite_sql.specs.declared.ops.CompareOp.{CompareOp}
use Rattle.sqlite_sql.specs.declared.ops.CompareOp.TheVariants.{Eq}
use Rattle.sqlite_sql.specs.Query.{Query, inner, end}
use Rattle.sqlite_schema.specs.declared.command.Upsert.{Upsert}
use Rattle.sqlite_schema.specs.declared.command.Source.TheVariants as source
use Rattle.sqlite_schema.specs.declared.command.Conflict.TheVariants.{Abort}
use Rattle.sqlite_schema.specs.declared.command.Command.{Command}
use Rattle.sqlite_schema.specs.declared.command.Command.TheVariants.{Insert, InsertOr, Select, Delete, CreateTable, Nothing}
use Rattle.sqlite_schema.specs.declared.program.Program.{Program}
use Rattle.sqlite_schema.specs.declared.schema.Schema.{Schema}
use Rattle.sqlite_resolve.specs.Compile.{table_defined_by}
use Rattle.sqlite_catalog.specs.Change.{created}
use Rattle.sqlite_tied.specs.Compute.{everything}
use Rattle.sqlite.specs.Listing.{understood, reads_listing}
use Rattle.sqlite.proofs.Callers.{IsPlain, command_of, statement_of}
use Rattle.season_keeper.specs.Table.{record_table, line_table, Tables, neither, record_alone, line_alone, record_first, line_first, schema_of, two}

-- the text means the command, over the schema
pub record Means (schema : Schema) (text : List ℕ) (command : Command) : Type 0 where
  pub command_is : command_of (understood schema text) ≡ command
  pub plain : IsPlain (understood schema text)

-- ---- where the two tables stand, by which was made first

abbrev pub record_place : Bool → ℕ
record_place false = 0
record_place true = 1

abbrev pub record_tree : Bool → ℕ
record_tree false = 0
record_tree true = 2

abbrev pub line_place : Bool → ℕ
line_place false = 1
line_place true = 0

abbrev pub line_tree : Bool → ℕ
line_tree false = 2
line_tree true = 0

-- ---- the making of the tables

abbrev pub make_record : List ℕ
make_record = codes "CREATE TABLE IF NOT EXISTS record (kind INTEGER NOT NULL, a INTEGER NOT NULL, b INTEGER NOT NULL, c INTEGER NOT NULL, body BLOB NOT NULL, PRIMARY KEY (kind, a, b, c)) STRICT"

abbrev pub make_line : List ℕ
make_line = codes "CREATE TABLE IF NOT EXISTS line (a INTEGER NOT NULL, b INTEGER NOT NULL, c INTEGER NOT NULL, body BLOB NOT NULL, PRIMARY KEY (a, b, c)) STRICT"

pub record_defined : table_defined_by make_record ≡ Ok (record_table 0)
unfolding understood everything
record_defined = refl

pub line_defined : table_defined_by make_line ≡ Ok (line_table 0)
unfolding understood everything
line_defined = refl

-- where the table is not there, the text makes it
pub record Makes (before : Tables) (text : List ℕ) : Type 0 where
  pub means : Means (schema_of before) text CreateTable
  pub whole : statement_of text (understood (schema_of before) text) ≡ text

pub neither_makes_record : Makes neither make_record
unfolding understood everything
neither_makes_record = record { means = record { command_is = refl; plain = (refl, refl) }; whole = refl }

pub line_makes_record : Makes line_alone make_record
unfolding understood everything
line_makes_record = record { means = record { command_is = refl; plain = (refl, refl) }; whole = refl }

pub record_makes_line : Makes record_alone make_line
unfolding understood everything
record_makes_line = record { means = record { command_is = refl; plain = (refl, refl) }; whole = refl }

pub neither_made : created (schema_of neither) (record_table 0) ≡ schema_of record_alone
unfolding understood everything
neither_made = refl

pub line_made : created (schema_of line_alone) (record_table 0) ≡ schema_of line_first
unfolding understood everything
line_made = refl

pub record_made : created (schema_of record_alone) (line_table 0) ≡ schema_of record_first
unfolding understood everything
record_made = refl

-- where it is there, nothing is done
pub record_rests : Means (schema_of record_alone) make_record Nothing
unfolding understood everything
record_rests = record { command_is = refl; plain = (refl, refl) }

pub two_rest_record : (first : Bool) → Means (schema_of (two first)) make_record Nothing
unfolding understood everything
two_rest_record false = record { command_is = refl; plain = (refl, refl) }
two_rest_record true = record { command_is = refl; plain = (refl, refl) }

pub two_rest_line : (first : Bool) → Means (schema_of (two first)) make_line Nothing
unfolding understood everything
two_rest_line false = record { command_is = refl; plain = (refl, refl) }
two_rest_line true = record { command_is = refl; plain = (refl, refl) }

-- ---- queries

-- a query over one table
abbrev pub asking : ℕ → List Term → List Term → List Collation → List (Term × Key) → Query
asking tree filter project collations order = record {
  from = inner tree end;
  filter = filter;
  group = None;
  project = project;
  distinct = false;
  collations = collations;
  order = order;
  limit = lit (Int (negsuc 0));
  offset = lit (Int (pos 0));
}

abbrev pub program : Query → Program
program query = record { lets = []; body = query }

abbrev equals : Term → Term → Term
equals = op2 (Compare Eq Binary)

abbrev pub record_filter : List Term
record_filter = equals (col 1 1) (col 0 0) ∷ equals (col 1 2) (col 0 1) ∷ equals (col 1 3) (col 0 2) ∷ equals (col 1 4) (col 0 3) ∷ []

abbrev pub line_filter : List Term
line_filter = equals (col 1 1) (col 0 0) ∷ equals (col 1 2) (col 0 1) ∷ equals (col 1 3) (col 0 2) ∷ []

-- ---- deletions

abbrev pub rowids : List Term
rowids = col 1 0 ∷ []

abbrev pub delete_record : List ℕ
delete_record = codes "DELETE FROM record WHERE kind = ?1 AND a = ?2 AND b = ?3 AND c = ?4"

abbrev pub delete_line : List ℕ
delete_line = codes "DELETE FROM line WHERE a = ?1 AND b = ?2 AND c = ?3"

pub delete_record_means : (first : Bool) → Means (schema_of (two first)) delete_record (Delete (record_place first) (program (asking (record_tree first) record_filter rowids [] [])))
unfolding understood everything
delete_record_means false = record { command_is = refl; plain = (refl, refl) }
delete_record_means true = record { command_is = refl; plain = (refl, refl) }

pub delete_line_means : (first : Bool) → Means (schema_of (two first)) delete_line (Delete (line_place first) (program (asking (line_tree first) line_filter rowids [] [])))
unfolding understood everything
delete_line_means false = record { command_is = refl; plain = (refl, refl) }
delete_line_means true = record { command_is = refl; plain = (refl, refl) }

-- ---- upserts

abbrev pub put_record : List ℕ
put_record = codes "INSERT INTO record (kind, a, b, c, body) VALUES (?1, ?2, ?3, ?4, ?5) ON CONFLICT (kind, a, b, c) DO UPDATE SET body = excluded.body"

abbrev pub put_line : List ℕ
put_line = codes "INSERT INTO line (a, b, c, body) VALUES (?1, ?2, ?3, ?4) ON CONFLICT (a, b, c) DO UPDATE SET body = excluded.body"

abbrev pub record_terms : List Term
record_terms = lit Null ∷ col 0 0 ∷ col 0 1 ∷ col 0 2 ∷ col 0 3 ∷ col 0 4 ∷ []

abbrev pub line_terms : List Term
line_terms = lit Null ∷ col 0 0 ∷ col 0 1 ∷ col 0 2 ∷ col 0 3 ∷ []

-- the row that is there, by its rowid
abbrev pub there_by : ℕ → List Term
there_by at = equals (col 1 0) (col 0 at) ∷ []

-- it keeps its rowid and its key
abbrev pub record_update : List Term
record_update = col 1 0 ∷ col 1 0 ∷ col 1 1 ∷ col 1 2 ∷ col 1 3 ∷ col 1 4 ∷ col 0 11 ∷ []

abbrev pub line_update : List Term
line_update = col 1 0 ∷ col 1 0 ∷ col 1 1 ∷ col 1 2 ∷ col 1 3 ∷ col 0 9 ∷ []

abbrev pub upserting : ℕ → List ℕ → ℕ → List Term → Upsert
upserting tree places at update = record { target = Some places; update = Some (program (asking tree (there_by at) update [] [])) }

pub put_record_means : (first : Bool)
    → Means (schema_of (two first)) put_record (InsertOr (record_place first) Abort (source.Values record_terms 6) (upserting (record_tree first) (1 ∷ 2 ∷ 3 ∷ 4 ∷ []) 5 record_update ∷ []))
unfolding understood everything
put_record_means false = record { command_is = refl; plain = (refl, refl) }
put_record_means true = record { command_is = refl; plain = (refl, refl) }

pub put_line_means : (first : Bool)
    → Means (schema_of (two first)) put_line (InsertOr (line_place first) Abort (source.Values line_terms 5) (upserting (line_tree first) (1 ∷ 2 ∷ 3 ∷ []) 4 line_update ∷ []))
unfolding understood everything
put_line_means false = record { command_is = refl; plain = (refl, refl) }
put_line_means true = record { command_is = refl; plain = (refl, refl) }

-- ---- the move

abbrev pub insert_lines : List ℕ
insert_lines = codes "INSERT INTO line (a, b, c, body) SELECT a, b, c, body FROM record WHERE kind = 5"

abbrev pub clear_lines : List ℕ
clear_lines = codes "DELETE FROM record WHERE kind = 5"

-- the kind stands so to 5
abbrev pub is_kind : CompareOp → List Term
is_kind op = op2 (Compare op Binary) (col 1 1) (lit (Int (pos 5))) ∷ []

abbrev pub as_line : List Term
as_line = lit Null ∷ col 1 2 ∷ col 1 3 ∷ col 1 4 ∷ col 1 5 ∷ []

pub insert_lines_means : (first : Bool)
    → Means (schema_of (two first)) insert_lines (Insert (line_place first) (source.Query (program (asking (record_tree first) (is_kind Eq) as_line (Binary ∷ Binary ∷ Binary ∷ Binary ∷ Binary ∷ []) []))))
unfolding understood everything
insert_lines_means false = record { command_is = refl; plain = (refl, refl) }
insert_lines_means true = record { command_is = refl; plain = (refl, refl) }

pub clear_lines_means : (first : Bool) → Means (schema_of (two first)) clear_lines (Delete (record_place first) (program (asking (record_tree first) (is_kind Eq) rowids [] [])))
unfolding understood everything
clear_lines_means false = record { command_is = refl; plain = (refl, refl) }
clear_lines_means true = record { command_is = refl; plain = (refl, refl) }

-- ---- readings

abbrev pub read_records : List ℕ
read_records = codes "SELECT kind, a, b, c, body FROM record"

abbrev pub read_lines : List ℕ
read_lines = codes "SELECT 5, a, b, c, body FROM line"

abbrev pub record_names : List (List ℕ)
record_names = codes "kind" ∷ codes "a" ∷ codes "b" ∷ codes "c" ∷ codes "body" ∷ []

abbrev pub line_names : List (List ℕ)
line_names = codes "5" ∷ codes "a" ∷ codes "b" ∷ codes "c" ∷ codes "body" ∷ []

-- the columns of `record`, and those of `line` behind the kind 5
abbrev pub record_columns : List Term
record_columns = col 1 1 ∷ col 1 2 ∷ col 1 3 ∷ col 1 4 ∷ col 1 5 ∷ []

abbrev pub line_columns : List Term
line_columns = lit (Int (pos 5)) ∷ col 1 1 ∷ col 1 2 ∷ col 1 3 ∷ col 1 4 ∷ []

-- the text is a query, and asks for nothing of the schema's own list
pub record Reads (schema : Schema) (text : List ℕ) (query : Query) (names : List (List ℕ)) : Type 0 where
  pub means : Means schema text (Select (program query) names)
  pub unlisted : reads_listing schema text ≡ false

pub reads_records : (first : Bool) → Reads (schema_of (two first)) read_records (asking (record_tree first) [] record_columns [] []) record_names
unfolding understood everything
reads_records false = record { means = record { command_is = refl; plain = (refl, refl) }; unlisted = refl }
reads_records true = record { means = record { command_is = refl; plain = (refl, refl) }; unlisted = refl }

pub reads_lines : (first : Bool) → Reads (schema_of (two first)) read_lines (asking (line_tree first) [] line_columns [] []) line_names
unfolding understood everything
reads_lines false = record { means = record { command_is = refl; plain = (refl, refl) }; unlisted = refl }
reads_lines true = record { means = record { command_is = refl; plain = (refl, refl) }; unlisted = refl }
