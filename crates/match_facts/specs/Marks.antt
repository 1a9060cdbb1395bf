-- Which players may have a line.
use Rattle.std.specs.Prelude.{◌≡◌, ◌%◌, ℕ, Bool, false, List, None, slice_index_or}
use Rattle.std.specs.List.{zip}
use Rattle.rule_book.specs.declared.line.Line.{Line}
use Rattle.rule_book.specs.MatchFacts.{Lines, line_in}
use Rattle.match_facts.specs.Columns.{AreColumns}

-- who is not marked has no line
abbrev pub AreMarked : List Bool → Lines → Type 0
AreMarked marks lines = (player : ℕ) → slice_index_or marks (player % 256) false ≡ false → line_in lines player ≡ None

-- columns, and the marks of their players
pub record AreMarkedColumns (players : List ℕ) (lines : List Line) (marks : List Bool) : Type 0 where
  pub columns : AreColumns players lines
  pub marked : AreMarked marks (zip players lines)
