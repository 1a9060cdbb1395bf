-- A table of sheets in two columns.
use Rattle.std.specs.Prelude.{◌≡◌, ℕ, List, length}
use Rattle.rule_book.specs.MatchFacts.{Sheet}
use Rattle.match_facts.specs.Columns.{IsAscending}

-- ascending fixtures, and a sheet for each
pub record IsTable (fixtures : List ℕ) (sheets : List Sheet) : Type 0 where
  pub ascending : IsAscending fixtures
  pub paired : length sheets ≡ length fixtures
