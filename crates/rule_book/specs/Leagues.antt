-- What a league is.
use Rattle.std.specs.Prelude.{ℕ, List}
use Rattle.rule_book.specs.declared.league.LeagueKind.{LeagueKind}

-- its kind, its name, the code that joins it, its first gameweek, who created it, its members by ascending id, and the
-- order in which a head-to-head league was drawn, empty before
pub record LeagueFacts : Type 0 where
  pub kind : LeagueKind
  pub name : List ℕ
  pub code : List ℕ
  pub start : ℕ
  pub creator : ℕ
  pub members : List ℕ
  pub order : List ℕ
