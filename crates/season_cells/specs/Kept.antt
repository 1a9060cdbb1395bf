-- The cells of a running season.
use Rattle.std.specs.Prelude.{List}
use Rattle.rule_book.specs.declared.cup.Bracket.{Bracket}
use Rattle.rule_book.specs.Leagues.{LeagueFacts}
use Rattle.manager_book.specs.declared.manager.Manager.{Manager}
use Rattle.season_book.specs.Book.{Facts}
use Rattle.season_graph.specs.Followed.{AreEvaluated}
use Rattle.season_nodes.specs.Held.{SeasonRows}
use Rattle.season_nodes.specs.IndexFacts.{IndexRows, IsIndex, holders_in}
use Rattle.season_nodes.specs.Season.{IsSeason, SeasonFacts}
use Rattle.season_views.specs.Cells.{books_seen}

-- a season, managers who play by its rules, leagues and cups, as cells see them
abbrev pub season_seen : Facts → List Manager → List LeagueFacts → List Bracket → SeasonFacts
season_seen facts managers leagues cups = books_seen facts (record { profile = facts.profile; managers = managers }) leagues cups

-- cells, and who holds whom, as contracts see them
pub record CellRows : Type 0 where
  pub cells : SeasonRows
  pub index : IndexRows

-- they are those of some facts: each cell holds what the rule book tells of its node
pub record AreCellsOf (b : SeasonFacts) (kept : CellRows) : Type 0 where
  pub season : IsSeason b
  pub index : IsIndex b (holders_in kept.index)
  pub evaluated : AreEvaluated b kept.cells
