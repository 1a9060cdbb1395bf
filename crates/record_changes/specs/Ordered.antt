-- Rows in order: what rows are that were made from records.
use Rattle.std.specs.Prelude.{◌≡◌, ◌<◌, ℕ, List, Some, AllPairs, length}
use Rattle.std.specs.List.{AllByRecursion as Each}
use Rattle.fpl_base.specs.declared.kinds.Position.{Position}
use Rattle.rule_book.specs.Batch.{HavePositions}
use Rattle.rule_book.specs.ById.{AreSorted, at_id}
use Rattle.rule_book.specs.Entries.{entry_in}
use Rattle.rule_book.specs.EntryRecords.{sales_in}
use Rattle.rule_book.specs.Leagues.{LeagueFacts}
use Rattle.rule_book.specs.declared.player.Player.{Player}
use Rattle.season_ledger.specs.Rows.{Rise}
use Rattle.season_ledger.specs.Stands.{IsPlaced}
use Rattle.season_ledger.specs.declared.row.Row.{Row}
use Rattle.manager_book.specs.declared.manager.Manager.{Manager}
use Rattle.season_book.specs.Book.{Facts, Last}
use Rattle.season_records.specs.Records.{made_id}
use Rattle.season_records.specs.Told.{AreInOrder, made_by}
use Rattle.season_running.specs.Standing.{HostRows, players_in}

-- a row has so many transfers as the manager's sales have in its gameweek, and each player of its team the position that
-- he has in the season
pub record IsRowInOrder (players : List Player) (manager : Manager) (row : Row) : Type 0 where
  pub made : row.standing.made ≡ length (sales_in manager.sales row.gw)
  pub placed : (position : ℕ → Position) → HavePositions position players → IsPlaced position row.standing.team.picks

-- the gameweeks of a manager's rows rise, and each row is in order
pub record IsManagerInOrder (players : List Player) (manager : Manager) : Type 0 where
  pub rise : Rise manager.season
  pub rows : Each (IsRowInOrder players manager) manager.season

-- rows in order: facts, members and last commands by ascending id, each manager's rows in order, and each last command
-- made what such a one makes
pub record AreRowsInOrder (rows : HostRows) : Type 0 where
  pub facts : (facts : Facts) → rows.facts ≡ Some facts → AreInOrder facts
  pub managers : Each (IsManagerInOrder (players_in rows.facts)) rows.managers
  pub members : (l : ℕ) (league : LeagueFacts) → entry_in rows.leagues l ≡ Some league → AllPairs (λ m n. m < n) league.members
  pub lasts : AreSorted rows.lasts
  pub makes : (c : ℕ) (last : Last) → at_id rows.lasts c ≡ Some last → last.made ≡ made_by last.command (made_id last.made)
