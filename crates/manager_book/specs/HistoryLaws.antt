-- Rows refuse a manager's calls as every history that they stand for does.
use Rattle.std.specs.Prelude.{◌≡◌, ℕ, List, Some, map}
use Rattle.fpl_base.specs.declared.kinds.Chip.{Chip}
use Rattle.rule_book.specs.declared.player.Player.{Player}
use Rattle.rule_book.specs.declared.team.Team.{Team}
use Rattle.rule_book.specs.declared.transfers.Swap.{Swap}
use Rattle.rule_book.specs.Batch.{sales_of}
use Rattle.rule_book.specs.EntryCalls.{batch_deeds, batch_refused, cancel_refused, chip_refused, lineup_refused, squad_refused}
use Rattle.rule_book.specs.History.{Event}
use Rattle.rule_book.specs.History.Deed.{Swap as Swapped}
use Rattle.rule_book.specs.PlayerFigures.{position_in}
use Rattle.rule_book.specs.TeamOfHistory.{team_of}
use Rattle.season_ledger.specs.declared.row.Row.{Row}
use Rattle.season_ledger.specs.Stands.{StandsFor}
use Rattle.manager_book.specs.Calls.{cancel_broken, order_broken, play_broken, squad_broken, team_at, transfer_broken}

-- rows refuse what a history refuses in gameweek g, call by call; the team that stands is the history's, and a batch
-- makes the same sales
pub record RefuseAlike (players : List Player) (rows : List Row) (h : List Event) (g : ℕ) : Type 0 where
  pub squad : (fifteen : List ℕ) (captain vice : ℕ)
      → squad_broken rows players fifteen captain vice ≡ squad_refused players h fifteen captain vice
  pub batch : (swaps : List Swap) → transfer_broken rows players swaps g ≡ batch_refused players h swaps g
  pub lineup : (order : List ℕ) (captain vice : ℕ)
      → order_broken rows order captain vice g ≡ lineup_refused players h order captain vice g
  pub chip : (split : ℕ) (played : Chip) → play_broken rows split played g ≡ chip_refused h split played g
  pub cancel : cancel_broken rows g ≡ cancel_refused h g
  pub team : (before : Team) → team_at rows g ≡ Some before → before ≡ team_of (position_in players) h g
  pub deeds : (swaps : List Swap) (before : Team) → team_at rows g ≡ Some before
      → map Swapped (sales_of players before.picks swaps) ≡ batch_deeds players h swaps g

abbrev pub RowsAlwaysRefuseAlike : Type 0
RowsAlwaysRefuseAlike = (players : List Player) (rows : List Row) (h : List Event) (g : ℕ)
    → StandsFor (position_in players) rows h → RefuseAlike players rows h g
