-- What judging a deed works out, and what keeping that leaves.
use Rattle.std.specs.Prelude.{◌≡◌, ◌≤◌, ◌<◌, ◌+◌, ℕ, true, List, [], ◌∷◌, length, map, ⊤}
use Rattle.std.specs.List.{AllByRecursion as Each}
use Rattle.fpl_base.specs.declared.kinds.Chip.{Chip}
use Rattle.fpl_base.specs.declared.kinds.Chip.TheVariants.{None as NoChip}
use Rattle.fpl_base.specs.declared.kinds.Position.{Position}
use Rattle.rule_book.specs.declared.player.Player.{Player}
use Rattle.rule_book.specs.declared.team.Team.{Team}
use Rattle.rule_book.specs.declared.transfers.Sale.{Sale}
use Rattle.rule_book.specs.declared.transfers.Swap.{Swap}
use Rattle.rule_book.specs.Batch.{HavePositions}
use Rattle.rule_book.specs.EntryCalls.{slot_of}
use Rattle.rule_book.specs.History.{Deed, Event, is_free_hit}
use Rattle.rule_book.specs.History.Deed.{First, Swap as Swapped, Lineup, Play, Cancel}
use Rattle.rule_book.specs.HistoryTeam.{holdings}
use Rattle.rule_book.specs.PlayerFigures.{position_in}
use Rattle.season_ledger.specs.declared.row.Row.{Row}
use Rattle.season_ledger.specs.Rows.{AllUpTo, IsFitTeam, is_past, put_chip, put_row, standing_at, used_by}
use Rattle.season_ledger.specs.Batches.{BatchOn, CanCancel, CanPlay, IsFirstTeam, LineupOn, players_of}
use Rattle.season_ledger.specs.Stands.{IsPlaced, StandsFor}
use Rattle.manager_book.specs.Calls.{IsBatchOf, IsFirstOf, IsLineupOf, with_gameweek}
use Rattle.manager_book.specs.declared.deed.JudgedDeed.{JudgedDeed}
use Rattle.manager_book.specs.declared.deed.JudgedDeed.TheVariants as judged

-- What keeping it leaves.

-- the gameweek in which it is done
abbrev pub gameweek_of : JudgedDeed → ℕ
gameweek_of (judged.Squad g team) = g
gameweek_of (judged.Transfers g team sales) = g
gameweek_of (judged.Lineup g team) = g
gameweek_of (judged.Chip g chip) = g
gameweek_of (judged.Cancel g) = g

-- the rows of its entry behind it: the row of its gameweek has the team after it, a batch's more transfers by its sales
abbrev pub rows_behind : List Row → JudgedDeed → List Row
rows_behind rows (judged.Squad g team) = put_row rows g (record { made = 0; team = team })
rows_behind rows (judged.Transfers g team sales) = put_row rows g (record { made = used_by rows g + length sales; team = team })
rows_behind rows (judged.Lineup g team) = put_row rows g (record { made = used_by rows g; team = team })
rows_behind rows (judged.Chip g chip) = put_chip rows g chip
rows_behind rows (judged.Cancel g) = put_chip rows g NoChip

-- the sales that come to those of its entry
abbrev pub sales_made : JudgedDeed → List (ℕ × Sale)
sales_made (judged.Transfers g team sales) = with_gameweek g sales
sales_made other = []

-- what it adds to a history
abbrev pub deeds_of : JudgedDeed → List Deed
deeds_of (judged.Squad g team) = First (holdings team.picks) team.captain team.vice ∷ []
deeds_of (judged.Transfers g team sales) = map Swapped sales
deeds_of (judged.Lineup g team) = Lineup (players_of team) team.captain team.vice ∷ []
deeds_of (judged.Chip g chip) = Play chip ∷ []
deeds_of (judged.Cancel g) = Cancel ∷ []

-- When it can be kept.

pub record SquadFits (rows : List Row) (team : Team) : Type 0 where
  pub new : rows ≡ []
  pub first : IsFirstTeam team
  pub fit : IsFitTeam team

pub record BatchFits (rows : List Row) (g : ℕ) (team : Team) (sales : List Sale) : Type 0 where
  pub later : AllUpTo g rows
  pub some : 0 < length sales
  pub few : used_by rows g + length sales ≤ 1000
  pub on : BatchOn sales (standing_at rows g) team
  pub cheap : Each (λ s. s.sold ≤ 200) sales
  pub fit : IsFitTeam team

pub record LineupFits (rows : List Row) (g : ℕ) (team : Team) : Type 0 where
  pub later : AllUpTo g rows
  pub on : LineupOn (standing_at rows g) team
  pub fit : IsFitTeam team

pub record ChipFits (rows : List Row) (g : ℕ) (chip : Chip) : Type 0 where
  pub later : AllUpTo g rows
  pub free : CanPlay (standing_at rows g)
  pub early : is_free_hit chip ≡ true → is_past rows g ≡ true

pub record CancelFits (rows : List Row) (g : ℕ) : Type 0 where
  pub later : AllUpTo g rows
  pub played : CanCancel (standing_at rows g)

-- it fits the rows of its entry
abbrev pub Fits : List Row → JudgedDeed → Type 0
Fits rows (judged.Squad g team) = SquadFits rows team
Fits rows (judged.Transfers g team sales) = BatchFits rows g team sales
Fits rows (judged.Lineup g team) = LineupFits rows g team
Fits rows (judged.Chip g chip) = ChipFits rows g chip
Fits rows (judged.Cancel g) = CancelFits rows g

-- the picks of a team that it leaves have these positions
abbrev pub HasPlaced : (ℕ → Position) → JudgedDeed → Type 0
HasPlaced position (judged.Squad g team) = IsPlaced position team.picks
HasPlaced position (judged.Transfers g team sales) = IsPlaced position team.picks
HasPlaced position (judged.Lineup g team) = IsPlaced position team.picks
HasPlaced position other = ⊤

-- What judging works out.

-- a first squad: the team is that of the players at their present prices
abbrev pub IsSquadDeed : ℕ → List Player → List ℕ → ℕ → ℕ → JudgedDeed → Type 0
IsSquadDeed g players squad captain vice (judged.Squad at team) =
    (at ≡ g) × IsFirstOf players squad (slot_of squad captain) (slot_of squad vice) team
IsSquadDeed g players squad captain vice other = ⊥

-- a batch: the sales are those of the team that stands, and the team is the one after them
abbrev pub IsBatchDeed : ℕ → List Player → List Swap → List Row → JudgedDeed → Type 0
IsBatchDeed g players swaps rows (judged.Transfers at team sales) = (at ≡ g) × IsBatchOf g players swaps rows sales team
IsBatchDeed g players swaps rows other = ⊥

-- an order of the fifteen: the team is the one that stands, in this order
abbrev pub IsLineupDeed : ℕ → List ℕ → ℕ → ℕ → List Row → JudgedDeed → Type 0
IsLineupDeed g order captain vice rows (judged.Lineup at team) =
    (at ≡ g) × IsLineupOf g order (slot_of order captain) (slot_of order vice) rows team
IsLineupDeed g order captain vice rows other = ⊥

-- A deed in gameweek g was worked out: it fits the rows, has its players at their positions, and adds these deeds to each
-- history for which the rows stand.
pub record IsWorkedOut (g : ℕ) (players : List Player) (rows : List Row) (added : List Event → List Deed) (deed : JudgedDeed) : Type 0 where
  pub gameweek : gameweek_of deed ≡ g
  pub fits : Fits rows deed
  pub placed : (position : ℕ → Position) (h : List Event)
      → HavePositions position players → StandsFor position rows h → HasPlaced position deed
  pub adds : (h : List Event) → StandsFor (position_in players) rows h → deeds_of deed ≡ added h
