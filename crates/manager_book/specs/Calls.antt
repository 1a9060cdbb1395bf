-- What refuses a manager's calls, by the rows that his entry has.
use Rattle.std.specs.Prelude.{◌≡◌, ◌≢◌, ◌≤◌, AllPairs, ◌+◌, ℕ, Bool, false, ◌==◌, List, length, map, Option, Some, None, is_some}
use Rattle.std.specs.List.{AllByRecursion as Each}
use Rattle.std.specs.Option.{option_map_or}
use Rattle.fpl_base.specs.declared.kinds.Chip.{Chip}
use Rattle.fpl_base.specs.declared.kinds.Chip.TheVariants.{None as NoChip}
use Rattle.fpl_base.specs.declared.kinds.Position.{Position}
use Rattle.fpl_base.specs.declared.rule.Rule.{Rule}
use Rattle.rule_book.specs.declared.player.Player.{Player}
use Rattle.rule_book.specs.declared.team.Team.{Team}
use Rattle.rule_book.specs.declared.transfers.Swap.{Swap}
use Rattle.rule_book.specs.declared.transfers.Sale.{Sale}
use Rattle.rule_book.specs.Batch.{sales_of, HavePositions, IsTeamAfter}
use Rattle.rule_book.specs.EntryCalls.{cancel_refusal, cost_of, first_stranger, lined_picks, lineup_call_refusal, picks_from, play_refusal, register_refusal, slot_of, transfer_limit, transfer_refusal}
use Rattle.rule_book.specs.History.{Event}
use Rattle.rule_book.specs.HistoryTransfers.{used_before}
use Rattle.rule_book.specs.Repeats.{first_repeat}
use Rattle.rule_book.specs.Squads.{players_of}
use Rattle.season_ledger.specs.declared.row.Row.{Row}
use Rattle.season_ledger.specs.Rows.{standing_at, team_in, chip_by, used_by, first_in, IsFitTeam}
use Rattle.season_ledger.specs.Batches.{BatchOn, LineupOn}
use Rattle.season_ledger.specs.Stands.{IsPlaced, StandsFor}

-- an entry is registered once it has a row
abbrev pub is_registered : List Row → Bool
is_registered rows = is_some (first_in rows)

abbrev pub is_first : List Row → ℕ → Bool
is_first rows g = option_map_or (λ s. s == g) (first_in rows) false

abbrev pub team_at : List Row → ℕ → Option Team
team_at rows g = team_in (standing_at rows g)

abbrev pub register_broken : List Row → List Player → List ℕ → ℕ → ℕ → Option Rule
register_broken rows players squad captain vice = register_refusal (is_registered rows) players squad captain vice

-- the same where captain and vice-captain are players
abbrev pub squad_broken : List Row → List Player → List ℕ → ℕ → ℕ → Option Rule
squad_broken rows players squad captain vice = register_broken rows players squad (slot_of squad captain) (slot_of squad vice)

abbrev pub limit_by : List Row → ℕ → ℕ
limit_by rows g = transfer_limit (is_first rows g) (chip_by rows g)

abbrev pub transfer_broken : List Row → List Player → List Swap → ℕ → Option Rule
transfer_broken rows players swaps g = transfer_refusal (is_registered rows) (used_by rows g) (limit_by rows g) (team_at rows g) players swaps

abbrev pub lineup_broken : List Row → List ℕ → ℕ → ℕ → ℕ → Option Rule
lineup_broken rows order captain vice g = lineup_call_refusal (is_registered rows) (team_at rows g) order captain vice

-- the same where captain and vice-captain are players
abbrev pub order_broken : List Row → List ℕ → ℕ → ℕ → ℕ → Option Rule
order_broken rows order captain vice g = lineup_broken rows order (slot_of order captain) (slot_of order vice) g

abbrev pub play_broken : List Row → ℕ → Chip → ℕ → Option Rule
play_broken rows split chip g = play_refusal (is_registered rows) (is_first rows g) (chip_by rows g) (used_before split (chip_by rows) chip g) chip

abbrev pub cancel_broken : List Row → ℕ → Option Rule
cancel_broken rows g = cancel_refusal (is_registered rows) (chip_by rows g)

-- the sales of a batch, each with its gameweek
abbrev pub with_gameweek : ℕ → List Sale → List (ℕ × Sale)
with_gameweek g sales = map {B = ℕ × Sale} (λ s. (g, s)) sales

-- a team in another order: its own picks, each once
pub record IsLined (order : List ℕ) (c v : ℕ) (t u : Team) : Type 0 where
  pub held : first_stranger t.picks order ≡ None
  pub once : first_repeat order ≡ None
  pub picks : u.picks ≡ lined_picks t.picks order
  pub captain : u.captain ≡ c
  pub vice : u.vice ≡ v
  pub bank : u.bank ≡ t.bank
  pub chip : u.chip ≡ t.chip

-- a first team: each player bought at his present price, and 1000 less what they cost
pub record IsFirstOf (players : List Player) (squad : List ℕ) (c v : ℕ) (u : Team) : Type 0 where
  pub picks : u.picks ≡ picks_from players squad
  pub distinct : AllPairs (λ one other. one ≢ other) (players_of u.picks)
  pub captain : u.captain ≡ c
  pub vice : u.vice ≡ v
  pub bank : u.bank + cost_of u.picks ≡ 1000
  pub chip : u.chip ≡ NoChip

-- A batch on the team that stands moves money exactly by its sales: they are those of the team before, and the team is
-- the one after them. It fits the rows.
pub record IsBatchOf (g : ℕ) (players : List Player) (swaps : List Swap) (rows : List Row) (sales : List Sale) (after : Team) : Type 0 where
  pub before : Team
  pub stood : team_at rows g ≡ Some before
  pub sold : sales ≡ sales_of players before.picks swaps
  pub team : IsTeamAfter sales before after
  pub few : used_by rows g + length sales ≤ 1000
  pub on : BatchOn sales (standing_at rows g) after
  pub cheap : Each (λ s. s.sold ≤ 200) sales
  pub fit : IsFitTeam after
  pub placed : (position : ℕ → Position) (h : List Event)
      → HavePositions position players → StandsFor position rows h → IsPlaced position after.picks

-- an order of the team that stands: the team in it, which fits the rows
pub record IsLineupOf (g : ℕ) (order : List ℕ) (c v : ℕ) (rows : List Row) (after : Team) : Type 0 where
  pub before : Team
  pub stood : team_at rows g ≡ Some before
  pub lined : IsLined order c v before after
  pub named : players_of after.picks ≡ order
  pub on : LineupOn (standing_at rows g) after
  pub fit : IsFitTeam after
  pub placed : (position : ℕ → Position) (h : List Event) → StandsFor position rows h → IsPlaced position after.picks
