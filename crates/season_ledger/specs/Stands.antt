-- The histories that rows stand for.
use Rattle.std.specs.Prelude.{◌≡◌, ℕ, true, false, List, [], ◌∷◌, Option, Some, None, ⊤}
use Rattle.fpl_base.specs.declared.kinds.Chip.{Chip}
use Rattle.fpl_base.specs.declared.kinds.Position.{Position}
use Rattle.fpl_base.specs.declared.kinds.Profile.{Profile}
use Rattle.rule_book.specs.declared.team.Pick.{Pick}
use Rattle.rule_book.specs.History.{Event, chip_at, is_touched}
use Rattle.rule_book.specs.HistoryRules.{FirstTold, IsHistory, NoneAfter}
use Rattle.rule_book.specs.HistoryTransfers.{FreeTold, cost_at, counted_through, swaps_in, used_before}
use Rattle.rule_book.specs.HistoryTeam.{IsTeam, TeamTold}
use Rattle.season_ledger.specs.declared.row.Standing.{Standing}
use Rattle.season_ledger.specs.declared.row.Row.{Row}
use Rattle.season_ledger.specs.Rows.{row_at, chip_by, used_by, free_in, cost_by, counted_by, first_in, standing_at, team_in, AllUpTo, Rise}

-- a gameweek has a row exactly where something was done in it, and the row has its team and how many swaps it had
abbrev pub Tells : (ℕ → Position) → List Event → ℕ → Option Standing → Type 0
Tells position h g None = is_touched h g ≡ false
Tells position h g (Some s) = (is_touched h g ≡ true) × IsTeam position h g s.team × (s.made ≡ swaps_in h g)

-- rows stand for a history: their gameweeks rise, and they tell it in each
pub record StandsFor (position : ℕ → Position) (rows : List Row) (h : List Event) : Type 0 where
  pub rise : Rise rows
  pub history : IsHistory h
  pub told : (g : ℕ) → Tells position h g (row_at rows g)

-- each pick has its player's position
abbrev pub IsPlaced : (ℕ → Position) → List Pick → Type 0
IsPlaced position [] = ⊤
IsPlaced position (k ∷ picks) = (k.position ≡ position k.player) × IsPlaced position picks

-- What rows that stand for a history say of it: its chips and where one was played, its transfers, what is free of them,
-- what the others cost and what a table counts, its first gameweek, the team of each gameweek, and that no row is later
-- than its events.
pub record Tell (position : ℕ → Position) (rows : List Row) (h : List Event) : Type 0 where
  pub chips : (g : ℕ) → chip_by rows g ≡ chip_at h g
  pub chip_used : (split : ℕ) (chip : Chip) (g : ℕ) → used_before split (chip_by rows) chip g ≡ used_before split (chip_at h) chip g
  pub used : (g : ℕ) → used_by rows g ≡ swaps_in h g
  pub free : (profile : Profile) (g : ℕ) → FreeTold profile h g (free_in profile rows g)
  pub cost : (profile : Profile) (g : ℕ) → cost_by profile rows g ≡ cost_at profile h g
  pub counted : (g : ℕ) → counted_by rows g ≡ counted_through h g
  pub first : FirstTold h (first_in rows)
  pub team : (g : ℕ) → TeamTold position h g (team_in (standing_at rows g))
  pub later : (g : ℕ) → NoneAfter g h → AllUpTo g rows

abbrev pub RowsAlwaysTell : Type 0
RowsAlwaysTell = (position : ℕ → Position) (rows : List Row) (h : List Event) → StandsFor position rows h → Tell position rows h
