-- What an entry keeps: a row for each gameweek in which something was done.
use Rattle.std.specs.Prelude.{◌≡◌, ◌<◌, ◌≤◌, ◌+◌, ◌-◌, ◌*◌, ℕ, suc, Bool, true, false, not, ◌&&◌, List, [], ◌∷◌, Option, Some, None, ◌==◌, if◌then◌else◌, nat_lt, nat_le, length, map, ⊤}
use Rattle.std.specs.List.{AllByRecursion as Each, list_any}
use Rattle.fpl_base.specs.declared.kinds.Chip.{Chip}
use Rattle.fpl_base.specs.declared.kinds.Chip.TheVariants.{None as NoChip}
use Rattle.fpl_base.specs.declared.kinds.Profile.{Profile}
use Rattle.rule_book.specs.declared.team.Team.{Team}
use Rattle.rule_book.specs.declared.transfers.Sale.{Sale}
use Rattle.rule_book.specs.EntryRecords.{sales_in}
use Rattle.rule_book.specs.FreeTransfers.{transfer_cost}
use Rattle.rule_book.specs.History.{is_free_hit}
use Rattle.rule_book.specs.Batch.{AreDifferent}
use Rattle.rule_book.specs.HistoryTransfers.{free_from, counted_from}
use Rattle.season_ledger.specs.declared.row.Standing.{Standing}
use Rattle.season_ledger.specs.declared.row.Row.{Row}

-- what a gameweek's own row has
abbrev pub row_at : List Row → ℕ → Option Standing
row_at [] g = None
row_at (r ∷ rows) g = if r.gw == g then Some r.standing else row_at rows g

abbrev pub or_else : {A : Type 0} → Option A → Option A → Option A
or_else None y = y
or_else (Some x) y = Some x

-- a row of an earlier gameweek without a free hit
abbrev pub is_base : ℕ → Row → Bool
is_base g r = nat_lt r.gw g && not (is_free_hit r.standing.team.chip)

-- the last such row
abbrev pub base_at : List Row → ℕ → Option Row
base_at [] g = None
base_at (r ∷ rows) g = or_else (base_at rows g) (if is_base g r then Some r else None)

-- the gameweeks of rows rise
abbrev pub AllAbove : ℕ → List Row → Type 0
AllAbove g [] = ⊤
AllAbove g (r ∷ rows) = (g < r.gw) × AllAbove g rows

abbrev pub Rise : List Row → Type 0
Rise [] = ⊤
Rise (r ∷ rows) = AllAbove r.gw rows × Rise rows

-- no row is later than g
abbrev pub AllUpTo : ℕ → List Row → Type 0
AllUpTo g [] = ⊤
AllUpTo g (r ∷ rows) = (r.gw ≤ g) × AllUpTo g rows

abbrev pub is_up_to : ℕ → List Row → Bool
is_up_to g [] = true
is_up_to g (r ∷ rows) = nat_le r.gw g && is_up_to g rows

-- a row written: in its place, or behind the others
abbrev pub put_row : List Row → ℕ → Standing → List Row
put_row [] g s = record { gw = g; standing = s } ∷ []
put_row (r ∷ rows) g s = if r.gw == g then record { gw = g; standing = s } ∷ rows else r ∷ put_row rows g s

-- where the row of a gameweek stands, or behind them all
abbrev pub place_at : List Row → ℕ → ℕ
place_at [] g = 0
place_at (r ∷ rows) g = if r.gw == g then 0 else suc (place_at rows g)

-- what is carried over from an earlier row: its team, without chip and transfers
abbrev pub carried : Option Row → Option Standing
carried None = None
carried (Some r) = Some (record { made = 0; team = record r.standing.team { chip = NoChip } })

-- what stands in a gameweek: its own row, or the last one before it without a free hit
abbrev pub standing_at : List Row → ℕ → Option Standing
standing_at rows g = or_else (row_at rows g) (carried (base_at rows g))

abbrev pub team_in : Option Standing → Option Team
team_in None = None
team_in (Some s) = Some s.team

abbrev pub chip_in : Option Standing → Chip
chip_in None = NoChip
chip_in (Some s) = s.team.chip

-- a team stands
abbrev pub begun : Option Standing → Bool
begun None = false
begun (Some s) = true

abbrev pub made_in : Option Standing → ℕ
made_in None = 0
made_in (Some s) = s.made

-- the chip of a gameweek, and how many transfers it had
abbrev pub chip_by : List Row → ℕ → Chip
chip_by rows g = chip_in (row_at rows g)

abbrev pub used_by : List Row → ℕ → ℕ
used_by rows g = made_in (row_at rows g)

-- the first gameweek
abbrev pub first_row : List Row → ℕ
first_row [] = 0
first_row (r ∷ rows) = r.gw

abbrev pub first_in : List Row → Option ℕ
first_in [] = None
first_in (r ∷ rows) = Some r.gw

-- free transfers, their cost and the counted ones, by the rows
abbrev pub is_past : List Row → ℕ → Bool
is_past [] g = false
is_past (r ∷ rows) g = nat_lt r.gw g

abbrev pub free_by : Profile → List Row → ℕ → ℕ
free_by profile rows g = free_from profile (used_by rows) (chip_by rows) (first_row rows) (g - (first_row rows + 1))

abbrev pub free_in : Profile → List Row → ℕ → Option ℕ
free_in profile rows g = if is_past rows g then Some (free_by profile rows g) else None

abbrev pub cost_by : Profile → List Row → ℕ → ℕ
cost_by profile rows g = if is_past rows g then transfer_cost (free_by profile rows g) (used_by rows g) (chip_by rows g) else 0

abbrev pub counted_by : List Row → ℕ → ℕ
counted_by rows g = counted_from (used_by rows) (chip_by rows) (first_row rows) g

-- the first gameweek has no free hit
abbrev pub IsBare : List Row → Type 0
IsBare [] = ⊤
IsBare (r ∷ rows) = is_free_hit r.standing.team.chip ≡ false

-- fifteen different players, each bought at 20.0 million at most
pub record IsFitTeam (t : Team) : Type 0 where
  pub different : AreDifferent t.picks
  pub priced : Each (λ k. k.bought ≤ 200) t.picks

-- what stands in a gameweek fits: there are at most a thousand transfers, and each sold for 20.0 million at most
pub record IsFit (g : ℕ) (s : Standing) : Type 0 where
  pub few : s.made ≤ 1000
  pub bank : s.team.bank + 200000 ≤ (1000 + 200000 * g) + 200 * s.made
  pub team : IsFitTeam s.team

-- what holds of the rows of every entry
pub record IsKept (rows : List Row) : Type 0 where
  pub rise : Rise rows
  pub bare : IsBare rows
  pub fit : Each (λ r. IsFit r.gw r.standing) rows

-- the same of the team that stands, where one does
abbrev pub FitsIn : ℕ → Option Standing → Type 0
FitsIn g None = ⊤
FitsIn g (Some s) = IsFit g s

-- the first gameweek is g or before it
abbrev pub is_begun_by : List Row → ℕ → Bool
is_begun_by [] g = false
is_begun_by (r ∷ rows) g = nat_le r.gw g

-- a chip put on what stands in a gameweek
abbrev pub chipped : Chip → Standing → Standing
chipped chip s = record { made = s.made; team = record s.team { chip = chip } }

abbrev pub put_chip_on : List Row → ℕ → Chip → Option Standing → List Row
put_chip_on rows g chip None = rows
put_chip_on rows g chip (Some s) = put_row rows g (chipped chip s)

abbrev pub put_chip : List Row → ℕ → Chip → List Row
put_chip rows g chip = put_chip_on rows g chip (standing_at rows g)

-- the rows that team and transfer records make
abbrev pub row_of_record : List (ℕ × Sale) → ℕ × Team → Row
row_of_record sales t = record { gw = t.0; standing = record { made = length (sales_in sales t.0); team = t.1 } }

abbrev pub rows_of_records : List (ℕ × Team) → List (ℕ × Sale) → List Row
rows_of_records teams sales = map (row_of_record sales) teams

-- a player stands in the team of a row
abbrev pub rows_had : List Row → ℕ → Bool
rows_had rows p = list_any (λ row. list_any (λ pick. pick.player == p) row.standing.team.picks) rows
