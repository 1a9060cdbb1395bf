-- What a manager's command leaves of earlier gameweeks, and what their rows tell.
use Rattle.std.specs.Prelude.{◌≡◌, ◌<◌, ℕ, List, Option, IfSome, filter, nat_lt}
use Rattle.fpl_base.specs.declared.kinds.Profile.{Profile}
use Rattle.season_ledger.specs.declared.row.Row.{Row}
use Rattle.season_ledger.specs.Rows.{Rise, cost_by, is_begun_by, standing_at}
use Rattle.manager_book.specs.Managers.{Managers, season_of}

-- the rows of the gameweeks before g
abbrev pub rows_before : ℕ → List Row → List Row
rows_before g rows = filter (λ r. nat_lt r.gw g) rows

-- entry e keeps its rows of all gameweeks before the next one; where all are locked, nothing more is done
abbrev pub RowsStayBefore : Option ℕ → ℕ → Managers → Managers → Type 0
RowsStayBefore next e old new = IfSome next (λ g. rows_before g (season_of new e) ≡ rows_before g (season_of old e))

-- in gameweek g the same team stands with the same transfers, the entry has begun or not, and its transfers cost the same
pub record TellAlike (profile : Profile) (g : ℕ) (old new : List Row) : Type 0 where
  pub standing : standing_at new g ≡ standing_at old g
  pub begun : is_begun_by new g ≡ is_begun_by old g
  pub cost : cost_by profile new g ≡ cost_by profile old g

-- so it is in each gameweek before n where the rows before n are the same
abbrev pub EarlierRowsTell : Type 0
EarlierRowsTell = (profile : Profile) (n g : ℕ) (old new : List Row) → Rise old → Rise new
    → rows_before n new ≡ rows_before n old → g < n → TellAlike profile g old new
