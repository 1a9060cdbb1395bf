-- The team of a history in a gameweek, and what else a history tells, as values.
use Rattle.std.specs.Prelude.{◌≡◌, ◌↔◌, ◌≤◌, ◌+◌, ◌-◌, ℕ, List, Option, Some, None, if◌then◌else◌}
use Rattle.fpl_base.specs.declared.kinds.Position.{Position}
use Rattle.fpl_base.specs.declared.kinds.Profile.{Profile}
use Rattle.rule_book.specs.declared.team.Team.{Team}
use Rattle.rule_book.specs.History.{Event, chip_at, kept}
use Rattle.rule_book.specs.HistoryRules.{FirstTold}
use Rattle.rule_book.specs.HistorySquad.{armbands_of, earned, picks_of, spent}
use Rattle.rule_book.specs.HistoryTeam.{IsTeam, TeamTold, is_begun}
use Rattle.rule_book.specs.HistoryTransfers.{FreeTold, free_at, is_past_first}
use Rattle.rule_book.specs.UpTo.{start_of}

-- the team: order, prices, positions, armbands, what is left of the money, and chip
abbrev pub team_of : (ℕ → Position) → List Event → ℕ → Team
team_of position h g = record {
  picks = picks_of position (kept h g);
  captain = (armbands_of (kept h g)).0;
  vice = (armbands_of (kept h g)).1;
  bank = (1000 + earned (kept h g)) - spent (kept h g);
  chip = chip_at h g;
}

-- what counts in a gameweek pays no more than 1000 and what it earns
abbrev pub CanPay : List Event → ℕ → Type 0
CanPay h g = spent (kept h g) ≤ 1000 + earned (kept h g)

-- a team is that of a gameweek exactly where the money suffices and it is this one
abbrev pub TeamIsTheOne : Type 0
TeamIsTheOne = (position : ℕ → Position) (h : List Event) (g : ℕ) (t : Team) → IsTeam position h g t ↔ (CanPay h g × (t ≡ team_of position h g))

-- the team of a gameweek, from the first on
abbrev pub told_team : (ℕ → Position) → List Event → ℕ → Option Team
told_team position h g = if is_begun h g then Some (team_of position h g) else None

-- the free transfers of a gameweek, after the first
abbrev pub told_free : Profile → List Event → ℕ → Option ℕ
told_free profile h g = if is_past_first h g then Some (free_at profile h g) else None

-- what a history says of a team is this one, and where the money suffices, this one it says
pub record TeamIsTold (position : ℕ → Position) (h : List Event) (g : ℕ) : Type 0 where
  pub says : (told : Option Team) → TeamTold position h g told → told ≡ told_team position h g
  pub said : CanPay h g → TeamTold position h g (told_team position h g)

abbrev pub TeamsAreTold : Type 0
TeamsAreTold = (position : ℕ → Position) (h : List Event) (g : ℕ) → TeamIsTold position h g

-- what it says of the first gameweek is its start
abbrev pub FirstIsTheStart : Type 0
FirstIsTheStart = (h : List Event) (told : Option ℕ) → FirstTold h told ↔ (told ≡ start_of h)

-- what it says of the free transfers are these
abbrev pub FreeIsTold : Type 0
FreeIsTold = (profile : Profile) (h : List Event) (g : ℕ) (told : Option ℕ) → FreeTold profile h g told ↔ (told ≡ told_free profile h g)
