-- What histories that agree up to a gameweek tell of it.
use Rattle.std.specs.Prelude.{◌≡◌, ◌≤◌, ◌<◌, ℕ, true, List, ◌++◌, Option}
use Rattle.fpl_base.specs.declared.kinds.Position.{Position}
use Rattle.fpl_base.specs.declared.kinds.Profile.{Profile}
use Rattle.rule_book.specs.declared.team.Team.{Team}
use Rattle.rule_book.specs.History.{Deed, Event, chip_at, kept, is_touched, in_gameweek}
use Rattle.rule_book.specs.HistoryRules.{IsHistory, is_started}
use Rattle.rule_book.specs.HistoryTeam.{IsTeam, TeamTold, is_begun}
use Rattle.rule_book.specs.HistoryTransfers.{swaps_in, free_at, FreeTold, cost_at, counted_through}
use Rattle.rule_book.specs.TeamOfHistory.{team_of}
use Rattle.rule_book.specs.UpTo.{AgreeUpTo, AllAfter, start_of}

-- what two histories tell of one gameweek is the same, whatever their first gameweeks
pub record TellTheSame (h h2 : List Event) (g : ℕ) : Type 0 where
  pub chip : chip_at h g ≡ chip_at h2 g
  pub swaps : swaps_in h g ≡ swaps_in h2 g
  pub touched : is_touched h g ≡ is_touched h2 g
  pub kept_events : kept h g ≡ kept h2 g
  pub team : (position : ℕ → Position) → team_of position h g ≡ team_of position h2 g
  pub is_team : (position : ℕ → Position) (t : Team) → IsTeam position h g t → IsTeam position h2 g t

-- and what hangs on the first gameweek too
pub record CountTheSame (h h2 : List Event) (g : ℕ) : Type 0 where
  pub begun : is_begun h g ≡ is_begun h2 g
  pub team_told : (position : ℕ → Position) (o : Option Team) → TeamTold position h g o → TeamTold position h2 g o
  pub free : (profile : Profile) → free_at profile h g ≡ free_at profile h2 g
  pub free_told : (profile : Profile) (o : Option ℕ) → FreeTold profile h g o → FreeTold profile h2 g o
  pub cost : (profile : Profile) → cost_at profile h g ≡ cost_at profile h2 g
  pub counted : counted_through h g ≡ counted_through h2 g

-- histories that agree up to k tell the same of each gameweek up to k; where they start in the same gameweek, they count
-- the same
pub record UpToTellsAll (k : ℕ) (h h2 : List Event) : Type 0 where
  pub told : (g : ℕ) → g ≤ k → TellTheSame h h2 g
  pub counted : start_of h ≡ start_of h2 → (g : ℕ) → g ≤ k → CountTheSame h h2 g

-- of two histories in order that agree up to k, one that starts up to k starts with the other
abbrev pub UpToTellsTheFirst : Type 0
UpToTellsTheFirst = (k : ℕ) (h h2 : List Event) → IsHistory h → IsHistory h2 → AgreeUpTo k h h2 → is_begun h k ≡ true → start_of h ≡ start_of h2

-- events of later gameweeks, behind others, leave what was told of the earlier ones, and where there were others, the
-- start
pub record LaterEventsAgree (k : ℕ) (h more : List Event) : Type 0 where
  pub agree : AllAfter k more → AgreeUpTo k h (h ++ more)
  pub start : is_started h ≡ true → start_of h ≡ start_of (h ++ more)

-- so do deeds of a later gameweek
abbrev pub OpenDeedsAgree : Type 0
OpenDeedsAgree = (k g : ℕ) (h : List Event) (ds : List Deed) → k < g → AgreeUpTo k h (h ++ in_gameweek g ds)
