-- Rows refuse a manager's calls as every history that they stand for does.
use Rattle.std.proofs.Common.{◌≡◌, ℕ, Bool, true, false, List, [], ◌∷◌, Some, None, is_some, map, if◌then◌else◌, ◌==◌, refl, sym, ap, ◌∙◌}
use Rattle.std.specs.Option.{option_map_or}
use Rattle.fpl_base.specs.declared.kinds.Chip.{Chip}
use Rattle.rule_book.specs.declared.player.Player.{Player}
use Rattle.rule_book.specs.declared.team.Team.{Team}
use Rattle.rule_book.specs.Batch.{sales_of}
use Rattle.rule_book.specs.EntryCalls.{cancel_refusal, lineup_call_refusal, play_refusal, register_refusal, slot_of, starts_in, transfer_limit, transfer_refusal}
use Rattle.rule_book.specs.History.{Event, chip_at}
use Rattle.rule_book.specs.History.Deed.{Swap as Swapped}
use Rattle.rule_book.specs.HistoryRules.{is_started}
use Rattle.rule_book.specs.HistoryTeam.{is_begun}
use Rattle.rule_book.specs.HistoryTransfers.{swaps_in, used_before}
use Rattle.rule_book.specs.PlayerFigures.{position_in}
use Rattle.rule_book.specs.TeamOfHistory.{FirstIsTheStart, TeamsAreTold, team_of, told_team}
use Rattle.rule_book.specs.UpTo.{start_of}
use Rattle.season_ledger.specs.declared.row.Row.{Row}
use Rattle.season_ledger.specs.Rows.{chip_by, first_in, used_by}
use Rattle.season_ledger.specs.Stands.{RowsAlwaysTell, StandsFor, Tell}
use Rattle.manager_book.specs.Calls.{is_first, is_registered, limit_by, team_at}
use Rattle.manager_book.specs.HistoryLaws.{RefuseAlike, RowsAlwaysRefuseAlike}

-- a history is started where it has a start
start_there : (h : List Event) → is_some (start_of h) ≡ is_started h
start_there [] = refl
start_there (e ∷ h) = refl

-- the team that is told is the history's
told_some : (b : Bool) (t u : Team) → (if b then Some t else None) ≡ Some u → u ≡ t
told_some true t u e = let x : t ≡ u = cc in sym x
told_some false t u e = cc

-- what rows tell, as equations
record Same (players : List Player) (rows : List Row) (h : List Event) (g : ℕ) : Type 0 where
  registered : is_registered rows ≡ is_started h
  first : is_first rows g ≡ starts_in h g
  chip : chip_by rows g ≡ chip_at h g
  used : used_by rows g ≡ swaps_in h g
  team : team_at rows g ≡ told_team (position_in players) h g
  before : (split : ℕ) (chip : Chip) → used_before split (chip_by rows) chip g ≡ used_before split (chip_at h) chip g

same : RowsAlwaysTell → TeamsAreTold → FirstIsTheStart → (players : List Player) (rows : List Row) (h : List Event) (g : ℕ) → StandsFor (position_in players) rows h → Same players rows h g
same tell teams starts players rows h g st =
    let t : Tell (position_in players) rows h = tell (position_in players) rows h st in
    let first : first_in rows ≡ start_of h = (starts h (first_in rows)).0 t.first in
    record {
      registered = ap is_some first ∙ start_there h;
      first = ap (λ o. option_map_or (λ s. s == g) o false) first;
      chip = t.chips g;
      used = t.used g;
      team = (teams (position_in players) h g).says (team_at rows g) (t.team g);
      before = λ split chip. t.chip_used split chip g;
    }

alike : (players : List Player) (rows : List Row) (h : List Event) (g : ℕ) → Same players rows h g → RefuseAlike players rows h g
alike players rows h g s =
    let limit : limit_by rows g ≡ transfer_limit (starts_in h g) (chip_at h g) = ap (λ b. transfer_limit b (chip_by rows g)) s.first ∙ ap (transfer_limit (starts_in h g)) s.chip in
    let team : (before : Team) → team_at rows g ≡ Some before → before ≡ team_of (position_in players) h g = λ before e. told_some (is_begun h g) (team_of (position_in players) h g) before (sym s.team ∙ e) in
    record {
      squad = λ fifteen captain vice. ap (λ b. register_refusal b players fifteen (slot_of fifteen captain) (slot_of fifteen vice)) s.registered;
      batch = λ swaps. ap (λ b. transfer_refusal b (used_by rows g) (limit_by rows g) (team_at rows g) players swaps) s.registered
          ∙ ap (λ n. transfer_refusal (is_started h) n (limit_by rows g) (team_at rows g) players swaps) s.used
          ∙ ap (λ l. transfer_refusal (is_started h) (swaps_in h g) l (team_at rows g) players swaps) limit
          ∙ ap (λ o. transfer_refusal (is_started h) (swaps_in h g) (transfer_limit (starts_in h g) (chip_at h g)) o players swaps) s.team;
      lineup = λ order captain vice. ap (λ b. lineup_call_refusal b (team_at rows g) order (slot_of order captain) (slot_of order vice)) s.registered
          ∙ ap (λ o. lineup_call_refusal (is_started h) o order (slot_of order captain) (slot_of order vice)) s.team;
      chip = λ split played. ap (λ b. play_refusal b (is_first rows g) (chip_by rows g) (used_before split (chip_by rows) played g) played) s.registered
          ∙ ap (λ b. play_refusal (is_started h) b (chip_by rows g) (used_before split (chip_by rows) played g) played) s.first
          ∙ ap (λ c. play_refusal (is_started h) (starts_in h g) c (used_before split (chip_by rows) played g) played) s.chip
          ∙ ap (λ u. play_refusal (is_started h) (starts_in h g) (chip_at h g) u played) (s.before split played);
      cancel = ap (λ b. cancel_refusal b (chip_by rows g)) s.registered ∙ ap (cancel_refusal (is_started h)) s.chip;
      team = team;
      deeds = λ swaps before e. ap (λ (t : Team). map Swapped (sales_of players t.picks swaps)) (team before e);
    }

pub rows_refuse_alike : RowsAlwaysTell → TeamsAreTold → FirstIsTheStart → RowsAlwaysRefuseAlike
rows_refuse_alike tell teams starts players rows h g st = alike players rows h g (same tell teams starts players rows h g st)
