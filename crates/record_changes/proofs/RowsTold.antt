-- An orderly host tells the records of the books that it stands for.
use Rattle.std.proofs.Common.{◌≡◌, ℕ, List, Option, Some, None, refl, sym, ap, ◌∙◌, arith}
use Rattle.std.specs.Prelude.{IfSome}
use Rattle.std.specs.Option.{option_map, option_and_then}
use Rattle.fpl_base.specs.declared.kinds.Position.{Position}
use Rattle.rule_book.specs.declared.cup.Bracket.{Bracket}
use Rattle.rule_book.specs.declared.player.Player.{Player}
use Rattle.rule_book.specs.Batch.{HavePositions}
use Rattle.rule_book.specs.ById.{at_id}
use Rattle.rule_book.specs.Entries.{entry_in}
use Rattle.rule_book.specs.Leagues.{LeagueFacts}
use Rattle.rule_book.specs.PlayerFigures.{position_in}
use Rattle.manager_book.specs.declared.manager.Manager.{Manager}
use Rattle.season_book.specs.Book.{Book, EntryFacts, Facts, Last}
use Rattle.season_entries.specs.Entries.{IsEntry}
use Rattle.season_entries.proofs.Placing.{have_positions}
use Rattle.season_records.specs.declared.slot.Slot.TheVariants as slot
use Rattle.season_records.specs.Records.{at_keys, cup_item, entry_item, last_item, league_item, member_told, team_told, told_in, transfer_told}
use Rattle.season_running.specs.EntryLaws.{IsOrderly}
use Rattle.season_running.specs.Standing.{HostRows, StandsIn, players_in}
use Rattle.record_changes.specs.Laws.{ItemsAreTold, RowsHaveRecords, RowsTellRecords, TellAs}
use Rattle.record_changes.specs.RowsTold.{manager_item, team_by, transfer_by}
use Rattle.record_changes.proofs.EntriesTold.{Both, both_at, entry_told, team_is_told, transfer_is_told}

-- the players of an orderly season have their positions, and so have none
have_theirs : (facts : Option Facts) (managers : List Manager) → IfSome facts (λ f. IsOrderly f managers)
    → HavePositions (position_in (players_in facts)) (players_in facts)
have_theirs None managers orderly = λ i d within. absurd (omega (arith, within))
have_theirs (Some facts) managers orderly = have_positions facts.players orderly.players

module _ (players : List Player) (position : ℕ → Position) (have : HavePositions position players) where
  entries_by : (e : ℕ) (x : Option Manager) (y : Option EntryFacts) → Both (IsEntry players) x y → option_map (manager_item e) x ≡ option_map (entry_item e) y
  entries_by e None None both = refl
  entries_by e None (Some entry) both = absurd both
  entries_by e (Some manager) None both = absurd both
  entries_by e (Some manager) (Some entry) both = ap Some (entry_told players position have manager entry both e)

  teams_by : (e g : ℕ) (x : Option Manager) (y : Option EntryFacts) → Both (IsEntry players) x y
      → option_and_then (team_by e g) x ≡ option_and_then (λ (entry : EntryFacts). team_told e g entry.history) y
  teams_by e g None None both = refl
  teams_by e g None (Some entry) both = absurd both
  teams_by e g (Some manager) None both = absurd both
  teams_by e g (Some manager) (Some entry) both = team_is_told players position have manager entry both e g

  transfers_by : (e g n : ℕ) (x : Option Manager) (y : Option EntryFacts) → Both (IsEntry players) x y
      → option_and_then (transfer_by e g n) x ≡ option_and_then (λ (entry : EntryFacts). transfer_told e g n entry.history) y
  transfers_by e g n None None both = refl
  transfers_by e g n None (Some entry) both = absurd both
  transfers_by e g n (Some manager) None both = absurd both
  transfers_by e g n (Some manager) (Some entry) both = transfer_is_told players position have manager entry both e g n

module _ (host : HostRows) (book : Book) (stands : StandsIn host book)
    (have : HavePositions (position_in (players_in host.facts)) (players_in host.facts)) where
  abbrev players : List Player
  players = players_in host.facts

  both : (e : ℕ) → Both (IsEntry players) (entry_in host.managers e) (entry_in book.entries e)
  both e = both_at players host.managers book.entries stands.entries e

  tell_as : TellAs host book
  tell_as slot.Season = ap (λ (o : Option Facts). option_and_then (λ facts. told_in facts slot.Season) o) (sym stands.facts)
  tell_as (slot.Club c) = ap (λ (o : Option Facts). option_and_then (λ facts. told_in facts (slot.Club c)) o) (sym stands.facts)
  tell_as (slot.Player p) = ap (λ (o : Option Facts). option_and_then (λ facts. told_in facts (slot.Player p)) o) (sym stands.facts)
  tell_as (slot.Fixture f) = ap (λ (o : Option Facts). option_and_then (λ facts. told_in facts (slot.Fixture f)) o) (sym stands.facts)
  tell_as (slot.Line f p) = ap (λ (o : Option Facts). option_and_then (λ facts. told_in facts (slot.Line f p)) o) (sym stands.facts)
  tell_as (slot.Entry e) = entries_by players (position_in players) have e (entry_in host.managers e) (entry_in book.entries e) (both e)
  tell_as (slot.Team e g) = teams_by players (position_in players) have e g (entry_in host.managers e) (entry_in book.entries e) (both e)
  tell_as (slot.Transfer e g n) = transfers_by players (position_in players) have e g n (entry_in host.managers e) (entry_in book.entries e) (both e)
  tell_as (slot.League l) = ap (λ (ls : List LeagueFacts). option_map (league_item l) (entry_in ls l)) (sym stands.leagues)
  tell_as (slot.Member l e) = ap (λ (ls : List LeagueFacts). option_and_then (member_told l e) (entry_in ls l)) (sym stands.leagues)
  tell_as (slot.Cup c) = ap (λ (cs : List Bracket). option_map (cup_item c) (entry_in cs c)) (sym stands.cups)
  tell_as (slot.Last caller) = ap (λ (rows : List (ℕ × Last)). option_map (last_item caller) (at_id rows caller)) (sym stands.lasts)

pub rows_tell_records : RowsTellRecords
rows_tell_records host book orderly stands = tell_as host book stands (have_theirs host.facts host.managers orderly)

pub rows_have_records : RowsHaveRecords
rows_have_records host book orderly stands = λ i. at_keys (λ s. rows_tell_records host book orderly stands s i)

pub items_are_told : ItemsAreTold
items_are_told host book orderly stands items s i at = items s i (rows_tell_records host book orderly stands s ∙ at)
