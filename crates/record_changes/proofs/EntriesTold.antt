-- What the rows of an entry tell is what its history tells.
use Rattle.std.proofs.Common.{◌≡◌, ℕ, zero, suc, List, [], ◌∷◌, Option, Some, None, map, slice_get, refl, sym, ap, ◌∙◌, subst, if◌then◌else◌}
use Rattle.std.specs.Option.{option_map}
use Rattle.fpl_base.specs.declared.kinds.Position.{Position}
use Rattle.rule_book.specs.declared.player.Player.{Player}
use Rattle.rule_book.specs.declared.team.Team.{Team}
use Rattle.rule_book.specs.Batch.{HavePositions}
use Rattle.rule_book.specs.Entries.{entry_in}
use Rattle.rule_book.specs.History.{Event, kept}
use Rattle.rule_book.specs.HistorySquad.{bought_at, order_of, picks_of}
use Rattle.rule_book.specs.HistoryTeam.{IsTeam}
use Rattle.rule_book.specs.TeamOfHistory.{team_of}
use Rattle.rule_book.specs.UpTo.{start_of}
use Rattle.rule_book.proofs.TeamFacts.{first_is_the_start, team_is_the_one}
use Rattle.season_ledger.specs.Rows.{first_in, row_at}
use Rattle.season_ledger.specs.Stands.{StandsFor, Tells}
use Rattle.season_ledger.specs.declared.row.Standing.{Standing}
use Rattle.season_ledger.proofs.Season.{rows_tell}
use Rattle.manager_book.specs.declared.manager.Manager.{Manager}
use Rattle.season_book.specs.Book.{EntryFacts}
use Rattle.season_entries.specs.Entries.{AreEntries, IsEntry}
use Rattle.season_records.specs.declared.item.Item.TheVariants as item
use Rattle.season_records.specs.Records.{entry_item, no_position, pick_told, team_item, team_told, transfer_item, transfer_told}
use Rattle.season_records.proofs.Finds.{at_number}
use Rattle.record_changes.specs.RowsTold.{manager_item, team_by, transfer_by}

-- what is told of picks is the same wherever their players play
picks_alike : (position : ℕ → Position) (es : List Event) → map pick_told (picks_of position es) ≡ map pick_told (picks_of no_position es)
picks_alike position es = walk (order_of es)
  where
    walk : (ps : List ℕ) → map pick_told (map (λ p. record { player = p; position = position p; bought = bought_at es p }) ps)
        ≡ map pick_told (map (λ p. record { player = p; position = no_position p; bought = bought_at es p }) ps)
    walk [] = refl
    walk (p ∷ ps) = ap (λ more. (p, bought_at es p) ∷ more) (walk ps)

team_alike : (position : ℕ → Position) (e g : ℕ) (h : List Event) (t : Team) → IsTeam position h g t
    → team_item e g t ≡ team_item e g (team_of no_position h g)
team_alike position e g h t is =
    ap (team_item e g) ((team_is_the_one position h g t).0 is).1
    ∙ ap (λ picks. item.Team e g picks (team_of position h g).captain (team_of position h g).vice (team_of position h g).bank (team_of position h g).chip) (picks_alike position (kept h g))

standing_told : (position : ℕ → Position) (e g : ℕ) (h : List Event) (o : Option Standing) → Tells position h g o
    → option_map (λ (s : Standing). team_item e g s.team) o ≡ team_told e g h
standing_told position e g h None bare = sym (ap (λ b. if b then Some (team_item e g (team_of no_position h g)) else None) bare)
standing_told position e g h (Some s) tells =
    ap Some (team_alike position e g h s.team tells.1)
    ∙ sym (ap (λ b. if b then Some (team_item e g (team_of no_position h g)) else None) tells.0)

-- the three of an entry
module _ (players : List Player) (position : ℕ → Position) (have : HavePositions position players)
    (manager : Manager) (entry : EntryFacts) (is : IsEntry players manager entry) where
  stand : StandsFor position manager.season entry.history
  stand = is.history position have

  first_told : first_in manager.season ≡ start_of entry.history
  first_told = (first_is_the_start entry.history (first_in manager.season)).0 (rows_tell position manager.season entry.history stand).first

  pub entry_told : (e : ℕ) → manager_item e manager ≡ entry_item e entry
  entry_told e = λ i. item.Entry e (first_told i) (sym is.key i) (sym is.name i)

  pub team_is_told : (e g : ℕ) → team_by e g manager ≡ team_told e g entry.history
  team_is_told e g = standing_told position e g entry.history (row_at manager.season g) (stand.told g)

  pub transfer_is_told : (e g n : ℕ) → transfer_by e g n manager ≡ transfer_told e g n entry.history
  transfer_is_told e g n = ap (λ sales. option_map (transfer_item e g n) (entry_in sales n)) (is.sales g)

-- Managers and entries by number.

-- both are there and alike, or none
abbrev pub Both : (Manager → EntryFacts → Type 0) → Option Manager → Option EntryFacts → Type 0
Both Alike None None = Unit {0}
Both Alike None (Some entry) = ⊥
Both Alike (Some manager) None = ⊥
Both Alike (Some manager) (Some entry) = Alike manager entry

module _ (players : List Player) where
  both_placed : (managers : List Manager) (entries : List EntryFacts) → AreEntries players managers entries
      → (n : ℕ) → Both (IsEntry players) (slice_get managers n) (slice_get entries n)
  both_placed [] [] are n = tt
  both_placed [] (entry ∷ entries) are n = absurd are
  both_placed (manager ∷ managers) [] are n = absurd are
  both_placed (manager ∷ managers) (entry ∷ entries) are zero = are.0
  both_placed (manager ∷ managers) (entry ∷ entries) are (suc n) = both_placed managers entries are.1 n

  pub both_at : (managers : List Manager) (entries : List EntryFacts) → AreEntries players managers entries
      → (e : ℕ) → Both (IsEntry players) (entry_in managers e) (entry_in entries e)
  both_at managers entries are zero = tt
  both_at managers entries are (suc n) =
      subst (λ o. Both (IsEntry players) o (entry_in entries (suc n))) (sym (at_number managers n))
      (subst (λ o. Both (IsEntry players) (slice_get managers n) o) (sym (at_number entries n)) (both_placed managers entries are n))

  pub are_entries : (managers : List Manager) (entries : List EntryFacts)
      → ((n : ℕ) → Both (IsEntry players) (slice_get managers n) (slice_get entries n)) → AreEntries players managers entries
  are_entries [] [] both = tt
  are_entries [] (entry ∷ entries) both = both zero
  are_entries (manager ∷ managers) [] both = both zero
  are_entries (manager ∷ managers) (entry ∷ entries) both = (both zero, are_entries managers entries (λ n. both (suc n)))
