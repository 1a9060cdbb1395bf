-- Entries are issued and registered as the managers who stand for them say.
use Rattle.std.proofs.Common.{◌≡◌, ◌-◌, ℕ, zero, suc, Bool, true, false, not, ◌&&◌, ◌==◌, nat_lt, nat_le, List, [], ◌∷◌, Option, Some, None, is_some, if◌then◌else◌, length, slice_get, get_or, arith, refl, ap, ◌∙◌}
use Rattle.std.specs.List.{list_all}
use Rattle.std.specs.Option.{option_map_or}
use Rattle.std.proofs.lemmas.Bool.Decides.{nat_tests}
use Rattle.rule_book.specs.declared.player.Player.{Player}
use Rattle.rule_book.specs.HistoryRules.{FirstTold, is_started}
use Rattle.rule_book.specs.History.{Event}
use Rattle.rule_book.specs.PlayerFigures.{position_in}
use Rattle.rule_book.specs.Players.{ArePlayers}
use Rattle.season_ledger.specs.Rows.{first_in}
use Rattle.season_ledger.specs.Stands.{RowsAlwaysTell}
use Rattle.manager_book.specs.declared.manager.Manager.{Manager}
use Rattle.manager_book.specs.Managers.{nobody}
use Rattle.season_book.specs.Book.{EntryFacts}
use Rattle.season_book.specs.LeagueCommands.{is_issued, is_registered}
use Rattle.season_entries.specs.Entries.{AreEntries, IsEntry}
use Rattle.season_entries.proofs.Keyed.{same_many}
use Rattle.season_entries.proofs.Placing.{have_positions}
use Rattle.season_entries.specs.Known.{EntriesAreKnown, is_issued_by, is_registered_by}

-- at a place, from 0

issued_at : {X : Type 0} (xs : List X) (place : ℕ) → is_some (slice_get xs place) ≡ nat_lt place (length xs)
issued_at [] place = none_below place
  where
    none_below : (a : ℕ) → false ≡ nat_lt a 0
    none_below a = grind (arith, nat_tests)
issued_at (x ∷ xs) zero = some_below (length xs)
  where
    some_below : (n : ℕ) → true ≡ nat_lt 0 (suc n)
    some_below n = grind (arith, nat_tests)
issued_at (x ∷ xs) (suc place) = issued_at xs place ∙ shifted place (length xs)
  where
    shifted : (a b : ℕ) → nat_lt a b ≡ nat_lt (suc a) (suc b)
    shifted a b = grind (arith, nat_tests)

-- a history has begun exactly where its rows have a first gameweek
begun_told : (h : List Event) (first : Option ℕ) → FirstTold h first → is_started h ≡ is_some first
begun_told h None told = told
begun_told h (Some g) told = told.0

module _ (law : RowsAlwaysTell) (players : List Player) (are : ArePlayers players) where
  abbrev started : Option EntryFacts → Bool
  started entry = option_map_or (λ x. is_started x.history) entry false

  of_one : (m : Manager) (x : EntryFacts) → IsEntry players m x → is_started x.history ≡ is_some (first_in m.season)
  of_one m x i = begun_told x.history (first_in m.season) (law (position_in players) m.season x.history (i.history (position_in players) (have_positions players are))).first

  started_at : (managers : List Manager) (entries : List EntryFacts) (place : ℕ) → AreEntries players managers entries → started (slice_get entries place) ≡ is_some (first_in (get_or managers place nobody).season)
  started_at [] [] place a = refl
  started_at [] (x ∷ entries) place a = absurd a
  started_at (m ∷ managers) [] place a = absurd a
  started_at (m ∷ managers) (x ∷ entries) zero a = of_one m x a.0
  started_at (m ∷ managers) (x ∷ entries) (suc place) a = started_at managers entries place a.1

  issued_same : (managers : List Manager) (entries : List EntryFacts) (e : ℕ) → AreEntries players managers entries → is_issued entries e ≡ is_issued_by managers e
  issued_same managers entries e a = by_zero (e == 0) refl
    where
      by_zero : (b : Bool) → (e == 0) ≡ b → is_some (if b then None else slice_get entries (e - 1)) ≡ (not b && nat_le e (length managers))
      by_zero true is = refl
      by_zero false is = issued_at entries (e - 1) ∙ ap (nat_lt (e - 1)) (same_many players managers entries a) ∙ shifted (length managers)
        where
          shifted : (n : ℕ) → nat_lt (e - 1) n ≡ nat_le e n
          shifted n = grind (arith, nat_tests, is)

  registered_same : (managers : List Manager) (entries : List EntryFacts) (e : ℕ) → AreEntries players managers entries → is_registered entries e ≡ is_registered_by managers e
  registered_same managers entries e a = by_zero (e == 0)
    where
      by_zero : (b : Bool) → started (if b then None else slice_get entries (e - 1)) ≡ (not b && is_some (first_in (get_or managers (e - 1) nobody).season))
      by_zero true = refl
      by_zero false = started_at managers entries (e - 1) a

  all_same : (f k : ℕ → Bool) (order : List ℕ) → ((e : ℕ) → f e ≡ k e) → list_all f order ≡ list_all k order
  all_same f k [] same = refl
  all_same f k (e ∷ order) same = ap (λ b. b && list_all f order) (same e) ∙ ap (λ b. k e && b) (all_same f k order same)

pub entries_known : RowsAlwaysTell → EntriesAreKnown
entries_known law facts managers entries are a = record {
  issued = λ e. issued_same law facts.players are managers entries e a;
  registered = λ e. registered_same law facts.players are managers entries e a;
  all_issued = λ order. all_same law facts.players are (is_issued entries) (is_issued_by managers) order (λ e. issued_same law facts.players are managers entries e a);
  all_registered = λ order. all_same law facts.players are (is_registered entries) (is_registered_by managers) order (λ e. registered_same law facts.players are managers entries e a);
}
