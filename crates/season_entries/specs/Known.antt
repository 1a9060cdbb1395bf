-- Entries as leagues and cups see them, by the managers who stand for them.
use Rattle.std.specs.Prelude.{◌≡◌, ℕ, Bool, not, ◌&&◌, ◌==◌, List, is_some, length, nat_le}
use Rattle.std.specs.List.{list_all}
use Rattle.rule_book.specs.Players.{ArePlayers}
use Rattle.season_ledger.specs.Rows.{first_in}
use Rattle.manager_book.specs.declared.manager.Manager.{Manager}
use Rattle.manager_book.specs.Managers.{manager_in}
use Rattle.season_book.specs.Book.{EntryFacts, Facts}
use Rattle.season_book.specs.LeagueCommands.{is_issued, is_registered}
use Rattle.season_entries.specs.Entries.{AreEntries}

-- an entry was issued; there is no entry 0
abbrev pub is_issued_by : List Manager → ℕ → Bool
is_issued_by managers e = not (e == 0) && nat_le e (length managers)

-- an entry is registered: it has a first row
abbrev pub is_registered_by : List Manager → ℕ → Bool
is_registered_by managers e = not (e == 0) && is_some (first_in (manager_in managers e).season)

-- each entry of a book that managers stand for is issued and registered as they say, and so are all of a list
pub record AreKnown (managers : List Manager) (entries : List EntryFacts) : Type 0 where
  pub issued : (e : ℕ) → is_issued entries e ≡ is_issued_by managers e
  pub registered : (e : ℕ) → is_registered entries e ≡ is_registered_by managers e
  pub all_issued : (order : List ℕ) → list_all (is_issued entries) order ≡ list_all (is_issued_by managers) order
  pub all_registered : (order : List ℕ) → list_all (is_registered entries) order ≡ list_all (is_registered_by managers) order

abbrev pub EntriesAreKnown : Type 0
EntriesAreKnown = (facts : Facts) (managers : List Manager) (entries : List EntryFacts)
    → ArePlayers facts.players → AreEntries facts.players managers entries → AreKnown managers entries
