-- Rows in order that tell the records of a book stand for it.
use Rattle.std.proofs.Common.{◌≡◌, ℕ, zero, suc, List, [], ◌∷◌, Option, Some, None, slice_get, refl, sym, ◌∙◌, subst}
use Rattle.std.specs.List.{AllByRecursion as Each}
use Rattle.std.specs.Option.{option_map, option_and_then}
use Rattle.std.proofs.lemmas.Option.{none-some, same_Some}
use Rattle.rule_book.specs.declared.player.Player.{Player}
use Rattle.rule_book.specs.Entries.{entry_in}
use Rattle.manager_book.specs.declared.manager.Manager.{Manager}
use Rattle.season_book.specs.Book.{Book, EntryFacts}
use Rattle.season_entries.specs.Entries.{AreEntries, IsEntry}
use Rattle.season_records.specs.declared.slot.Slot.TheVariants as slot
use Rattle.season_records.specs.Records.{at_keys, entry_item, records, team_told, transfer_told}
use Rattle.season_records.specs.Told.{IsInOrder, SameBook, TellTheSame, TellsItems}
use Rattle.season_records.proofs.BooksTold.{records_tell_books}
use Rattle.season_records.proofs.Finds.{at_number}
use Rattle.season_running.specs.Standing.{HostRows, StandsIn, players_in}
use Rattle.record_changes.specs.Laws.{RowsInOrderStand, TellAs}
use Rattle.record_changes.specs.Ordered.{AreRowsInOrder, IsManagerInOrder}
use Rattle.record_changes.specs.RowsTold.{manager_item, team_by, transfer_by}
use Rattle.record_changes.proofs.EntriesTold.{Both, are_entries, both_at}
use Rattle.record_changes.proofs.RowsMade.{made_stands}

-- what holds of each manager holds of the one at a place
each_at : (P : Manager → Type 0) (managers : List Manager) (n : ℕ) (manager : Manager) → Each P managers → slice_get managers n ≡ Some manager → P manager
each_at P [] n manager each at = absurd (none-some manager at)
each_at P (m ∷ managers) zero manager each at = subst P (same_Some m manager at) each.0
each_at P (m ∷ managers) (suc n) manager each at = each_at P managers n manager each.1 at

-- Entries.

module _ (players : List Player) (e : ℕ) where
  entry_by : (old made : Option Manager) (entry : Option EntryFacts) → Both (IsEntry players) old entry
      → ((manager : Manager) → made ≡ Some manager → IsManagerInOrder players manager)
      → option_map (manager_item e) made ≡ option_map (entry_item e) entry
      → ((g : ℕ) → option_and_then (team_by e g) made ≡ option_and_then (λ (x : EntryFacts). team_told e g x.history) entry)
      → ((g n : ℕ) → option_and_then (transfer_by e g n) made ≡ option_and_then (λ (x : EntryFacts). transfer_told e g n x.history) entry)
      → Both (IsEntry players) made entry
  entry_by old None None stood order named teams transfers = tt
  entry_by old None (Some entry) stood order named teams transfers = absurd (none-some (entry_item e entry) named)
  entry_by old (Some manager) None stood order named teams transfers = absurd (none-some (manager_item e manager) (sym named))
  entry_by None (Some manager) (Some entry) stood order named teams transfers = absurd stood
  entry_by (Some before) (Some manager) (Some entry) stood order named teams transfers =
      made_stands players before manager entry e stood (order manager refl)
      (same_Some (manager_item e manager) (entry_item e entry) named) teams transfers

-- The whole book.

module _ (old made : HostRows) (book : Book) (stands : StandsIn old book) (order : AreRowsInOrder made) (same : TellAs made book) where
  -- the book with all else of the new rows
  abbrev other : Book
  other = record { facts = made.facts; entries = book.entries; leagues = made.leagues; cups = made.cups; lasts = made.lasts }

  tell_the_same : TellTheSame book other
  tell_the_same slot.Season = sym (same slot.Season)
  tell_the_same (slot.Club c) = sym (same (slot.Club c))
  tell_the_same (slot.Player p) = sym (same (slot.Player p))
  tell_the_same (slot.Fixture f) = sym (same (slot.Fixture f))
  tell_the_same (slot.Line f p) = sym (same (slot.Line f p))
  tell_the_same (slot.Entry e) = refl
  tell_the_same (slot.Team e g) = refl
  tell_the_same (slot.Transfer e g n) = refl
  tell_the_same (slot.League l) = sym (same (slot.League l))
  tell_the_same (slot.Member l e) = sym (same (slot.Member l e))
  tell_the_same (slot.Cup c) = sym (same (slot.Cup c))
  tell_the_same (slot.Last caller) = sym (same (slot.Last caller))

  in_order : IsInOrder other
  in_order = record { facts = order.facts; members = order.members; lasts = order.lasts; makes = order.makes }

  records_same : records book ≡ records other
  records_same = λ i. at_keys (λ s. tell_the_same s i)

  books : IsInOrder book → TellsItems book → SameBook book other
  books is items = records_tell_books book other items (λ s item at. items s item (tell_the_same s ∙ at)) is in_order records_same

  module _ (facts : book.facts ≡ made.facts) where
    abbrev players : List Player
    players = players_in made.facts

    stood : AreEntries players old.managers book.entries
    stood = subst (λ o. AreEntries (players_in o) old.managers book.entries) (sym stands.facts ∙ facts) stands.entries

    both : (n : ℕ) → Both (IsEntry players) (slice_get made.managers n) (slice_get book.entries n)
    both n =
        subst (λ o. Both (IsEntry players) o (slice_get book.entries n)) (at_number made.managers n)
        (subst (λ o. Both (IsEntry players) (entry_in made.managers (suc n)) o) (at_number book.entries n)
        (entry_by players (suc n) (entry_in old.managers (suc n)) (entry_in made.managers (suc n)) (entry_in book.entries (suc n))
        (both_at players old.managers book.entries stood (suc n))
        (λ manager at. each_at (IsManagerInOrder players) made.managers n manager order.managers (sym (at_number made.managers n) ∙ at))
        (same (slot.Entry (suc n))) (λ g. same (slot.Team (suc n) g)) (λ g m. same (slot.Transfer (suc n) g m))))

    entries_stand : AreEntries players made.managers book.entries
    entries_stand = are_entries players made.managers book.entries both

  pub rows_stand : IsInOrder book → TellsItems book → StandsIn made book
  rows_stand is items =
      let alike : SameBook book other = books is items in
      record {
        facts = alike.facts;
        entries = entries_stand alike.facts;
        leagues = alike.leagues;
        cups = alike.cups;
        lasts = alike.lasts;
      }

pub rows_in_order_stand : RowsInOrderStand
rows_in_order_stand old made book stands is items order same = rows_stand old made book stands order same is items
