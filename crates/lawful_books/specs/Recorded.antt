-- What records that tell a book say of a lawful history: none of its entry, its transfers and its chips breaks a rule.
use Rattle.std.specs.Prelude.{◌≡◌, ℕ, true, false, Some}
use Rattle.fpl_base.specs.Keeping.{Map}
use Rattle.rule_book.specs.declared.transfers.Sale.{Sale}
use Rattle.rule_book.specs.Entries.{entry_in}
use Rattle.rule_book.specs.History.{chip_at, is_touched}
use Rattle.rule_book.specs.HistoryRules.{IsHistory, NoneAfter}
use Rattle.season_book.specs.Book.{Book, EntryFacts, Facts}
use Rattle.season_records.specs.declared.slot.Slot.{Slot}
use Rattle.season_records.specs.Records as records
use Rattle.season_records.specs.Touched.{gameweek_of}
use Rattle.stored_records.specs.EntryTold.{first_told, is_in_time, sale_told}
use Rattle.stored_records.specs.Stored as stored
use Rattle.store_validation.specs.EntryRules.{entry_breaks, transfer_breaks}
use Rattle.store_validation.specs.TeamRules.{is_playable}
use Rattle.lawful_books.specs.Histories.{IsLawfulHistory}

-- records tell what a book tells, and in its season an entry of this number has a lawful history, of which nothing is
-- later than the next gameweek
pub record IsRecorded (m : Map) (book : Book) (facts : Facts) (e : ℕ) (entry : EntryFacts) : Type 0 where
  pub told : (s : Slot) → stored.told m s ≡ records.told book s
  pub season : book.facts ≡ Some facts
  pub there : entry_in book.entries e ≡ Some entry
  pub history : IsHistory entry.history
  pub early : NoneAfter (gameweek_of book) entry.history
  pub lawful : IsLawfulHistory facts entry.history

-- a registered entry has a team in its first gameweek
abbrev pub FirstTeamsAreTold : Type 0
FirstTeamsAreTold = (m : Map) (book : Book) (facts : Facts) (e : ℕ) (entry : EntryFacts) → IsRecorded m book facts e entry
    → entry_breaks m e (first_told m e) ≡ false

-- no transfer breaks a rule
abbrev pub TransfersAreLawful : Type 0
TransfersAreLawful = (m : Map) (book : Book) (facts : Facts) (e : ℕ) (entry : EntryFacts) (g n : ℕ) (s : Sale) → IsRecorded m book facts e entry
    → sale_told m e g n ≡ Some s → transfer_breaks m e g n s.out s.into s.sold s.bought ≡ false

-- a gameweek in which something was done is in the entry's time, and its chip can be played there
pub record IsInSeason (m : Map) (e g : ℕ) (entry : EntryFacts) : Type 0 where
  pub in_time : is_in_time m e g ≡ true
  pub playable : is_playable m e g (chip_at entry.history g) ≡ true

abbrev pub TeamsAreInSeason : Type 0
TeamsAreInSeason = (m : Map) (book : Book) (facts : Facts) (e : ℕ) (entry : EntryFacts) (g : ℕ) → IsRecorded m book facts e entry
    → is_touched entry.history g ≡ true → IsInSeason m e g entry
