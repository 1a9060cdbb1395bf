-- What a map tells of the teams of a book's entry, where its history is lawful.
use Rattle.std.specs.Prelude.{◌≡◌, ℕ, true, Option, Some}
use Rattle.fpl_base.specs.declared.kinds.Chip.{Chip}
use Rattle.fpl_base.specs.Keeping.{Map}
use Rattle.rule_book.specs.Entries.{entry_in}
use Rattle.rule_book.specs.History.{is_touched}
use Rattle.rule_book.specs.HistoryRules.{IsHistory}
use Rattle.rule_book.specs.TeamOfHistory.{CanPay}
use Rattle.season_records.specs.declared.slot.Slot.{Slot}
use Rattle.season_book.specs.Book.{Book, EntryFacts, Facts}
use Rattle.season_records.specs.Records.{told as told_of}
use Rattle.stored_records.specs.EntryTold.{chip_in, team_told}
use Rattle.stored_records.specs.Sequels.{goes_on}
use Rattle.stored_records.specs.Stored.{told}
use Rattle.store_validation.specs.TeamRules.{is_fit}
use Rattle.lawful_books.specs.Histories.{IsLawfulHistory}

-- A team as it is recorded. Its crate keeps the name of this type to itself, so it is named as that of which `chip_in`
-- tells the chip.
abbrev pub told_by : {X : Type 0} → (Option X → Chip) → Type 0
told_by {X} chip = X

abbrev pub RecordedTeam : Type 0
RecordedTeam = told_by chip_in

-- a map tells of each slot what a book tells
abbrev pub Tells : Map → Book → Type 0
Tells m book = (s : Slot) → told m s ≡ told_of book s

-- An entry of a book in its season, whose history is lawful: in each gameweek in which something was done, the money
-- suffices.
pub record IsLawfulEntryOf (book : Book) (facts : Facts) (e : ℕ) (entry : EntryFacts) : Type 0 where
  pub season : book.facts ≡ Some facts
  pub there : entry_in book.entries e ≡ Some entry
  pub history : IsHistory entry.history
  pub lawful : IsLawfulHistory facts entry.history
  pub paid : (g : ℕ) → is_touched entry.history g ≡ true → CanPay entry.history g

-- each team that the map tells of is fit
abbrev pub TeamsToldAreFit : Type 0
TeamsToldAreFit =
    (m : Map) (book : Book) (facts : Facts) (e : ℕ) (entry : EntryFacts) (g : ℕ) (t : RecordedTeam)
    → Tells m book → IsLawfulEntryOf book facts e entry → team_told m e g ≡ Some t → is_fit m t ≡ true

-- and follows from what was before it
abbrev pub TeamsToldGoOn : Type 0
TeamsToldGoOn =
    (m : Map) (book : Book) (facts : Facts) (e : ℕ) (entry : EntryFacts) (g : ℕ) (t : RecordedTeam)
    → Tells m book → IsLawfulEntryOf book facts e entry → team_told m e g ≡ Some t → goes_on m e g t ≡ true
