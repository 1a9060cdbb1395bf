-- That what the records of a lawful book tell of entries, leagues, members, cups and last commands breaks no rule.
use Rattle.std.specs.Prelude.{◌≡◌, ◌-◌, ℕ, true, false, List, Option, Some}
use Rattle.fpl_base.specs.Keeping.{KeysRise, map_of}
use Rattle.rule_book.specs.Entries.{entry_in, most_entries}
use Rattle.season_book.specs.Book.{Book, EntryFacts, Facts}
use Rattle.season_records.specs.declared.item.Item.{Item}
use Rattle.season_records.specs.declared.slot.Slot.{Slot}
use Rattle.season_records.specs.declared.slot.Slot.TheVariants as slot
use Rattle.season_records.specs.Records.{records, told}
use Rattle.season_records.specs.Told.{IsInOrder, TellsItems}
use Rattle.stored_records.specs.SeasonRules.{is_full}
use Rattle.stored_records.specs.Stored.{Rows}
use Rattle.store_validation.specs.EntryRules.{entry_breaks}
use Rattle.store_validation.specs.Lawful.{breaks, is_in_range}
use Rattle.store_validation.specs.LeagueRules.{has_gap, has_other_key, issue_breaks}
use Rattle.lawful_books.specs.Leagues.{AreLawful}

-- an item is in range, and breaks no rule
pub record IsLawfulItem (rows : Rows) (i : Item) : Type 0 where
  pub range : is_in_range i ≡ true
  pub rules : breaks rows i ≡ false

-- so it is with what a book tells of a slot
abbrev pub IsLawfulSlot : Book → Rows → Slot → Type 0
IsLawfulSlot book rows s = (i : Item) → told book s ≡ Some i → IsLawfulItem rows i

-- this holds of a lawful book in a season, whose records these are in the order of their keys
abbrev pub HoldsOfRecords : (Book → Rows → Type 0) → Type 0
HoldsOfRecords P =
    (book : Book) (facts : Facts) (rows : Rows) → AreLawful book → IsInOrder book → TellsItems book → book.facts ≡ Some facts
    → KeysRise rows → map_of rows ≡ records book → P book rows

abbrev pub LeaguesBreakNone : Type 0
LeaguesBreakNone = HoldsOfRecords (λ book rows. (l : ℕ) → IsLawfulSlot book rows (slot.League l))

abbrev pub MembersBreakNone : Type 0
MembersBreakNone = HoldsOfRecords (λ book rows. (l e : ℕ) → IsLawfulSlot book rows (slot.Member l e))

abbrev pub CupsBreakNone : Type 0
CupsBreakNone = HoldsOfRecords (λ book rows. (c : ℕ) → IsLawfulSlot book rows (slot.Cup c))

abbrev pub LastsBreakNone : Type 0
LastsBreakNone = HoldsOfRecords (λ book rows. (c : ℕ) → IsLawfulSlot book rows (slot.Last c))

-- an entry stands behind the one before it, none before it has its key, and there is room for it
pub record IsIssuedRightly (rows : Rows) (e : ℕ) (key : List ℕ) : Type 0 where
  pub gap : has_gap (map_of rows) e (slot.Entry (e - 1)) ≡ false
  pub own : has_other_key rows e key ≡ false
  pub room : is_full rows most_entries (slot.Entry 0) (slot.Entry e) ≡ false

abbrev pub EntriesAreIssuedRightly : Type 0
EntriesAreIssuedRightly =
    HoldsOfRecords (λ book rows. (e : ℕ) (entry : EntryFacts) → entry_in book.entries e ≡ Some entry → IsIssuedRightly rows e entry.key)

-- so it breaks a rule only where it has no team in its first gameweek
abbrev pub IssuesBreakNone : Type 0
IssuesBreakNone = (rows : Rows) (e : ℕ) (first : Option ℕ) (key : List ℕ)
    → IsIssuedRightly rows e key → entry_breaks (map_of rows) e first ≡ false → issue_breaks rows e first key ≡ false
