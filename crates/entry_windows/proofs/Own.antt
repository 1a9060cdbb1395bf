-- What rows tell of an entry, of the entry of a book that they stand for.
use Rattle.std.proofs.Common.{◌≡◌, ◌≤◌, ℕ, List, [], Result, Some, subst}
use Rattle.std.specs.Option.{option_map_or}
use Rattle.std.specs.declared.alloc.AllocError.{AllocError}
use Rattle.json.specs.Token.{Token}
use Rattle.json.specs.Written.{Written}
use Rattle.json_members.specs.Tokens.{Appends}
use Rattle.rule_book.specs.Entries.{entry_in}
use Rattle.rule_book.specs.History.{Event}
use Rattle.rule_book.specs.Players.{ArePlayers}
use Rattle.rule_book.specs.UpTo.{start_of}
use Rattle.manager_book.specs.Managers.{Managers}
use Rattle.season_book.specs.Book.{EntryFacts, Facts}
use Rattle.season_entries.specs.Entries.{AreEntries}
use Rattle.season_views.specs.Entries.{OfEachHistory}
use Rattle.season_views.proofs.Histories.{in_books}

-- what holds of each history that an entry's rows stand for holds of that of the entry
pub of_entry : (facts : Facts) (managers : Managers) (entries : List EntryFacts) (e : ℕ) (row : EntryFacts) (Holds : List Event → Type 0) → ArePlayers facts.players → 1 ≤ e
    → AreEntries facts.players managers.managers entries → entry_in entries e ≡ Some row → OfEachHistory facts managers e Holds → Holds row.history
of_entry facts managers entries e row Holds players one are there holds =
    subst (λ o. Holds (option_map_or (λ (entry : EntryFacts). entry.history) o [])) there (in_books facts managers e Holds players one holds entries are)

-- where an entry's rows tell what is written of it, what was there before stays
pub before_stays : {r : Result (Unit {0}) AllocError} {old new : Written} (facts : Facts) (managers : Managers) (entries : List EntryFacts) (e first : ℕ) (row : EntryFacts) (due : List Event → List Token) → ArePlayers facts.players → 1 ≤ e
    → AreEntries facts.players managers.managers entries → entry_in entries e ≡ Some row → start_of row.history ≡ Some first
    → OfEachHistory facts managers e (λ h. start_of h ≡ Some first → Appends r old new (due h)) → new.before ≡ old.before
before_stays {r = r} {old = old} {new = new} facts managers entries e first row due players one are there start wrote =
    (of_entry facts managers entries e row (λ h. start_of h ≡ Some first → Appends r old new (due h)) players one are there wrote start).before
