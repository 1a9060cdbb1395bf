-- When two books are the same to a caller at a moment.
use Rattle.std.specs.Prelude.{◌≡◌, ℕ, List, [], ◌∷◌, Option, Some, None, ⊤}
use Rattle.fpl_base.specs.declared.kinds.Caller.{Caller}
use Rattle.rule_book.specs.Entries.{entry_in}
use Rattle.rule_book.specs.History.{Event}
use Rattle.rule_book.specs.UpTo.{AgreeUpTo, start_of}
use Rattle.season_book.specs.Book.{Book, EntryFacts, Facts, caller_number, last_of}
use Rattle.season_book.specs.Verdict.{pass}

-- two histories have the same events in locked gameweeks; before a season no gameweek is open, and all are the same
abbrev pub SameWhereLocked : Option Facts → List Event → List Event → Type 0
SameWhereLocked None h h2 = h ≡ h2
SameWhereLocked (Some facts) h h2 = AgreeUpTo facts.calendar.locked h h2

-- two entries are the same to others: their keys and names, their first gameweeks, and their locked gameweeks. The
-- first gameweek is a fact of its own, since it may be the open one: a manager's first squad is not taken as unseen
pub record EntryAlike (facts : Option Facts) (entry other : EntryFacts) : Type 0 where
  pub key : entry.key ≡ other.key
  pub name : entry.name ≡ other.name
  pub start : start_of entry.history ≡ start_of other.history
  pub locked : SameWhereLocked facts entry.history other.history

-- as many entries, each the same to others
abbrev pub EntriesAlike : Option Facts → List EntryFacts → List EntryFacts → Type 0
EntriesAlike facts [] [] = ⊤
EntriesAlike facts [] (other ∷ others) = ⊥
EntriesAlike facts (entry ∷ entries) [] = ⊥
EntriesAlike facts (entry ∷ entries) (other ∷ others) = EntryAlike facts entry other × EntriesAlike facts entries others

-- two books are the same to a caller, when the moment's gameweeks are locked in both: they differ at most in what
-- other entries did in open gameweeks, and in the last commands of other callers. His own entry, if he has one, is the
-- same. Nothing else is asked of a history: it need not be in order
pub record Alike (caller : Caller) (book other : Book) : Type 0 where
  pub facts : book.facts ≡ other.facts
  pub leagues : book.leagues ≡ other.leagues
  pub cups : book.cups ≡ other.cups
  pub entries : EntriesAlike book.facts book.entries other.entries
  pub own : entry_in book.entries (caller_number caller) ≡ entry_in other.entries (caller_number caller)
  pub last : last_of book caller ≡ last_of other caller

-- the same, once a moment was told to both
abbrev pub Agree : Caller → ℕ → Book → Book → Type 0
Agree caller now book other = Alike caller (pass book now) (pass other now)

-- being the same to a caller at a moment can be turned around and chained
pub record AgreesBothWays (caller : Caller) (now : ℕ) : Type 0 where
  pub same : (a : Book) → Agree caller now a a
  pub turned : (a b : Book) → Agree caller now a b → Agree caller now b a
  pub chained : (a b c : Book) → Agree caller now a b → Agree caller now b c → Agree caller now a c
