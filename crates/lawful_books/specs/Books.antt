-- Lawful books: what the rules on records ask, of the books themselves. Every book of a run is one.
use Rattle.std.specs.Prelude.{◌≡◌, ℕ, List, [], ◌∷◌, Some}
use Rattle.fpl_base.specs.declared.kinds.Caller.{Caller}
use Rattle.rule_book.specs.Entries.{entry_in}
use Rattle.season_book.specs.Book.{Book, EntryFacts, Facts, empty_book}
use Rattle.season_book.specs.Hosts.{IsRequest}
use Rattle.season_book.specs.Runs.{Asked}
use Rattle.season_book.specs.Verdict.{IsVerdict, MayAnswer, Verdict}
use Rattle.season_book.specs.declared.answer.Answer.{Answer}
use Rattle.season_book.specs.declared.request.Request.{Request}
use Rattle.season_opening.specs.Opening.{IsKeepable}
use Rattle.lawful_books.specs.Histories.{IsLawfulHistory}
use Rattle.lawful_books.specs.Facts as facts_of
use Rattle.lawful_books.specs.LeaguesKeeping.{IsCaller}
use Rattle.lawful_books.specs.Leagues as leagues_of

-- a book whose facts are lawful, whose entries' keys, leagues, cups and last commands are, and whose managers' histories
-- are
pub record IsLawful (book : Book) : Type 0 where
  pub facts : (facts : Facts) → book.facts ≡ Some facts → facts_of.AreLawful facts
  pub leagues : leagues_of.AreLawful book
  pub histories : (facts : Facts) → book.facts ≡ Some facts → (e : ℕ) (entry : EntryFacts) → entry_in book.entries e ≡ Some entry
      → IsLawfulHistory facts entry.history

-- the empty book is lawful
abbrev pub EmptyIsLawful : Type 0
EmptyIsLawful = IsLawful empty_book

-- The book of a verdict on a request of the operator or of an entry that was issued is lawful where the one before is;
-- of both there are rows and records, as of every book of a program's run.
abbrev pub VerdictsKeepLaws : Type 0
VerdictsKeepLaws =
    (operator : List ℕ) (book : Book) (caller : Caller) (now : ℕ) (asked : Request) (verdict : Verdict)
    → IsKeepable book → IsKeepable verdict.book → IsRequest asked → IsCaller book caller
    → IsVerdict operator book caller now asked verdict → IsLawful book → IsLawful verdict.book

-- a host's run of requests of its callers through books of which there are rows and records
abbrev pub KeptRun : List ℕ → Book → List Asked → List Answer → Book → Type 0
KeptRun operator book [] [] after = after ≡ book
KeptRun operator book (one ∷ more) (reply ∷ replies) after =
    (mid : Book) × IsKeepable mid × IsRequest one.request × IsCaller book one.caller
    × MayAnswer operator one.failures book one.caller one.now one.request reply mid × KeptRun operator mid more replies after
KeptRun operator book asked replies after = ⊥

-- every book of it is lawful where the first one is
abbrev pub RunsKeepLaws : Type 0
RunsKeepLaws =
    (operator : List ℕ) (book after : Book) (asked : List Asked) (replies : List Answer)
    → IsKeepable book → IsLawful book → KeptRun operator book asked replies after → IsLawful after
