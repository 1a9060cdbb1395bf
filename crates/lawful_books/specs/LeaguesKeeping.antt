-- That every book of a run is lawful: the empty one is, and moments and verdicts lead to none that is not.
use Rattle.std.specs.Prelude.{◌≡◌, ℕ, ⊤, true, List}
use Rattle.fpl_base.specs.declared.kinds.Caller.{Caller}
use Rattle.fpl_base.specs.declared.kinds.Caller.TheVariants.{Operator, Entry}
use Rattle.season_book.specs.Book.{Book, empty_book}
use Rattle.season_book.specs.Hosts.{IsRequest}
use Rattle.season_book.specs.LeagueCommands.{is_issued}
use Rattle.season_book.specs.Verdict.{IsVerdictIn, Verdict, pass}
use Rattle.season_book.specs.declared.request.Request.{Request}
use Rattle.season_records.specs.Keeping.{AreEarly}
use Rattle.season_records.specs.Told.{IsInOrder}
use Rattle.lawful_books.specs.Leagues.{AreLawful}

-- the operator, or an entry that was issued
abbrev pub IsCaller : Book → Caller → Type 0
IsCaller book Operator = ⊤
IsCaller book (Entry e) = is_issued book.entries e ≡ true

abbrev pub EmptyIsLawful : Type 0
EmptyIsLawful = AreLawful empty_book

abbrev pub MomentsKeepLaws : Type 0
MomentsKeepLaws = (book : Book) (now : ℕ) → AreLawful book → AreLawful (pass book now)

abbrev pub VerdictsKeepLaws : Type 0
VerdictsKeepLaws =
    (operator : List ℕ) (book : Book) (caller : Caller) (now : ℕ) (asked : Request) (verdict : Verdict)
    → IsInOrder book → AreLawful book → AreEarly book → IsRequest asked → IsCaller book caller
    → IsVerdictIn operator book caller now asked verdict → AreLawful verdict.book
