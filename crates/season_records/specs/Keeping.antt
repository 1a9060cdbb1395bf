-- That what a request touched, as the book behind it tells it, leads from the records of the book before to those of the
-- book behind.
use Rattle.std.specs.Prelude.{◌≡◌, ℕ, ⊤, List, Some, Ok}
use Rattle.fpl_base.specs.Keeping.{applied}
use Rattle.fpl_base.specs.declared.kinds.Caller.{Caller}
use Rattle.rule_book.specs.Calendar.{after_pass}
use Rattle.rule_book.specs.HistoryRules.{NoneAfter}
use Rattle.season_book.specs.Book.{Book, Facts, caller_number, empty_book}
use Rattle.season_book.specs.Commands.{part_of}
use Rattle.season_book.specs.LeagueViews.{history_of}
use Rattle.season_book.specs.Runs.{Asked, Run}
use Rattle.season_book.specs.Verdict.{IsVerdictIn, Outcome, Verdict, accepted, pass, ruled}
use Rattle.season_book.specs.declared.answer.Answer.{Answer}
use Rattle.season_book.specs.declared.command.Command.{Command}
use Rattle.season_book.specs.declared.part.Part.TheVariants as part
use Rattle.season_book.specs.declared.request.Request.{Request}
use Rattle.season_book.specs.declared.request.Request.TheVariants as request
use Rattle.season_records.specs.declared.slot.Slot.{Slot}
use Rattle.season_records.specs.Records.{records, told}
use Rattle.season_records.specs.Touched.{batch, gameweek_of, locked_slots, touched, touched_in}

-- what these slots tell of the book behind leads to its records from those of the book before
abbrev pub Leads : List Slot → Book → Book → Type 0
Leads slots book behind = applied (records book) (batch (told behind) slots) ≡ records behind

-- the entry of a number did nothing in a later gameweek than the next; nor did any
abbrev pub IsEarly : Book → ℕ → Type 0
IsEarly book e = NoneAfter (gameweek_of book) (history_of book.entries e)

abbrev pub AreEarly : Book → Type 0
AreEarly book = (e : ℕ) → IsEarly book e

-- so it is with the caller's entry where the command is a manager's
abbrev pub IsInTime : Book → Caller → Command → Type 0
IsInTime book caller command = part_of command ≡ part.Deeds → IsEarly book (caller_number caller)

-- a command that is accepted leads to the book behind it
abbrev pub CommandsKeepRecords : Type 0
CommandsKeepRecords =
    (operator : List ℕ) (book : Book) (caller : Caller) (now number : ℕ) (command : Command) (outcome : Outcome)
    → IsInTime book caller command → ruled operator book caller now command ≡ Ok outcome
    → Leads (touched book caller command) book (accepted caller number command outcome)

-- and so does a moment, which may lock gameweeks
abbrev pub LocksKeepRecords : Type 0
LocksKeepRecords = (book : Book) (now : ℕ) → Leads locked_slots book (pass book now)

-- where it locks none that was open, the book stays, and nothing is to be committed
abbrev pub NoLockLeavesBook : Type 0
NoLockLeavesBook = (book : Book) (now : ℕ)
    → ((facts : Facts) → book.facts ≡ Some facts → (after_pass facts.calendar now).locked ≡ facts.calendar.locked)
    → pass book now ≡ book

-- where the book stays, any slots lead to it
abbrev pub RestsKeepRecords : Type 0
RestsKeepRecords = (slots : List Slot) (book : Book) → Leads slots book book

-- the caller acts in time with a request
abbrev pub AsksInTime : Book → Caller → Request → Type 0
AsksInTime book caller (request.View view) = ⊤
AsksInTime book caller (request.Command number command) = IsInTime book caller command

-- a request leads to the book of its verdict, whether it is accepted or not
abbrev pub VerdictsKeepRecords : Type 0
VerdictsKeepRecords =
    (operator : List ℕ) (book : Book) (caller : Caller) (now : ℕ) (asked : Request) (verdict : Verdict)
    → AsksInTime book caller asked → IsVerdictIn operator book caller now asked verdict
    → Leads (touched_in book caller asked) book verdict.book

-- no book of a run is late: the empty one is not, and moments and verdicts lead to none that is
abbrev pub EmptyIsEarly : Type 0
EmptyIsEarly = AreEarly empty_book

abbrev pub MomentsAreEarly : Type 0
MomentsAreEarly = (book : Book) (now : ℕ) → AreEarly book → AreEarly (pass book now)

abbrev pub VerdictsAreEarly : Type 0
VerdictsAreEarly =
    (operator : List ℕ) (book : Book) (caller : Caller) (now : ℕ) (asked : Request) (verdict : Verdict)
    → AreEarly book → IsVerdictIn operator book caller now asked verdict → AreEarly verdict.book

-- so of every run from a book that is not late
abbrev pub RunsAreEarly : Type 0
RunsAreEarly =
    (operator : List ℕ) (book after : Book) (asked : List Asked) (replies : List Answer)
    → AreEarly book → Run operator book asked replies after → AreEarly after
