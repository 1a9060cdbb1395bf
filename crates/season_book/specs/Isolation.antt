-- No reply hangs on what another manager did in an open gameweek.
use Rattle.std.specs.Prelude.{◌≡◌, ◌≢◌, ℕ, Bool, true, false, not, ◌&&◌, List, Option, Some, None, Result, Ok, Err, ⊤}
use Rattle.fpl_base.specs.declared.kinds.Caller.{Caller}
use Rattle.rule_book.specs.Batch.{is_same_position}
use Rattle.rule_book.specs.PlayerFigures.{position_in}
use Rattle.rule_book.specs.Uses.{has_lines}
use Rattle.season_book.specs.Book.{Book, Facts, caller_number}
use Rattle.season_book.specs.Commands.{has_player, part_of}
use Rattle.season_book.specs.declared.command.Command.{Command}
use Rattle.season_book.specs.declared.command.Command.TheVariants as command
use Rattle.season_book.specs.declared.part.Part.TheVariants as part
use Rattle.season_book.specs.LeagueCommands.{is_registered}
use Rattle.season_book.specs.PlayerCommands.{Amendment, have_had}
use Rattle.season_book.specs.Verdict.{Failures, IsVerdict, MayAnswer, Outcome, Verdict, accepted, pass, ruled, view_answer}
use Rattle.season_book.specs.declared.answer.Answer.{Answer}
use Rattle.season_book.specs.declared.answer.Answer.TheVariants as answer
use Rattle.season_book.specs.declared.request.Request.{Request}
use Rattle.season_book.specs.declared.request.Request.TheVariants as request
use Rattle.season_book.specs.declared.request.View.{View}
use Rattle.season_book.specs.Agree.{Agree}

-- whether another name and position of a player ask if an entry has had him: he is there, his position changes, and he has
-- no line
abbrev pub asks_entries : Option Facts → Amendment → Bool
asks_entries None given = false
asks_entries (Some facts) given =
    has_player facts given.player
    && (not (is_same_position (position_in facts.players given.player) given.position) && not (has_lines facts.matches given.player))

-- two books say the same of what a command asks of all entries: a change of the position of a player who has no line asks
-- whether one of them has had him, and nothing else asks anything
abbrev pub SameUse : Command → Book → Book → Type 0
SameUse (command.AmendPlayer p name position) book other =
    asks_entries book.facts (record { player = p; name = name; position = position }) ≡ true
    → have_had book.entries p ≡ have_had other.entries p
SameUse command book other = ⊤

-- what a request asks
abbrev pub SameUseOf : Request → Book → Book → Type 0
SameUseOf (request.View view) book other = ⊤
SameUseOf (request.Command number command) book other = SameUse command book other

-- every view shows a caller the same of two books that are the same to him
abbrev pub ViewsAreIsolated : Type 0
ViewsAreIsolated = (caller : Caller) (now : ℕ) (book other : Book) (view : View) → Agree caller now book other
    → view_answer (pass book now) caller view ≡ view_answer (pass other now) caller view

-- a command of a caller leads two books to the same: both refuse it with the same answer, or both accept it, it makes
-- the same, and the books behind it are the same to him again at this moment
abbrev pub RuledAlike : Caller → ℕ → ℕ → Command → Result Outcome Answer → Result Outcome Answer → Type 0
RuledAlike caller now number command (Err refused) (Err other) = refused ≡ other
RuledAlike caller now number command (Ok outcome) (Ok other) =
    (outcome.made ≡ other.made)
    × Agree caller now (accepted caller number command outcome) (accepted caller number command other)
RuledAlike caller now number command (Err refused) (Ok other) = ⊥
RuledAlike caller now number command (Ok outcome) (Err refused) = ⊥

-- every command of a caller, under any number, leads two books that are the same to him to the same, where they say the
-- same of what it asks of all entries
abbrev pub CommandsAreIsolated : Type 0
CommandsAreIsolated = (operator : List ℕ) (caller : Caller) (now number : ℕ) (command : Command) (book other : Book)
    → Agree caller now book other → SameUse command book other
    → RuledAlike caller now number command
    (ruled operator (pass book now) caller now command)
    (ruled operator (pass other now) caller now command)

-- a verdict in another book with the same answer, behind which the books are the same to the caller
pub record IsToldAlike (operator : List ℕ) (caller : Caller) (now : ℕ) (asked : Request) (other : Book) (verdict told : Verdict) : Type 0 where
  pub is_verdict : IsVerdict operator other caller now asked told
  pub answer : verdict.answer ≡ told.answer
  pub agree : Agree caller now verdict.book told.book

-- every verdict on a request of a caller is told alike in every other book that is the same to him, and says the same of what
-- it asks of all entries
abbrev pub RepliesAreIsolated : Type 0
RepliesAreIsolated = (operator : List ℕ) (caller : Caller) (now : ℕ) (asked : Request) (book other : Book) (verdict : Verdict)
    → Agree caller now book other → SameUseOf asked book other → IsVerdict operator book caller now asked verdict
    → (told : Verdict) × IsToldAlike operator caller now asked other verdict told

-- an answer that a caller is told of a book is a verdict's in every other such book
abbrev pub ToldAlike : List ℕ → Book → Caller → ℕ → Request → Answer → Type 0
ToldAlike operator book caller now asked reply =
    (other : Book) → Agree caller now book other → SameUseOf asked book other
    → (after : Book) × IsVerdict operator other caller now asked (record { answer = reply; book = after })

-- whatever may be answered is told alike, but want of memory and a keeper that failed
abbrev pub AnswersAreIsolated : Type 0
AnswersAreIsolated = (operator : List ℕ) (failures : Failures) (book : Book) (caller : Caller) (now : ℕ) (asked : Request) (reply : Answer) (after : Book)
    → MayAnswer operator failures book caller now asked reply after → reply ≢ answer.Memory → reply ≢ answer.Keeper
    → ToldAlike operator book caller now asked reply

-- what is asked by a manager: a view, or a command on his own entry
abbrev pub IsManagers : Request → Type 0
IsManagers (request.View view) = ⊤
IsManagers (request.Command number command) = part_of command ≡ part.Deeds

-- whatever the manager of another registered entry asks, a book and the one behind it are the same to a caller
abbrev pub OthersAreUnseen : Type 0
OthersAreUnseen = (operator : List ℕ) (caller another : Caller) (now : ℕ) (asked : Request) (book : Book) (verdict : Verdict)
    → caller_number caller ≢ caller_number another → is_registered book.entries (caller_number another) ≡ true → IsManagers asked
    → IsVerdict operator book another now asked verdict → Agree caller now book verdict.book
