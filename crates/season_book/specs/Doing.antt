-- What is left by a call that judges a command and does it.
use Rattle.std.specs.Prelude.{◌≡◌, ◌⊎◌, ℕ, ⊤, true, List, Some, None, IsOk, Result, Ok, Err}
use Rattle.fpl_base.specs.declared.kinds.Caller.{Caller}
use Rattle.season_book.specs.Book.{Book, Facts}
use Rattle.season_book.specs.declared.command.Command.{Command}
use Rattle.season_book.specs.Commands.{are_there, begun_by, refusal_of}
use Rattle.season_book.specs.Verdict.{IsRepeat, IsVerdictIn, Verdict, judged}
use Rattle.season_book.specs.declared.answer.Answer.{Answer}
use Rattle.season_book.specs.declared.answer.Answer.TheVariants as answer
use Rattle.season_book.specs.declared.made.Made.{Made}
use Rattle.season_book.specs.declared.request.Request.{Request}
use Rattle.season_book.specs.declared.request.Request.TheVariants as request

-- nothing refuses a command on the facts of a season: it begins none, all that it names is there, and it breaks no rule
pub record IsGranted (facts : Facts) (now : ℕ) (command : Command) : Type 0 where
  pub begins_none : begun_by command ≡ None
  pub there : are_there facts command ≡ true
  pub unbroken : refusal_of facts now command ≡ None

-- a command on the facts of a season was weighed: nothing refuses it, or it is refused as it is judged
abbrev pub IsWeighed : {T : Type 0} → Facts → ℕ → Command → Result T Answer → Type 0
IsWeighed facts now command (Ok value) = IsGranted facts now command
IsWeighed facts now command (Err reply) = judged (Some facts) now command ≡ Err reply

-- it was refused as it was judged, or memory ran out where nothing refuses it
abbrev pub IsRefused : {T : Type 0} → Result T Answer → Answer → Type 0
IsRefused judged answer.Memory = IsOk judged
IsRefused judged reply = judged ≡ Err reply

-- the facts that a season begins with, unless it was refused or memory ran out
abbrev pub IsBegun : Result Facts Answer → Result Facts Answer → Type 0
IsBegun judged (Ok facts) = judged ≡ Ok facts
IsBegun judged (Err reply) = IsRefused judged reply

-- what may be answered in a book in which the moment's gameweeks are locked: the verdict, or want of memory, which
-- changes nothing
abbrev pub MayAnswerIn : List ℕ → Book → Caller → ℕ → Request → Answer → Book → Type 0
MayAnswerIn operator book caller now asked reply after =
    IsVerdictIn operator book caller now asked (record { answer = reply; book = after }) ⊎ ((reply ≡ answer.Memory) × (after ≡ book))

-- an answer that refuses nothing
abbrev pub IsGrant : Answer → Type 0
IsGrant (answer.Done number made) = ⊤
IsGrant (answer.Shown shown) = ⊤
IsGrant reply = ⊥

-- a request repeats no command that was done
abbrev pub IsNew : Book → Caller → Request → Type 0
IsNew book caller (request.Command number command) = (made : Made) → IsRepeat book caller number command made → ⊥
IsNew book caller (request.View view) = ⊤

-- a request is no repeat, and every verdict on it refuses nothing, in a book in which the moment's gameweeks are locked
abbrev pub IsGrantedIn : List ℕ → Book → Caller → ℕ → Request → Type 0
IsGrantedIn operator book caller now asked =
    IsNew book caller asked × ((verdict : Verdict) → IsVerdictIn operator book caller now asked verdict → IsGrant verdict.answer)

-- want of memory is answered only where nothing refuses the request, and never to a repeat
abbrev pub IsOutLate : List ℕ → Book → Caller → ℕ → Request → Answer → Type 0
IsOutLate operator book caller now asked answer.Memory = IsGrantedIn operator book caller now asked
IsOutLate operator book caller now asked reply = ⊤

-- an answer that speaks of no store
abbrev pub IsStoreless : Answer → Type 0
IsStoreless answer.Keeper = ⊥
IsStoreless (answer.Damaged key) = ⊥
IsStoreless reply = ⊤

-- a view's answer, or want of memory where it shows something
abbrev pub IsShown : Answer → Answer → Type 0
IsShown due answer.Memory = IsGrant due
IsShown due answer.Keeper = ⊥
IsShown due (answer.Damaged key) = ⊥
IsShown due reply = reply ≡ due
