-- That commands act once, over whole runs of requests.
use Rattle.std.specs.Prelude.{◌≡◌, ◌⊎◌, ◌+◌, ℕ, Bool, true, false, ◌&&◌, ◌==◌, List, [], ◌∷◌, Ok, if◌then◌else◌}
use Rattle.fpl_base.specs.declared.kinds.Caller.{Caller}
use Rattle.season_book.specs.Book.{Book, caller_number, last_number}
use Rattle.season_book.specs.declared.command.Command.{Command}
use Rattle.season_book.specs.declared.made.Made.{Made}
use Rattle.season_book.specs.Runs.{Asked, Run}
use Rattle.season_book.specs.Verdict.{IsRepeat, Outcome, accepted, pass, ruled}
use Rattle.season_book.specs.declared.answer.Answer.{Answer}
use Rattle.season_book.specs.declared.answer.Answer.TheVariants as answer
use Rattle.season_book.specs.declared.request.Request.{Request}
use Rattle.season_book.specs.declared.request.Request.TheVariants as request

-- the request was answered as done, or memory ran out or the keeper failed behind it
abbrev pub WasTold : ℕ → Made → Answer → Type 0
WasTold number made reply = (reply ≡ answer.Done number made) ⊎ ((reply ≡ answer.Memory) ⊎ (reply ≡ answer.Keeper))

-- a request acts: it is the command of the number behind the caller's last one, it was ruled well, the book is the one
-- that it leads to, it is kept as the caller's last one, and it is answered as done, or memory ran out or the keeper
-- failed behind it
pub record Acts (operator : List ℕ) (book : Book) (asked : Asked) (reply : Answer) (after : Book) : Type 0 where
  pub command : Command
  pub outcome : Outcome
  pub is_next : asked.request ≡ request.Command (last_number book asked.caller + 1) command
  pub is_ruled : ruled operator (pass book asked.now) asked.caller asked.now command ≡ Ok outcome
  pub is_done : after ≡ accepted asked.caller (last_number book asked.caller + 1) command outcome
  pub is_told : WasTold (last_number book asked.caller + 1) outcome.made reply

-- only a command that is kept as the caller's last one is answered as done
abbrev pub WasDone : Book → Asked → Answer → Type 0
WasDone book asked (answer.Done number made) =
    (command : Command) × (asked.request ≡ request.Command number command) × IsRepeat book asked.caller number command made
WasDone book asked reply = Unit {0}

-- a request rests: the book stays, but for the moment's locks
pub record Rests (book : Book) (asked : Asked) (reply : Answer) (after : Book) : Type 0 where
  pub stays : (after ≡ book) ⊎ (after ≡ pass book asked.now)
  pub was_done : WasDone book asked reply

-- which of the requests of a run acted
abbrev pub Acted : List ℕ → Book → List Asked → List Answer → List Bool → Book → Type 0
Acted operator book [] [] [] after = after ≡ book
Acted operator book (asked ∷ more) (reply ∷ replies) (true ∷ acts) after =
    (between : Book) × Acts operator book asked reply between × Acted operator between more replies acts after
Acted operator book (asked ∷ more) (reply ∷ replies) (false ∷ acts) after =
    (between : Book) × Rests book asked reply between × Acted operator between more replies acts after
Acted operator book asked replies acts after = ⊥

-- the number of a command
abbrev pub number_asked : Request → ℕ
number_asked (request.Command number command) = number
number_asked (request.View view) = 0

-- the numbers of a caller's commands that acted, in their order
abbrev pub acted_numbers : ℕ → List Asked → List Bool → List ℕ
acted_numbers caller [] acts = []
acted_numbers caller (asked ∷ more) [] = []
acted_numbers caller (asked ∷ more) (acts ∷ others) =
    if acts && (caller_number asked.caller == caller) then number_asked asked.request ∷ acted_numbers caller more others
    else acted_numbers caller more others

-- each number is one more than the one before
abbrev pub RiseByOne : ℕ → List ℕ → Type 0
RiseByOne last [] = Unit {0}
RiseByOne last (number ∷ numbers) = (number ≡ last + 1) × RiseByOne number numbers

-- in every run each request acts or rests, and the numbers of each caller's commands that acted rise by one from his
-- last number before the run: no command acts twice, and none is left out
abbrev pub CommandsActOnce : Type 0
CommandsActOnce = (operator : List ℕ) (book after : Book) (asked : List Asked) (replies : List Answer) → Run operator book asked replies after
    → (acts : List Bool) × Acted operator book asked replies acts after
    × ((caller : Caller) → RiseByOne (last_number book caller) (acted_numbers (caller_number caller) asked acts))
