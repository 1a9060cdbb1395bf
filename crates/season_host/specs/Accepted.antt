-- What a command that was done in memory leaves, and which records it may have changed.
use Rattle.std.specs.Prelude.{◌≡◌, ◌⊎◌, ◌==◌, ℕ, Bool, false, not, List, [], Option, None, Some, Result, Ok, Err, IfSome}
use Rattle.std.specs.List.{AllByRecursion}
use Rattle.fpl_base.specs.declared.kinds.Caller.{Caller}
use Rattle.fpl_base.specs.declared.memory.Memory.{Memory}
use Rattle.rule_book.specs.Calendar.{after_pass}
use Rattle.season_book.specs.Book.{Book, Facts, Last, last_number}
use Rattle.season_book.specs.Doing.{IsRefused, MayAnswerIn}
use Rattle.season_book.specs.Verdict.{Outcome, accepted, judged, number_refusal, ruled}
use Rattle.season_book.specs.declared.answer.Answer.{Answer}
use Rattle.season_book.specs.declared.answer.Answer.TheVariants as answer
use Rattle.season_book.specs.declared.command.Command.{Command}
use Rattle.season_book.specs.declared.made.Made.{Made}
use Rattle.season_book.specs.declared.request.Request.TheVariants as request
use Rattle.season_book.specs.declared.made.Made.TheVariants as made
use Rattle.season_records.specs.Ranges.{IsItem}
use Rattle.season_records.specs.declared.slot.Slot.{Slot}
use Rattle.season_records.specs.Touched.{touched}
use Rattle.record_changes.specs.RowsTold.{told_by}
use Rattle.season_running.specs.Accepting.{IsNew, kept_last}
use Rattle.season_running.specs.Standing.{HostRows}
use Rattle.season_cells.specs.declared.plan.Plan.{Plan}
use Rattle.season_host.specs.declared.accepting.Begun.{Begun}
use Rattle.season_host.specs.declared.accepting.Done.{Done}
use Rattle.season_host.specs.declared.change.Change.{Change}
use Rattle.season_host.specs.declared.change.Change.TheVariants as change

-- whether a moment locks gameweeks that were open
abbrev pub locks_more : Option Facts → ℕ → Bool
locks_more None now = false
locks_more (Some facts) now = not ((after_pass facts.calendar now).locked == facts.calendar.locked)

-- each of these slots has values in their ranges, as rows tell them
abbrev pub TellItemsBy : HostRows → List Slot → Type 0
TellItemsBy rows slots = AllByRecursion (λ s. IfSome (told_by rows s) IsItem) slots

-- what was made, without the slots
abbrev pub made_in : Result Done Answer → Result Made Answer
made_in (Ok done) = Ok done.made
made_in (Err reply) = Err reply

-- the answer to a command of a number that was done, or refused, and the slots that were touched
abbrev pub answer_from : ℕ → Result Done Answer → Answer
answer_from number (Ok done) = answer.Done number done.made
answer_from number (Err reply) = reply

abbrev pub slots_from : Result Done Answer → List Slot
slots_from (Ok done) = done.slots.items
slots_from (Err reply) = []

-- what it changed that cells hang on
abbrev pub change_from : Result Done Answer → Change
change_from (Ok done) = done.change
change_from (Err reply) = change.Nothing

-- what was made, without the plan of what it changed
abbrev pub made_of : Result (Made × Plan) Memory → Result Made Memory
made_of (Ok done) = Ok done.0
made_of (Err memory) = Err memory

-- a command began a new season and was kept, or it was refused, or memory ran out
abbrev pub IsBegunAndKept : Caller → ℕ → ℕ → Command → List (ℕ × Last) → List (ℕ × Last) → Result Begun Answer → Type 0
IsBegunAndKept caller now number command old new (Ok begun) =
    (judged None now command ≡ Ok begun.running.facts) × IsNew begun.running
    × (new ≡ kept_last old caller number command made.Nothing)
IsBegunAndKept caller now number command old new (Err reply) =
    (new ≡ old) × IsRefused (judged None now command) reply

-- a command changes nothing, and no slots are touched; or it has the next number and was accepted, and those are that it
-- touches
abbrev pub Changes : List ℕ → Book → Caller → ℕ → ℕ → Command → List Slot → Book → Type 0
Changes operator book caller now number command slots after =
    ((slots ≡ []) × (after ≡ book))
    ⊎ ((outcome : Outcome) × (number_refusal (last_number book caller) number ≡ None) × (ruled operator book caller now command ≡ Ok outcome) × (after ≡ accepted caller number command outcome)
    × (slots ≡ touched book caller command))

-- what may be answered to a command, with the slots that are touched and the book behind it
abbrev pub MayEndIn : List ℕ → Book → Caller → ℕ → ℕ → Command → Answer → List Slot → Book → Type 0
MayEndIn operator book caller now number command reply slots after =
    MayAnswerIn operator book caller now (request.Command number command) reply after
    × Changes operator book caller now number command slots after
