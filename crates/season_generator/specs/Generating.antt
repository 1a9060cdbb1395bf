-- What is asked of a host for the made-up season of a seed, and what is written of it.
use Rattle.std.specs.Prelude.{◌≡◌, ◌⊎◌, ◌+◌, ℕ, zero, suc, Bool, true, false, List, Option, Some, None, Result, Ok, Err}
use Rattle.fpl_base.specs.declared.kinds.Caller.TheVariants as caller
use Rattle.season_book.specs.declared.answer.Answer.{Answer}
use Rattle.season_book.specs.declared.answer.Answer.TheVariants as answer
use Rattle.season_book.specs.declared.request.Request.TheVariants as request
use Rattle.season_book.specs.declared.request.View.TheVariants as view
use Rattle.season_generator.specs.Made.{step_of}
use Rattle.season_generator.specs.declared.made.Step.{Step}
use Rattle.request_handler.specs.Replying.{Served}
use Rattle.local_requests.specs.Asking.{IsHeardAt}
use Rattle.local_requests.specs.Printing.{EndsBy, PrintsOne}
use Rattle.season_generator.specs.Summaries.{summary_text, table_of}
use Rattle.season_generator.specs.declared.table.Table.{Table}

-- Each part of the season goes on with something, `Ok`, and then nothing was written; or it ends the season with an exit
-- status, `Err`, and nothing is asked behind it.

-- whether a command was done
abbrev pub is_done : Answer → Bool
is_done (answer.Done number made) = true
is_done told = false

-- a step that was done goes on, and every other answer ends the season
abbrev pub GoesOn : Answer → Option (List ℕ) → Option (List ℕ) → Result (Unit {0}) ℕ → Type 0
GoesOn told before after gave =
    ((is_done told ≡ true) × (gave ≡ Ok tt) × (after ≡ before))
    ⊎ ((is_done told ≡ false) × ((status : ℕ) × (gave ≡ Err status) × EndsBy told status before after))

-- memory was wanting for the command of a step, which was not asked
abbrev pub LacksMemory : Option (List ℕ) → Option (List ℕ) → Result (Unit {0}) ℕ → Served → Served → Type 0
LacksMemory before after gave old new = (gave ≡ Err 6) × (after ≡ before) × (new ≡ old)

-- the step of this number was asked for its caller, at its moment; or memory was wanting for it
abbrev pub IsPlayed : ℕ → ℕ → Option (List ℕ) → Option (List ℕ) → Result (Unit {0}) ℕ → Served → Served → Type 0
IsPlayed seed number before after gave old new =
    LacksMemory before after gave old new
    ⊎ ((step : Step) × (told : Answer) × (step_of seed number ≡ Some step)
    × IsHeardAt step.moment old step.caller (request.Command step.number step.command) told new
    × GoesOn told before after gave)

-- so many steps were played one after another, from this number on, up to the first that ends the season
unfoldable pub PlaysOn : ℕ → ℕ → ℕ → Option (List ℕ) → Option (List ℕ) → Result (Unit {0}) ℕ → Served → Served → Type 0
PlaysOn seed from zero before after gave old new = (gave ≡ Ok tt) × (after ≡ before) × (new ≡ old)
PlaysOn seed from (suc count) before after gave old new =
    ((status : ℕ) × (gave ≡ Err status) × IsPlayed seed from before after (Err status) old new)
    ⊎ ((mid : Served) × IsPlayed seed from before before (Ok tt) old mid × PlaysOn seed (from + 1) count before after gave mid new)

-- an answer to the view of the league tells its table; every other one ends the season
abbrev pub TellsTable : Answer → Option (List ℕ) → Option (List ℕ) → Result Table ℕ → Type 0
TellsTable told before after gave =
    ((table : Table) × (table_of told ≡ Some table) × (gave ≡ Ok table) × (after ≡ before))
    ⊎ ((table_of told ≡ None) × ((status : ℕ) × (gave ≡ Err status) × EndsBy told status before after))

-- the table of the league was asked for the operator, at the moment of the sheets
abbrev pub IsTabled : Option (List ℕ) → Option (List ℕ) → Result Table ℕ → Served → Served → Type 0
IsTabled before after gave old new =
    (told : Answer) × IsHeardAt 1691790000 old caller.Operator (request.View (view.League 1)) told new
    × TellsTable told before after gave

-- so many steps were played, from this number on, and then the table was asked for
abbrev pub TabledBehind : ℕ → ℕ → ℕ → Option (List ℕ) → Option (List ℕ) → Result Table ℕ → Served → Served → Type 0
TabledBehind seed from count before after gave old new =
    ((status : ℕ) × (gave ≡ Err status) × PlaysOn seed from count before after (Err status) old new)
    ⊎ ((played : Served) × PlaysOn seed from count before before (Ok tt) old played × IsTabled before after gave played new)

-- the last step was played and the table asked for again, and the summary was written, with status 0
abbrev pub IsCorrected : ℕ → Table → Option (List ℕ) → Option (List ℕ) → ℕ → Served → Served → Type 0
IsCorrected seed first before after status old new =
    TabledBehind seed 2121 1 before after (Err status) old new
    ⊎ ((second : Table) × TabledBehind seed 2121 1 before before (Ok second) old new
    × PrintsOne (λ text. text ≡ summary_text first.sum second.sum second.entry second.total) 0 status before after)

-- the season of a seed was asked: all steps but the last, the table, the last step, and the table again. Then the summary of
-- both tables was written; or one of these ended the season with its status
abbrev pub IsGenerated : ℕ → Option (List ℕ) → Option (List ℕ) → ℕ → Served → Served → Type 0
IsGenerated seed before after status old new =
    TabledBehind seed 0 2121 before after (Err status) old new
    ⊎ ((first : Table) × (mid : Served) × TabledBehind seed 0 2121 before before (Ok first) old mid
    × IsCorrected seed first before after status mid new)
