-- What a run owes to its words and its input, and how it may end.
use Rattle.std.specs.Prelude.{◌≡◌, ◌≤◌, ◌<◌, ◌++◌, ◌⊎◌, [], ◌∷◌, ℕ, List, Option, Some, None, Result, IfSome, length, codes}
use Rattle.std.specs.Io.KnownBytes.{Appends, IsAtEnd, Keeps}
use Rattle.fpl_base.specs.Causes.{AppendsFront}
use Rattle.fpl_base.specs.declared.kinds.Profile.{Profile}
use Rattle.fpl_base.specs.declared.outside.ShelfFault.{ShelfFault}
use Rattle.fpl_base.specs.Keeping.{Map}
use Rattle.fpl_base.specs.Moments.{Moments}
use Rattle.command_line.specs.declared.words.Words.{Words}
use Rattle.command_line.specs.declared.words.Words.TheVariants as order
use Rattle.score_sheet.specs.Sheets.{Scores, HasWrongRow}
use Rattle.fpl_run.specs.Input.{TakesAtMost}
use Rattle.fpl_run.specs.Pipe.{Pipes}
use Rattle.local_requests.specs.RowFaults.{row_text}
use Rattle.fpl_run.specs.Requests.{Dreams, Generates, Reports}
use Rattle.fpl_run.specs.Reading.{PipeCounts, ServeCounts}
use Rattle.fpl_run.specs.Serve.{DoorState, Serves}
use Rattle.fpl_run.specs.Drafts.{Drafted}
use Rattle.fpl_run.specs.Events.{Recorded}
use Rattle.fpl_run.specs.Loads.{Handed, Loaded}

-- the text for words that are not read
abbrev pub not_read_text : List ℕ
not_read_text = codes "words not read" ++ 10 ∷ []

-- what is due for words that are not read: a line that says so, and status 2
abbrev pub IsNotReadDue : ℕ → List ℕ → Type 0
IsNotReadDue status text = (status ≡ 2) × (text ≡ not_read_text)

-- what is due for the bytes of a match: status 0 and the text of what its rows score by the rules of a profile, status
-- 11 and the number of its first wrong row, or status 10 and nothing where there are more than 65,536 bytes
abbrev pub IsScoreDue : Profile → List ℕ → ℕ → List ℕ → Type 0
IsScoreDue profile bytes status text =
    ((status ≡ 0) × (length bytes ≤ 65536) × Scores profile bytes text)
    ⊎ ((status ≡ 11) × (length bytes ≤ 65536) × ((n : ℕ) × HasWrongRow bytes n × (text ≡ row_text n)))
    ⊎ ((status ≡ 10) × (65536 < length bytes) × (text ≡ []))

-- a run ended with this status and wrote no more than this: it ended as was due and wrote the text that was; or the
-- output failed and took a front of that text; or the input failed or memory ran out, and nothing was written
abbrev pub Ends : (ℕ → List ℕ → Type 0) → ℕ → Option (List ℕ) → Option (List ℕ) → Type 0
Ends Due status before after =
    ((text : List ℕ) × Due status text × Appends before after text)
    ⊎ ((status ≡ 3) × ((due : ℕ) × (text : List ℕ) × Due due text × AppendsFront before after text))
    ⊎ (((status ≡ 1) ⊎ (status ≡ 6)) × Keeps before after)

-- What a run promises, by its words.

-- what is outside of a run, before it or behind it, as far as it tells: what the input has left, the moments that the clock has
-- left, what the output took, the keeper, the doors, and the files with what was noted of a load; and how many reads were counted
pub record Outside (K F : Type 0) : Type 0 where
  pub left : Option (List ℕ)
  pub moments : Option Moments
  pub taken : Option (List ℕ)
  pub keeper : K
  pub doors : DoorState
  pub files : Handed F
  pub reads : ℕ

-- a run of `score`: it ended as is due for the bytes that the input had, read it to its end where the status is 0, never took
-- more of it than 65,537 bytes, and wrote nothing where memory ran out
pub record Scored (profile : Profile) (left now before after : Option (List ℕ)) (status : ℕ) : Type 0 where
  pub due : IfSome left (λ bytes. Ends (IsScoreDue profile bytes) status before after)
  pub end : status ≡ 0 → IsAtEnd now
  pub taken : TakesAtMost 65537 left now
  pub statuses : (status ≡ 0) ⊎ (status ≡ 1) ⊎ (status ≡ 3) ⊎ (status ≡ 6) ⊎ (status ≡ 10) ⊎ (status ≡ 11)
  pub memory : status ≡ 6 → Keeps before after

-- a run by words that order nothing: a line says so, unless there was no memory to read them
abbrev pub IsUnread : Option (List ℕ) → Option (List ℕ) → ℕ → Type 0
IsUnread before after status = Ends IsNotReadDue status before after × ((status ≡ 2) ⊎ (status ≡ 3) ⊎ (status ≡ 6))

-- for how many connections words ask
abbrev pub connections_in : Option Words → ℕ
connections_in (Some (order.Serve key port clients connections pages store)) = connections
connections_in said = 0

-- a run that was not handed the input, and none but `serve` the doors, left them as they were
abbrev pub LeavesInput : {K F : Type 0} → Outside K F → Outside K F → Type 0
LeavesInput old new = new.left ≡ old.left

abbrev pub LeavesDoors : {K F : Type 0} → Outside K F → Outside K F → Type 0
LeavesDoors old new = new.doors ≡ old.doors

-- no run but that of `load` is handed the files, or notes anything
abbrev pub LeavesFiles : {K F : Type 0} → Outside K F → Outside K F → Type 0
LeavesFiles old new = new.files ≡ old.files

-- a run without a host is handed neither the keeper nor the clock, and counts no read
abbrev pub LeavesHost : {K F : Type 0} → Outside K F → Outside K F → Type 0
LeavesHost old new = (new.keeper ≡ old.keeper) × (new.moments ≡ old.moments) × (new.reads ≡ old.reads) × LeavesDoors old new × LeavesFiles old new

-- a run by what the words order
abbrev pub RunsAs : {K F : Type 0} → (K → Type 0) → (K → Type 0) → (K → Map → Type 0) → (K → Map → Type 0) → (K → ℕ) → (F → List ℕ → Result (List ℕ) ShelfFault → F → Type 0)
    → Option Words → Outside K F → Outside K F → ℕ → Type 0
RunsAs tells serves holds passes faults once (Some (order.Score profile)) old new status =
    Scored profile old.left new.left old.taken new.taken status × LeavesHost old new
RunsAs tells serves holds passes faults once (Some (order.Pipe key store)) old new status =
    Pipes tells serves holds passes faults old.keeper new.keeper key old.left new.left old.moments new.moments old.taken new.taken status old.reads new.reads
    × PipeCounts tells holds passes old.keeper new.keeper key old.left new.left old.moments new.moments old.reads new.reads
    × LeavesDoors old new × LeavesFiles old new
RunsAs tells serves holds passes faults once (Some (order.Serve key port clients connections pages store)) old new status =
    Serves tells serves holds passes faults old.keeper new.keeper key connections old.doors new.doors old.moments new.moments old.taken new.taken status old.reads new.reads
    × ServeCounts tells holds passes old.keeper new.keeper key connections old.doors new.doors old.moments new.moments old.reads new.reads
    × LeavesInput old new × LeavesFiles old new
RunsAs tells serves holds passes faults once (Some (order.Load key store folder split profile more)) old new status =
    Loaded tells serves holds passes faults once old.keeper new.keeper key folder split profile more old.files new.files old.moments new.moments old.taken new.taken status
    × LeavesInput old new × LeavesDoors old new
RunsAs tells serves holds passes faults once (Some (order.Report key store shown)) old new status =
    Reports tells serves holds passes faults old.keeper new.keeper key shown old.moments new.moments old.taken new.taken status
    × LeavesInput old new × LeavesDoors old new × LeavesFiles old new
RunsAs tells serves holds passes faults once (Some (order.Generate seed store)) old new status =
    Generates tells serves holds passes faults old.keeper new.keeper seed old.moments old.taken new.taken status
    × (new.moments ≡ old.moments) × LeavesInput old new × LeavesDoors old new × LeavesFiles old new
RunsAs tells serves holds passes faults once (Some (order.Dream key store gameweek)) old new status =
    Dreams tells serves holds passes faults old.keeper new.keeper key gameweek old.moments new.moments old.taken new.taken status
    × LeavesInput old new × LeavesDoors old new × LeavesFiles old new
RunsAs tells serves holds passes faults once (Some (order.Events key store fixture minutes)) old new status =
    Recorded tells serves holds passes faults old.keeper new.keeper key fixture minutes old.left new.left old.moments new.moments old.taken new.taken status
    × LeavesDoors old new × LeavesFiles old new
RunsAs tells serves holds passes faults once (Some (order.Draft key store members)) old new status =
    Drafted tells serves holds passes faults old.keeper new.keeper key members old.left new.left old.moments new.moments old.taken new.taken status
    × LeavesDoors old new × LeavesFiles old new
RunsAs tells serves holds passes faults once None old new status =
    IsUnread old.taken new.taken status × LeavesInput old new × LeavesHost old new
