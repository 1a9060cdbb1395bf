-- What a host answers over its keeper, and what both are behind it.
use Rattle.std.specs.Prelude.{◌≡◌, ◌≤◌, ◌+◌, ◌⊎◌, ℕ, ⊤, true, false, List, Option, OnErr, OnOk, Result, Ok, Err}
use Rattle.fpl_base.specs.Causes.{Rose}
use Rattle.fpl_base.specs.Keeping.{Map, applied}
use Rattle.fpl_base.specs.declared.kinds.Caller.{Caller}
use Rattle.fpl_base.specs.declared.outside.KeeperFault.{KeeperFault}
use Rattle.fpl_base.specs.declared.outside.KeeperFault.TheVariants as fault
use Rattle.season_book.specs.Book.{Book}
use Rattle.season_book.specs.Verdict.{Failures, IsVerdict, IsVerdictIn, MayBeLeft, Verdict}
use Rattle.season_book.specs.declared.answer.Answer.{Answer}
use Rattle.season_book.specs.declared.answer.Answer.TheVariants as answer
use Rattle.season_book.specs.declared.request.Request.{Request}
use Rattle.season_book.specs.declared.request.Request.TheVariants as request_of
use Rattle.season_records.specs.declared.slot.Slot.{Slot}
use Rattle.season_records.specs.Commits.{HoldsLeft}
use Rattle.season_records.specs.Records.{records}
use Rattle.season_records.specs.Touched.{batch}
use Rattle.record_changes.specs.RowsTold.{told_by}
use Rattle.season_host.specs.Accepted.{TellItemsBy}
use Rattle.season_cells.specs.Kept.{CellRows}
use Rattle.season_host.specs.Cells.{AreCorrected, IsCheapCommand, IsCheapNow, running_in}
use Rattle.season_running.specs.Standing.{HostRows, StandsIn, passed}
use Rattle.season_views.specs.Reads.{view_reads}
use Rattle.season_opening.specs.Opening.{IsKeepable}
use Rattle.season_keeping.specs.Housed.{Backs, Housed}

-- Answers.

-- every verdict on a request leaves another book than the one before it
abbrev pub WouldChange : List ℕ → Book → Caller → ℕ → Request → Type 0
WouldChange operator book caller now request =
    (verdict : Verdict) → IsVerdict operator book caller now request verdict → verdict.book ≡ book → ⊥

-- a host that is not stale stands for a book, and its keeper, if it tells, holds this book's records where it held those of
-- the book before
abbrev pub StandsOn : {K : Type 0} → (K → Type 0) → (K → Map → Type 0) → (K → Map → Type 0) → K → K → Housed → Housed → Book → Book → Type 0
StandsOn tells holds passes before after old new book left =
    new.stale ≡ false
    → StandsIn new.rows left × (tells after → Backs holds passes before old book → Backs holds passes after new left)

-- from a book that the host stood for something leads to one that it stands for now, unless it is stale; and where the
-- keeper tells and serves, stale or not, to one whose records it holds now, as it held those of the one before
pub record LeadsOn {K : Type 0} (tells serves : K → Type 0) (holds passes : K → Map → Type 0) (before after : K) (old new : Housed) (book : Book) (leads : Book → Type 0) : Type 0 where
  pub by_rows : (left : Book) × StandsOn tells holds passes before after old new book left × leads left
  pub by_records : tells after → serves after → Backs holds passes before old book → (left : Book) × Backs holds passes after new left × leads left

-- a view leaves the host and its keeper as they were; nothing is said of a command
abbrev pub LeavesAll : {K : Type 0} → Request → K → K → Housed → Housed → Type 0
LeavesAll (request_of.View view) before after old new = (new ≡ old) × (after ≡ before)
LeavesAll (request_of.Command number command) before after old new = ⊤

-- a view leaves the rows with the moment's locks, whatever is answered; nothing is said of a command
abbrev pub PassesAlone : Request → ℕ → HostRows → HostRows → Type 0
PassesAlone (request_of.View view) now old new = new ≡ passed now old
PassesAlone (request_of.Command number command) now old new = ⊤

-- of each book that the host stood for
abbrev pub Answers : {K : Type 0} → (K → Type 0) → (K → Type 0) → (K → Map → Type 0) → (K → Map → Type 0) → K → K → Housed → Housed → (Book → Book → Type 0) → Type 0
Answers tells serves holds passes before after old new leads =
    (book : Book) → StandsIn old.rows book → LeadsOn tells serves holds passes before after old new book (leads book)

-- what a stop leaves behind a request are the records of a book that the request may leave, where it left those of the book
-- alone before
abbrev pub StopsLeave : {K : Type 0} → List ℕ → (K → Type 0) → (K → Map → Type 0) → (K → Map → Type 0) → K → K → Housed → Book → Caller → ℕ → Request → Type 0
StopsLeave operator tells holds passes before after old book caller now request =
    tells after → Backs holds passes before old book → (x : Map) → passes after x → HoldsLeft operator book caller now request x

-- the map holds the records of a book that the request may leave where memory ran out or the keeper failed, and that can be
-- made anew of them
abbrev pub HoldsKept : List ℕ → Book → Caller → ℕ → Request → Map → Type 0
HoldsKept operator book caller now asked m = (left : Book) × MayBeLeft operator book caller now asked left × IsKeepable left × (m ≡ records left)

-- and so it is of what a stop leaves behind a request
abbrev pub StopsKeep : {K : Type 0} → List ℕ → (K → Type 0) → (K → Map → Type 0) → (K → Map → Type 0) → K → K → Housed → Book → Caller → ℕ → Request → Type 0
StopsKeep operator tells holds passes before after old book caller now request =
    tells after → Backs holds passes before old book → (x : Map) → passes after x → HoldsKept operator book caller now request x

-- The parts of a request: a commit, the moment's locks, and what is answered in the book in which these are.

-- what some slots tell was committed: the rows stay, and where the commit did not go well the host is stale. After Ok the
-- keeper holds what it held with the commit, and a stop leaves that alone; after want of memory it holds what it held, and
-- where it failed one of the two. Unless memory ran out, what was told of the slots has values in their ranges; and so it has
-- wherever the keeper was asked
pub record Commits {T K : Type 0} (tells serves : K → Type 0) (holds passes : K → Map → Type 0) (before after : K) (slots : List Slot) (old new : Housed) (result : Result T KeeperFault) : Type 0 where
  pub rows : new.rows ≡ old.rows
  pub reread : new.reread ≡ old.reread
  pub fresh : OnOk result (new.stale ≡ old.stale)
  pub stale : OnErr result (new.stale ≡ true)
  pub done : OnOk result (tells after → (m : Map) → holds before m → holds after (applied m (batch (told_by old.rows) slots)))
  pub alone : OnOk result (tells after → (m : Map) → holds before m → (x : Map) → passes after x → x ≡ applied m (batch (told_by old.rows) slots))
  pub failed : OnErr result (tells after → serves after → (m : Map) → holds before m → holds after m ⊎ holds after (applied m (batch (told_by old.rows) slots)))
  pub kept : result ≡ Err fault.Memory → tells after → serves after → (m : Map) → holds before m → holds after m
  pub stops : tells after → (m : Map) → holds before m → (x : Map) → passes after x → passes before x ⊎ (x ≡ applied m (batch (told_by old.rows) slots))
  pub items : (result ≡ Err fault.Memory → ⊥) → TellItemsBy old.rows slots
  pub asked : (after ≡ before) ⊎ TellItemsBy old.rows slots

-- what is left of a commit that leads from a book to another: the other, or where it did not go well one of the two
abbrev pub EndsCommit : {T : Type 0} → Result T KeeperFault → Book → Book → Book → Type 0
EndsCommit (Ok done) book behind left = left ≡ behind
EndsCommit (Err fault) book behind left = (left ≡ book) ⊎ (left ≡ behind)

-- what a stop leaves behind such a commit are the records of one of the two, and the other one can be made anew of them
abbrev pub StopsCommit : {K : Type 0} → (K → Type 0) → (K → Map → Type 0) → (K → Map → Type 0) → K → K → Housed → Book → Book → Type 0
StopsCommit tells holds passes before after old book behind =
    tells after → Backs holds passes before old book → (x : Map) → passes after x → (x ≡ records book) ⊎ ((x ≡ records behind) × IsKeepable behind)

-- memory ran out, or the keeper failed, whose count then rose meanwhile
abbrev pub Fails : Failures → Answer → Type 0
Fails failures reply = (reply ≡ answer.Memory) ⊎ ((reply ≡ answer.Keeper) × Rose failures.before failures.behind)

-- what may be answered in a book in which the moment's gameweeks are locked: the verdict; or a fault, behind which the book
-- is that one or the verdict's
abbrev pub MayEnd : List ℕ → Failures → Book → Caller → ℕ → Request → Answer → Book → Type 0
MayEnd operator failures book caller now request reply after =
    IsVerdictIn operator book caller now request (record { answer = reply; book = after })
    ⊎ (Fails failures reply
    × ((after ≡ book) ⊎ ((due : Answer) × IsVerdictIn operator book caller now request (record { answer = due; book = after }))))

-- every verdict in that book gives a caller's last command another number
abbrev pub WouldAct : List ℕ → Book → Caller → ℕ → Request → Type 0
WouldAct operator book caller now request =
    (verdict : Verdict) → IsVerdictIn operator book caller now request verdict → verdict.book.lasts ≡ book.lasts → ⊥

-- and what a stop leaves are the records of the book, or of a verdict's that can be made anew of them
abbrev pub StopsEnding : {K : Type 0} → List ℕ → (K → Type 0) → (K → Map → Type 0) → (K → Map → Type 0) → K → K → Housed → Book → Caller → ℕ → Request → Type 0
StopsEnding operator tells holds passes before after old book caller now request =
    tells after → Backs holds passes before old book → (x : Map) → passes after x
    → (x ≡ records book)
    ⊎ ((due : Answer) × (left : Book) × IsVerdictIn operator book caller now request (record { answer = due; book = left }) × IsKeepable left × (x ≡ records left))

-- some verdict in that book leaves each caller's last command as it is: the request is refused or repeated, or it is a view
abbrev pub MayRest : List ℕ → Book → Caller → ℕ → Request → Type 0
MayRest operator book caller now request =
    (verdict : Verdict) × IsVerdictIn operator book caller now request verdict × (verdict.book.lasts ≡ book.lasts)

-- What is counted.

-- a command on a season that runs counted at most the reads by which what it touches, and what depends on that, are evaluated,
-- and beside them at most 2 for each line that it is compared with, and 8; nothing is said of a view
abbrev pub IsCheapRequest : HostRows → HostRows → Request → ℕ → ℕ → Type 0
IsCheapRequest before after (request_of.Command number command) old new = IsCheapCommand before after command old new
IsCheapRequest before after (request_of.View view) old new = ⊤

-- a moment that locks gameweeks, and then what was asked: each evaluated what it touches and what depends on that, as cells
-- between the two show, and counted no more reads than by these
pub record AreCorrectedBoth (before locked after : HostRows) (old new : Option CellRows) (asked : Request) (first last : ℕ) : Type 0 where
  pub cells : Option CellRows
  pub reads : ℕ
  pub locks : AreCorrected before locked old cells
  pub locks_cheap : IsCheapNow (running_in before) (running_in locked) first reads
  pub asks : AreCorrected locked after cells new
  pub asks_cheap : IsCheapRequest locked after asked reads last

-- a command counted at most 8 reads; nothing is said of a view
abbrev pub CountsFew : Request → ℕ → ℕ → Type 0
CountsFew (request_of.Command number command) old new = new ≤ old + 8
CountsFew (request_of.View view) old new = ⊤

-- the answer of a keeper's fault
abbrev pub answer_of_fault : KeeperFault → Answer
answer_of_fault fault.Failed = answer.Keeper
answer_of_fault fault.Memory = answer.Memory

-- a view makes no more counted reads than the answer of the book allows
abbrev pub ReadsFew : Book → Caller → Request → ℕ → ℕ → Type 0
ReadsFew book caller (request_of.View view) before behind = behind ≤ before + view_reads book caller view
ReadsFew book caller (request_of.Command number command) before behind = ⊤

-- an answer says that the keeper failed where its count rose meanwhile, and behind every other one the count is as it was; none
-- says that a record is damaged
abbrev pub IsCaused : Failures → Answer → Type 0
IsCaused failures answer.Keeper = Rose failures.before failures.behind
IsCaused failures (answer.Damaged key) = ⊥
IsCaused failures reply = failures.behind ≡ failures.before
