-- How many reads a run counts whose messages ask nothing but views, where no deadline passes by the moments that the clock told.
use Rattle.std.specs.Prelude.{◌≡◌, ◌≤◌, ◌+◌, ◌⊎◌, ℕ, List, Option, Result, Ok, Err, sum}
use Rattle.fpl_base.specs.Keeping.{Map}
use Rattle.fpl_base.specs.Moments.{Moments}
use Rattle.fpl_base.specs.declared.outside.Failed.{Failed}
use Rattle.season_book.specs.Book.{Book}
use Rattle.season_opening.specs.Opening.{AreLoaded, IsKeepable}
use Rattle.season_records.specs.Records.{records}
use Rattle.season_running.specs.Standing.{HostRows, StandsIn}
use Rattle.fpl_http.specs.Stream.{Request as Message}
use Rattle.fpl_http.specs.Replies.{Speaks}
use Rattle.fpl_http.specs.Runs.{Run}
use Rattle.fpl_http.specs.declared.ending.Ending.{Ending}
use Rattle.request_handler.specs.Looks.{AreLooks, Counted, CountsLooks, LockNone, TellsOn}
use Rattle.fpl_run.specs.Pipe.{AreHeard}
use Rattle.fpl_run.specs.Serve.{DoorState, HearOn, Hears, in_turn}

-- the clock told moments for these messages, one after another; and in each book for which these rows stand, where the messages
-- ask nothing but views and none of the moments locks a gameweek, no more reads were counted than the views allow in all
pub record CountFew (rows : HostRows) (messages : List Message) (moments later : Option Moments) (first last : ℕ) : Type 0 where
  pub told : List ℕ
  pub tells : TellsOn moments told later
  pub few : (book : Book) (more : List ℕ) → StandsIn rows book → AreLooks (record { operator = rows.operator; book = book }) messages more → LockNone book told
      → last ≤ first + sum more

-- so it is of rows that were made of the records which the keeper gave as the host of this operator was opened: where the keeper
-- tells, they stand for each book whose records it held
pub record CountsFrom {K : Type 0} (tells : K → Type 0) (holds passes : K → Map → Type 0) (old new : K) (key : List ℕ) (counts : HostRows → Type 0) : Type 0 where
  pub rows : HostRows
  pub start : K
  pub operator : rows.operator ≡ key
  pub loaded : AreLoaded (tells start) (holds old) (holds start) (passes start) rows
  pub stand : tells new → (book : Book) → IsKeepable book → holds old (records book) → StandsIn rows book
  pub counted : counts rows

-- a run of `pipe` counts so for messages at the front of what it took of its input; or the host was not opened, and no read was
-- counted
abbrev pub PipeCounts : {K : Type 0} → (K → Type 0) → (K → Map → Type 0) → (K → Map → Type 0) → K → K → List ℕ → Option (List ℕ) → Option (List ℕ) → Option Moments → Option Moments → ℕ → ℕ → Type 0
PipeCounts tells holds passes old new key left now moments later first last =
    CountsFrom tells holds passes old new key (λ rows. (messages : List Message) × AreHeard left now messages × CountFew rows messages moments later first last)
    ⊎ (last ≡ first)

-- and a run of `serve` for the messages of all its connections, in turn
abbrev pub ServeCounts : {K : Type 0} → (K → Type 0) → (K → Map → Type 0) → (K → Map → Type 0) → K → K → List ℕ → ℕ → DoorState → DoorState → Option Moments → Option Moments → ℕ → ℕ → Type 0
ServeCounts tells holds passes old new key count before after moments later first last =
    CountsFrom tells holds passes old new key
    (λ rows. (heard : List (List Message)) × HearOn count before after heard × CountFew rows (in_turn heard) moments later first last)
    ⊎ (last ≡ first)

-- Along the connections.

-- one connection was served, each of whose messages counts as it may; or the doors failed, and no read was counted
abbrev pub CountOne : {K : Type 0} → DoorState → DoorState → Result Ending Failed → Counted K → Counted K → Type 0
CountOne before after (Ok ending) old new =
    (messages : List Message) × Hears before after messages × (texts : List (List ℕ)) × Run (Speaks CountsLooks) old messages texts new
CountOne before after (Err failed) old new = (after.coming ≡ before.coming) × (after.given_back ≡ before.given_back) × (new ≡ old)

-- so many connections at most were, one after another
abbrev pub CountOn : {K : Type 0} → ℕ → DoorState → DoorState → Counted K → Counted K → Type 0
CountOn count before after old new =
    (heard : List (List Message)) × HearOn count before after heard × (texts : List (List ℕ)) × Run (Speaks CountsLooks) old (in_turn heard) texts new
