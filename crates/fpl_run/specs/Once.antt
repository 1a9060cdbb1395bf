-- A command acts once over a session, and over all connections that are served one after another.
use Rattle.std.specs.Prelude.{ℕ, Bool, List, Option}
use Rattle.fpl_base.specs.declared.kinds.Caller.{Caller}
use Rattle.season_book.specs.Book.{caller_number, last_number}
use Rattle.season_book.specs.Once.{Acted, RiseByOne, acted_numbers}
use Rattle.season_book.specs.Runs.{Asked}
use Rattle.season_book.specs.declared.answer.Answer.{Answer}
use Rattle.fpl_http.specs.Stream.{Request as Message}
use Rattle.fpl_http.specs.declared.ending.Ending.{Ending}
use Rattle.request_handler.specs.Once.{AreJudged}
use Rattle.request_handler.specs.Replying.{Served}
use Rattle.fpl_run.specs.Pipe.{AreHeard, IsSession}
use Rattle.fpl_run.specs.Serve.{DoorState, HearOn, ServesOn, in_turn}

-- what the host judged of these messages acts or rests, one after another, and the numbers of each caller's commands that
-- acted rise by one from his last number before: no command acts twice, and none is left out
abbrev pub ActOnce : Served → List Message → Served → Type 0
ActOnce old messages new =
    (asked : List Asked) × (answers : List Answer) × (acts : List Bool) × AreJudged old messages asked answers new
    × Acted old.host.operator old.host.book asked answers acts new.host.book
    × ((caller : Caller) → RiseByOne (last_number old.host.book caller) (acted_numbers (caller_number caller) asked acts))

-- in every session of such answers; `seen` tells what a host is in them
abbrev pub SessionsActOnce : {S : Type 0} → (S → Message → ℕ × List ℕ → S → Type 0) → (Served → S) → Type 0
SessionsActOnce answers seen =
    (left now before after : Option (List ℕ)) (ending : Ending) (old new : Served) → IsSession answers left now before after ending (seen old) (seen new)
    → (messages : List Message) × AreHeard left now messages × ActOnce old messages new

-- and over all connections that are served one after another: the messages of all, in turn
abbrev pub ServesActOnce : {S : Type 0} → (S → Message → ℕ × List ℕ → S → Type 0) → (Served → S) → Type 0
ServesActOnce answers seen =
    (count : ℕ) (before after : DoorState) (status : ℕ) (old new : Served) → ServesOn answers count before after status (seen old) (seen new)
    → (heard : List (List Message)) × HearOn count before after heard × ActOnce old (in_turn heard) new
