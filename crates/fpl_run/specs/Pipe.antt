-- The command that runs a session of the host.
use Rattle.std.specs.Prelude.{◌≡◌, ◌⊎◌, ℕ, List, Option, IfSome}
use Rattle.std.specs.Io.KnownBytes.{Consumes}
use Rattle.fpl_base.specs.Keeping.{Map}
use Rattle.fpl_base.specs.Moments.{Moments}
use Rattle.fpl_http.specs.Stream.{Request}
use Rattle.fpl_http.specs.Replies.{Speaks}
use Rattle.fpl_http.specs.Sessions.{EndsAs, SessionOf, SessionOver}
use Rattle.fpl_http.specs.Stops.{Leads}
use Rattle.fpl_http.specs.declared.ending.Ending.{Ending}
use Rattle.fpl_http.specs.declared.ending.Ending.TheVariants.{Done, Closed, Cut, Refused, Read, Write, Long, Memory}
use Rattle.request_handler.specs.Replying.{IsReplyUntil}
use Rattle.request_handler.specs.Whole.{IsKeptReply}
use Rattle.fpl_run.specs.Keeping.{IsUnopened, Runs}
use Rattle.fpl_run.specs.Looking.{LooksReadFew}

-- the exit status of a session: 0 where it ended with the input or with a message that closes, and else a number for each cause
abbrev pub status_of : Ending → ℕ
status_of Done = 0
status_of Closed = 0
status_of Read = 1
status_of Write = 3
status_of Memory = 6
status_of Cut = 7
status_of Long = 10
status_of (Refused k) = 12

-- one session from a state to a state, by the bytes that were taken of the input and by all that it had
abbrev pub IsSession : {S : Type 0} → (S → Request → ℕ × List ℕ → S → Type 0) → Option (List ℕ) → Option (List ℕ) → Option (List ℕ) → Option (List ℕ) → Ending → S → S → Type 0
IsSession answers left now before after ending old new =
    SessionOf (Speaks answers) left now old new before after ending
    × IfSome left (λ all. SessionOver (Speaks answers) all old new before after ending)

-- messages stand at the front of what was taken of a source
abbrev pub AreHeard : Option (List ℕ) → Option (List ℕ) → List Request → Type 0
AreHeard left now messages = (got : List ℕ) × Consumes left now got × Leads got messages

-- a run of the command: one session of the host over the input and the output, with the moments that the clock told, from
-- the book that the keeper's records tell, and the status is that of its ending. And of messages at the front of what was taken,
-- looks behind which no gameweek is locked that was not before count few reads
pub record IsPiped {K : Type 0} (tells serves : K → Type 0) (holds passes : K → Map → Type 0) (old new : K) (key : List ℕ) (left now : Option (List ℕ)) (moments later : Option Moments)
    (failed fails : ℕ) (before after : Option (List ℕ)) (status first last : ℕ) : Type 0 where
  pub ending : Ending
  pub is_status : status ≡ status_of ending
  pub exact : IfSome left (λ all. EndsAs all ending)
  pub runs : Runs tells serves holds passes old new key moments later failed fails
      (λ a b. IsSession IsReplyUntil left now before after ending a b × ((messages : List Request) × AreHeard left now messages × LooksReadFew messages first last a b))
      (IsSession IsKeptReply left now before after ending)

-- or the host was not opened, and nothing was read
abbrev pub Pipes : {K : Type 0} → (K → Type 0) → (K → Type 0) → (K → Map → Type 0) → (K → Map → Type 0) → (K → ℕ) → K → K → List ℕ → Option (List ℕ) → Option (List ℕ) → Option Moments → Option Moments
    → Option (List ℕ) → Option (List ℕ) → ℕ → ℕ → ℕ → Type 0
Pipes tells serves holds passes faults old new key left now moments later before after status first last =
    IsPiped tells serves holds passes old new key left now moments later (faults old) (faults new) before after status first last
    ⊎ ((now ≡ left) × (later ≡ moments) × IsUnopened tells serves holds passes faults old new before after status)
