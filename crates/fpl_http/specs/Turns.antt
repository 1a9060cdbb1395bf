-- how far turns, one piece or one read leads
use Rattle.std.specs.Prelude.{ℕ, ◌≡◌, ◌≤◌, ◌<◌, List, [], ◌++◌, Option, Some, None, length, Result, Ok, Err}
use Rattle.std.specs.Io.KnownBytes.{Appends, Consumes, IsAtEnd}
use Rattle.fpl_base.specs.declared.outside.Failed.{Failed}
use Rattle.fpl_http.specs.Held.{Held, IsWaiting}
use Rattle.fpl_http.specs.Stream as ends
use Rattle.fpl_http.specs.Stream.{Request}
use Rattle.fpl_http.specs.declared.ending.Ending.{Ending}
use Rattle.fpl_http.specs.declared.ending.Ending.TheVariants.{Done, Closed, Cut, Refused, Read, Write, Long, Memory}
use Rattle.fpl_http.specs.declared.turn.Turn.{Turn}
use Rattle.fpl_http.specs.declared.turn.Turn.TheVariants as turns
use Rattle.fpl_http.specs.declared.turn.Turn.TheVariants.{Answered, Waits}
use Rattle.fpl_http.specs.Replies.{Refuses}
use Rattle.fpl_http.specs.Runs.{Served}
use Rattle.fpl_http.specs.Sessions.{Heard}
use Rattle.fpl_http.specs.Stops.{BatchFailed, WriteFailed}

-- what came of turns: messages were answered, or the decoder waits for more bytes, or a message closed, or bytes were refused
abbrev pub Turned : {S : Type 0} → (S → Request → List ℕ → S → Type 0) → Held → Held → S → S → Option (List ℕ) → Option (List ℕ) → Turn → Type 0
Turned step s r old new before after Answered = Served step s.pending r.pending old new before after × (length r.pending < length s.pending)
Turned step s r old new before after Waits = Served step s.pending r.pending old new before after × IsWaiting r
Turned step s r old new before after turns.Closed = Heard step s.pending ends.Closed old new before after []
Turned step s r old new before after (turns.Refused k) = (t : List ℕ) × Refuses k t × Heard step s.pending (ends.Refused k) old new before after t

-- turns were taken and their texts were sent, or the write failed
abbrev pub Batched : {S : Type 0} → (S → Request → List ℕ → S → Type 0) → Held → Held → S → S → Option (List ℕ) → Option (List ℕ) → Result Turn Failed → Type 0
Batched step s r old new before after (Ok turn) = Turned step s r old new before after turn
Batched step s r old new before after (Err failed) = BatchFailed step s.pending old new before after

-- the session stopped in a stream: at a message that closes, at bytes that are no message, or at a failed write
abbrev pub Stopped : {S : Type 0} → (S → Request → List ℕ → S → Type 0) → List ℕ → S → S → Option (List ℕ) → Option (List ℕ) → Ending → Type 0
Stopped step stream old new before after Closed = Heard step stream ends.Closed old new before after []
Stopped step stream old new before after (Refused k) = (t : List ℕ) × Refuses k t × Heard step stream (ends.Refused k) old new before after t
Stopped step stream old new before after Write = WriteFailed step stream old new before after
Stopped step stream old new before after Done = ⊥
Stopped step stream old new before after Cut = ⊥
Stopped step stream old new before after Read = ⊥
Stopped step stream old new before after Long = ⊥
Stopped step stream old new before after Memory = ⊥

-- a stream was served, up to what waits, or the session stopped in it
abbrev pub PieceServed : {S : Type 0} → (S → Request → List ℕ → S → Type 0) → List ℕ → Held → S → S → Option (List ℕ) → Option (List ℕ) → Option Ending → Type 0
PieceServed step s r old new before after None = Served step s r.pending old new before after × IsWaiting r
PieceServed step s r old new before after (Some e) = Stopped step s old new before after e

-- nothing was taken from the source or sent, and nothing changed
pub record Rests {S : Type 0} (left now : Option (List ℕ)) (old new : S) (before after : Option (List ℕ)) : Type 0 where
  pub taken : Consumes left now []
  pub same : new ≡ old
  pub sent : Appends before after []

-- at most so many bytes were taken, by one read, and the session stopped in them and those that waited
pub record Halts {S : Type 0} (step : S → Request → List ℕ → S → Type 0) (most : ℕ) (left now : Option (List ℕ)) (pending : List ℕ) (old new : S) (before after : Option (List ℕ)) (e : Ending) : Type 0 where
  pub got : List ℕ
  pub taken : Consumes left now got
  pub few : length got ≤ most
  pub size : length got ≤ 65536
  pub stopped : Stopped step (pending ++ got) old new before after e

-- so many bytes were taken, one at least, and served with those that waited
pub record Heeds {S : Type 0} (step : S → Request → List ℕ → S → Type 0) (count : ℕ) (left now : Option (List ℕ)) (s r : Held) (old new : S) (before after : Option (List ℕ)) : Type 0 where
  pub got : List ℕ
  pub taken : Consumes left now got
  pub size : length got ≡ count
  pub some : 0 < count
  pub served : Served step (s.pending ++ got) r.pending old new before after
  pub waiting : IsWaiting r

-- a piece of at most so many bytes was read and served, or the session ended
abbrev pub Exchanged : {S : Type 0} → (S → Request → List ℕ → S → Type 0) → ℕ → Option (List ℕ) → Option (List ℕ) → Held → Held → S → S → Option (List ℕ) → Option (List ℕ) → Result ℕ Ending → Type 0
Exchanged step most left now s r old new before after (Ok n) = Heeds step n left now s r old new before after × (n ≤ most)
Exchanged step most left now s r old new before after (Err Done) = Rests left now old new before after × IsAtEnd now × (s.pending ≡ [])
Exchanged step most left now s r old new before after (Err Cut) = Rests left now old new before after × IsAtEnd now × (0 < length s.pending)
Exchanged step most left now s r old new before after (Err Read) = Rests left now old new before after
Exchanged step most left now s r old new before after (Err Closed) = Halts step most left now s.pending old new before after Closed
Exchanged step most left now s r old new before after (Err (Refused k)) = Halts step most left now s.pending old new before after (Refused k)
Exchanged step most left now s r old new before after (Err Write) = Halts step most left now s.pending old new before after Write
Exchanged step most left now s r old new before after (Err Long) = ⊥
Exchanged step most left now s r old new before after (Err Memory) = ⊥
