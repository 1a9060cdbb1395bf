-- what a session takes, answers and sends, by its ending
use Rattle.std.specs.Prelude.{ℕ, ◌≡◌, ◌⊎◌, ◌≤◌, ◌<◌, ◌^◌, List, [], ◌∷◌, ◌++◌, Option, length, ⊤}
use Rattle.std.specs.Io.KnownBytes.{Appends, Consumes, IsAtEnd}
use Rattle.fpl_http.specs.Stream.{Request, Reads, End, Open, Closed as ClosedEnd, Refused as RefusedEnd}
use Rattle.fpl_http.specs.declared.ending.Ending.{Ending}
use Rattle.fpl_http.specs.declared.ending.Ending.TheVariants.{Done, Closed, Cut, Refused, Read, Write, Long, Memory}
use Rattle.fpl_http.specs.Replies.{Refuses}
use Rattle.fpl_http.specs.Runs.{Run, joined}
use Rattle.fpl_http.specs.Stops.{LastFailed}

-- these bytes are messages and end so; the texts of the messages were sent, and then this more
pub record Heard {S : Type 0} (step : S → Request → List ℕ → S → Type 0) (got : List ℕ) (e : End) (old new : S) (before after : Option (List ℕ)) (more : List ℕ) : Type 0 where
  pub messages : List Request
  pub texts : List (List ℕ)
  pub reads : Reads got messages e
  pub run : Run step old messages texts new
  pub sent : Appends before after (joined texts ++ more)

-- by the bytes that were taken from the source
abbrev pub SessionOf : {S : Type 0} → (S → Request → List ℕ → S → Type 0) → Option (List ℕ) → Option (List ℕ) → S → S → Option (List ℕ) → Option (List ℕ) → Ending → Type 0
SessionOf step left now old new before after Done = (got : List ℕ) × Consumes left now got × (length got < 2 ^ 32) × IsAtEnd now × Heard step got (Open []) old new before after []
SessionOf step left now old new before after Cut = (got : List ℕ) × (rest : List ℕ) × Consumes left now got × (length got < 2 ^ 32) × IsAtEnd now × (0 < length rest) × Heard step got (Open rest) old new before after []
SessionOf step left now old new before after Closed = (got : List ℕ) × Consumes left now got × (length got ≤ 2 ^ 32) × Heard step got ClosedEnd old new before after []
SessionOf step left now old new before after (Refused k) = (got : List ℕ) × (t : List ℕ) × Consumes left now got × (length got ≤ 2 ^ 32) × Refuses k t × Heard step got (RefusedEnd k) old new before after t
SessionOf step left now old new before after Read = (got : List ℕ) × (rest : List ℕ) × Consumes left now got × (length got < 2 ^ 32) × Heard step got (Open rest) old new before after []
SessionOf step left now old new before after Long = (got : List ℕ) × (rest : List ℕ) × Consumes left now got × (length got ≡ 2 ^ 32) × Heard step got (Open rest) old new before after []
SessionOf step left now old new before after Write = (got : List ℕ) × Consumes left now got × (length got ≤ 2 ^ 32) × LastFailed step got old new before after
SessionOf step left now old new before after Memory = Consumes left now [] × (new ≡ old) × Appends before after []

-- by all the bytes that the source had: at Done, Closed, Refused and Cut all of them are heard, at Read, Write and Long a front
abbrev pub SessionOver : {S : Type 0} → (S → Request → List ℕ → S → Type 0) → List ℕ → S → S → Option (List ℕ) → Option (List ℕ) → Ending → Type 0
SessionOver step all old new before after Done = Heard step all (Open []) old new before after []
SessionOver step all old new before after Cut = (rest : List ℕ) × (0 < length rest) × Heard step all (Open rest) old new before after []
SessionOver step all old new before after Closed = Heard step all ClosedEnd old new before after []
SessionOver step all old new before after (Refused k) = (t : List ℕ) × Refuses k t × Heard step all (RefusedEnd k) old new before after t
SessionOver step all old new before after Read = (got : List ℕ) × (more : List ℕ) × (rest : List ℕ) × (all ≡ got ++ more) × Heard step got (Open rest) old new before after []
SessionOver step all old new before after Long = (got : List ℕ) × (more : List ℕ) × (rest : List ℕ) × (all ≡ got ++ more) × (length got ≡ 2 ^ 32) × Heard step got (Open rest) old new before after []
SessionOver step all old new before after Write = (got : List ℕ) × (more : List ℕ) × (all ≡ got ++ more) × LastFailed step got old new before after
SessionOver step all old new before after Memory = (new ≡ old) × Appends before after []

-- the ending that is due at the end of a stream
abbrev pub ending_of : End → Ending
ending_of (Open []) = Done
ending_of (Open (b ∷ rest)) = Cut
ending_of ClosedEnd = Closed
ending_of (RefusedEnd k) = Refused k

-- an ending that does not come from the bytes of the stream
abbrev pub IsFault : Ending → Type 0
IsFault Done = ⊥
IsFault Cut = ⊥
IsFault Closed = ⊥
IsFault (Refused k) = ⊥
IsFault Read = ⊤
IsFault Write = ⊤
IsFault Long = ⊤
IsFault Memory = ⊤

-- a session ends as the stream does, but for a fault
abbrev pub EndsAs : List ℕ → Ending → Type 0
EndsAs all e = (ms : List Request) (f : End) → Reads all ms f → (e ≡ ending_of f) ⊎ IsFault e
