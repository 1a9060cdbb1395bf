-- where a session stops that does not wait for more bytes
use Rattle.std.specs.Prelude.{ℕ, ◌≡◌, ◌≤◌, ◌<◌, ◌⊎◌, List, [], ◌++◌, Option, length}
use Rattle.fpl_base.specs.Causes.{AppendsFront}
use Rattle.fpl_http.specs.Stream.{Request, Begins, IsFront, Reads, Closed, Refused, Wanting}
use Rattle.fpl_http.specs.Replies.{Refuses}
use Rattle.fpl_http.specs.Runs.{Run, Served, joined}

-- messages stand at the front of a stream: such as do not close, or such of which the last one closes
abbrev pub Leads : List ℕ → List Request → Type 0
Leads stream ms = ((rest : List ℕ) × Begins stream ms rest) ⊎ Reads stream ms Closed

-- what is due for a stream behind the texts of these messages: nothing more, or what a refusal says
abbrev pub IsDueBehind : List ℕ → List Request → List ℕ → Type 0
IsDueBehind stream ms more = (Leads stream ms × (more ≡ [])) ⊎ ((k : ℕ) × Reads stream ms (Refused k) × Refuses k more)

-- the write of a batch failed: messages at the front of a stream were answered, some text was due, and of the texts that were due, one behind another, a front was sent
pub record BatchFailed {S : Type 0} (step : S → Request → List ℕ → S → Type 0) (stream : List ℕ) (old new : S) (before after : Option (List ℕ)) : Type 0 where
  pub messages : List Request
  pub texts : List (List ℕ)
  pub more : List ℕ
  pub due : IsDueBehind stream messages more
  pub run : Run step old messages texts new
  pub some : 0 < length (joined texts ++ more)
  pub sent : AppendsFront before after (joined texts ++ more)

-- a write failed: the texts of the batches before were sent whole, and of the batch that failed a front
pub record WriteFailed {S : Type 0} (step : S → Request → List ℕ → S → Type 0) (stream : List ℕ) (old new : S) (before after : Option (List ℕ)) : Type 0 where
  pub rest : List ℕ
  pub mid : S
  pub between : Option (List ℕ)
  pub whole : Served step stream rest old mid before between
  pub failed : BatchFailed step rest mid new between after

-- a write failed at the last of some reads: what the reads before brought was answered and sent whole, up to what waits
-- for more bytes, and the batch that failed is of what the last one brought, which is 65,536 bytes at most
pub record LastFailed {S : Type 0} (step : S → Request → List ℕ → S → Type 0) (got : List ℕ) (old new : S) (before after : Option (List ℕ)) : Type 0 where
  pub earlier : List ℕ
  pub piece : List ℕ
  pub rest : List ℕ
  pub mid : S
  pub between : Option (List ℕ)
  pub all : got ≡ earlier ++ piece
  pub few : length piece ≤ 65536
  pub whole : Served step earlier rest old mid before between
  pub waits : IsFront rest Wanting
  pub failed : WriteFailed step (rest ++ piece) mid new between after
