-- what a service answers, and the text that is sent for it
use Rattle.std.specs.Prelude.{ℕ, ◌≡◌, ◌⊎◌, Bool, true, List, Option, codes, Result, Ok, Err, OnOk, OnErr}
use Rattle.std.specs.Io.KnownBytes.{Appends}
use Rattle.fpl_base.specs.declared.memory.Memory.{Memory}
use Rattle.fpl_base.specs.Causes.{AppendsFront}
use Rattle.fpl_http.specs.Responses.{response_text, memory_text}
use Rattle.fpl_http.specs.declared.responses.Reply.{Reply}
use Rattle.fpl_http.specs.Seen.{reply_seen}
use Rattle.fpl_http.specs.Stream.{Request}

-- the answer, a status and a body; of want of memory the status is 507
abbrev pub answer_in : Result Reply Memory → ℕ × List ℕ
answer_in (Ok reply) = reply_seen reply
answer_in (Err memory) = (507, memory_text)

-- a text is the response with this status and body, or the one that says that memory is wanting
abbrev pub IsResponse : ℕ → List ℕ → Bool → List ℕ → Type 0
IsResponse status body closing t = (t ≡ response_text status body closing) ⊎ (t ≡ response_text 507 memory_text closing)

-- a message gets an answer that may be given in the old state and leaves the new one, and this is a text of that answer
pub record Speaks {S : Type 0} (answers : S → Request → ℕ × List ℕ → S → Type 0) (old : S) (m : Request) (t : List ℕ) (new : S) : Type 0 where
  pub answer : ℕ × List ℕ
  pub answered : answers old m answer new
  pub text : IsResponse answer.0 answer.1 m.closes t

-- the body that says that bytes are no message
abbrev pub bytes_text : List ℕ
bytes_text = codes "{\"error\":\"bytes\"}"

-- the text for bytes that are no message, after which the session ends
abbrev pub Refuses : ℕ → List ℕ → Type 0
Refuses status t = IsResponse status bytes_text true t

-- a text was sent, or a front of it where the write failed
pub record Sent {T E : Type 0} (before after : Option (List ℕ)) (r : Result T E) (t : List ℕ) : Type 0 where
  pub ok : OnOk r (Appends before after t)
  pub failed : OnErr r (AppendsFront before after t)
