-- Which messages a session answers.
use Rattle.std.specs.Prelude.{ℕ, List, Option}
use Rattle.std.specs.Io.KnownBytes.{Consumes}
use Rattle.fpl_http.specs.Stream.{Request}
use Rattle.fpl_http.specs.declared.ending.Ending.{Ending}
use Rattle.fpl_http.specs.Replies.{Speaks}
use Rattle.fpl_http.specs.Runs.{Run}
use Rattle.fpl_http.specs.Sessions.{SessionOf}
use Rattle.fpl_http.specs.Stops.{Leads}

-- messages at the front of the bytes that were taken were answered, one after another
pub record Answered {S : Type 0} (answers : S → Request → ℕ × List ℕ → S → Type 0) (left now : Option (List ℕ)) (old new : S) : Type 0 where
  pub got : List ℕ
  pub taken : Consumes left now got
  pub messages : List Request
  pub texts : List (List ℕ)
  pub leads : Leads got messages
  pub run : Run (Speaks answers) old messages texts new

-- so it is of every session, however it ends
abbrev pub SessionsAnswer : {S : Type 0} → (S → Request → ℕ × List ℕ → S → Type 0) → Type 0
SessionsAnswer {S = S} answers =
    (left now : Option (List ℕ)) (old new : S) (before after : Option (List ℕ)) (ending : Ending)
    → SessionOf (Speaks answers) left now old new before after ending → Answered answers left now old new
