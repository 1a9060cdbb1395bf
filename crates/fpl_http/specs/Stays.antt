-- Sessions through states of which something stays true.
use Rattle.std.specs.Prelude.{ℕ, List, Option, IfSome}
use Rattle.fpl_http.specs.Stream.{Request}
use Rattle.fpl_http.specs.declared.ending.Ending.{Ending}
use Rattle.fpl_http.specs.Replies.{Speaks}
use Rattle.fpl_http.specs.Runs.{Run}
use Rattle.fpl_http.specs.Sessions.{SessionOf, SessionOver}

-- where this is true of a state, each answer of the one kind in it is one of the other kind, and it is true behind it
abbrev pub Stays : {S : Type 0} → (S → Type 0) → (one other : S → Request → ℕ × List ℕ → S → Type 0) → Type 0
Stays {S = S} holds one other =
    (old new : S) (message : Request) (answer : ℕ × List ℕ) → holds old → one old message answer new → other old message answer new × holds new

-- so it is true behind a run of answers of the one kind, which is one of the other kind
abbrev pub RunsStay : {S : Type 0} → (S → Type 0) → (one other : S → Request → ℕ × List ℕ → S → Type 0) → Type 0
RunsStay {S = S} holds one other =
    Stays holds one other → (old new : S) (messages : List Request) (texts : List (List ℕ))
    → holds old → Run (Speaks one) old messages texts new → Run (Speaks other) old messages texts new × holds new

-- and behind a session: by the bytes that were taken from the source, and by all that it had
abbrev pub SessionsStay : {S : Type 0} → (S → Type 0) → (one other : S → Request → ℕ × List ℕ → S → Type 0) → Type 0
SessionsStay {S = S} holds one other =
    Stays holds one other → (left now : Option (List ℕ)) (old new : S) (before after : Option (List ℕ)) (ending : Ending)
    → holds old → SessionOf (Speaks one) left now old new before after ending
    → SessionOf (Speaks other) left now old new before after ending
    × IfSome left (λ all. SessionOver (Speaks other) all old new before after ending) × holds new
