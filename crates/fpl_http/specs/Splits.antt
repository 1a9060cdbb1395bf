-- Sessions of a service that says two things of each answer.
use Rattle.std.specs.Prelude.{ℕ, List, Option}
use Rattle.fpl_http.specs.Stream.{Request}
use Rattle.fpl_http.specs.declared.ending.Ending.{Ending}
use Rattle.fpl_http.specs.Replies.{Speaks}
use Rattle.fpl_http.specs.Sessions.{SessionOf, SessionOver}

-- an answer that both allow, from the same state to the same state
abbrev pub Both : {S : Type 0} → (one other : S → Request → ℕ × List ℕ → S → Type 0) → S → Request → ℕ × List ℕ → S → Type 0
Both one other old message answer new = one old message answer new × other old message answer new

-- a session of such answers is a session of each, by the bytes that were taken from the source
abbrev pub SessionsSplit : {S : Type 0} → (one other : S → Request → ℕ × List ℕ → S → Type 0) → Type 0
SessionsSplit {S = S} one other =
    (left now : Option (List ℕ)) (old new : S) (before after : Option (List ℕ)) (ending : Ending)
    → SessionOf (Speaks (Both one other)) left now old new before after ending
    → SessionOf (Speaks one) left now old new before after ending × SessionOf (Speaks other) left now old new before after ending

-- the same by all the bytes that the source had
abbrev pub SessionsSplitOver : {S : Type 0} → (one other : S → Request → ℕ × List ℕ → S → Type 0) → Type 0
SessionsSplitOver {S = S} one other =
    (all : List ℕ) (old new : S) (before after : Option (List ℕ)) (ending : Ending)
    → SessionOver (Speaks (Both one other)) all old new before after ending
    → SessionOver (Speaks one) all old new before after ending × SessionOver (Speaks other) all old new before after ending
