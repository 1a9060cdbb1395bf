-- Sessions of what is kept, as sessions of what it stands for.
use Rattle.std.specs.Prelude.{ℕ, List, Option, IfSome}
use Rattle.fpl_http.specs.Stream.{Request}
use Rattle.fpl_http.specs.declared.ending.Ending.{Ending}
use Rattle.fpl_http.specs.Replies.{Speaks}
use Rattle.fpl_http.specs.Runs.{Run}
use Rattle.fpl_http.specs.Sessions.{SessionOf, SessionOver}

-- an answer as what is kept gives it: for each state that the old one stands for there is one that the new one stands
-- for, and the answer leads from the one to the other
abbrev pub Lifts : {S B : Type 0} → (S → B → Type 0) → (B → Request → ℕ × List ℕ → B → Type 0) → S → Request → ℕ × List ℕ → S → Type 0
Lifts {B = B} stands answers old message answer new =
    (state : B) → stands old state → (behind : B) × stands new behind × answers state message answer behind

-- the same while what is kept is followed: it was followed before where it is followed behind, and there the answer leads on
abbrev pub LiftsWhile : {S B : Type 0} → (S → Type 0) → (S → B → Type 0) → (B → Request → ℕ × List ℕ → B → Type 0) → S → Request → ℕ × List ℕ → S → Type 0
LiftsWhile follows stands answers old message answer new =
    (follows new → follows old) × (follows new → Lifts stands answers old message answer new)

-- where what is kept is followed behind a run of such answers, it was followed before, and the run is one of what is stood
-- for, from each state that the old one stands for
abbrev pub RunsLift : {S B : Type 0} → (S → Type 0) → (S → B → Type 0) → (B → Request → ℕ × List ℕ → B → Type 0) → Type 0
RunsLift {S = S} {B = B} follows stands answers =
    (old new : S) (messages : List Request) (texts : List (List ℕ)) (state : B)
    → Run (Speaks (LiftsWhile follows stands answers)) old messages texts new → follows new
    → follows old × (stands old state → (behind : B) × stands new behind × Run (Speaks answers) state messages texts behind)

-- where it is followed behind a session of such answers, the session is one of what is stood for, from each state that the
-- old one stands for: by the bytes that were taken from the source, and by all that it had
abbrev pub SessionsLift : {S B : Type 0} → (S → Type 0) → (S → B → Type 0) → (B → Request → ℕ × List ℕ → B → Type 0) → Type 0
SessionsLift {S = S} {B = B} follows stands answers =
    (left now : Option (List ℕ)) (old new : S) (before after : Option (List ℕ)) (ending : Ending) (state : B)
    → SessionOf (Speaks (LiftsWhile follows stands answers)) left now old new before after ending → follows new
    → follows old × (stands old state → (behind : B) × stands new behind × SessionOf (Speaks answers) left now state behind before after ending
    × IfSome left (λ all. SessionOver (Speaks answers) all state behind before after ending))
