-- sessions through states of which something stays true
use Rattle.std.proofs.Common.{◌≡◌, sym, subst, refl, ℕ, List}
use Rattle.std.specs.Prelude.{Option, ⊤}
use Rattle.fpl_http.specs.Stream.{Request}
use Rattle.fpl_http.specs.declared.ending.Ending.{Ending}
use Rattle.fpl_http.specs.Lifts.{LiftsWhile}
use Rattle.fpl_http.specs.Replies.{Speaks}
use Rattle.fpl_http.specs.Runs.{Run}
use Rattle.fpl_http.specs.Sessions.{SessionOf}
use Rattle.fpl_http.specs.Stays.{RunsStay, SessionsStay, Stays}
use Rattle.fpl_http.proofs.LiftLemmas.{runs_lift, sessions_lift}
use Rattle.fpl_http.proofs.SessionLemmas.{session_over}
use Rattle.fpl_http.proofs.SplitLemmas.{run_allowed, session_allowed}

module _ {S : Type 0} (holds : S → Type 0) (one other : S → Request → ℕ × List ℕ → S → Type 0) where
  -- a state stands for itself, where it holds of it
  abbrev Itself : S → S → Type 0
  Itself state same = (state ≡ same) × holds same

  abbrev Lifted : S → Request → ℕ × List ℕ → S → Type 0
  Lifted = LiftsWhile (λ (_ : S). ⊤) Itself other

  module _ (stays : Stays holds one other) where
    each : (old : S) (m : Request) (t : List ℕ) (new : S) → Speaks one old m t new → Speaks Lifted old m t new
    each old m t new x = record {
      answer = x.answer;
      answered = (λ followed. followed, λ _ state stands. by state stands);
      text = x.text;
    }
      where
        by : (state : S) → Itself old state → (behind : S) × Itself new behind × other state m x.answer behind
        by state (same, there) =
            let (told, behind) = stays state new m x.answer there (subst (λ (s : S). one s m x.answer new) same x.answered) in
            (new, (refl, behind), told)

    run_stays : (old new : S) (messages : List Request) (texts : List (List ℕ)) → holds old → Run (Speaks one) old messages texts new
        → Run (Speaks other) old messages texts new × holds new
    run_stays old new messages texts there run =
        let lifted = (runs_lift (λ (_ : S). ⊤) Itself other old new messages texts old (run_allowed (Speaks one) (Speaks Lifted) each old new messages texts run) tt).1 (refl, there) in
        let back = sym lifted.1.0 in
        (subst (λ (s : S). Run (Speaks other) old messages texts s) back lifted.2, subst holds back lifted.1.1)

    session_stays : (left now : Option (List ℕ)) (old new : S) (before after : Option (List ℕ)) (ending : Ending)
        → holds old → SessionOf (Speaks one) left now old new before after ending
        → (behind : S) × Itself new behind × SessionOf (Speaks other) left now old behind before after ending
    session_stays left now old new before after ending there session =
        let lifted = (sessions_lift (λ (_ : S). ⊤) Itself other left now old new before after ending old
        (session_allowed (Speaks one) (Speaks Lifted) each left now old new before after ending session) tt).1 (refl, there) in
        (lifted.0, lifted.1, lifted.2)

  pub runs_stay : RunsStay holds one other
  runs_stay stays = run_stays stays

  pub sessions_stay : SessionsStay holds one other
  sessions_stay stays left now old new before after ending there session =
      let lifted = session_stays stays left now old new before after ending there session in
      let back = sym lifted.1.0 in
      let told : SessionOf (Speaks other) left now old new before after ending = subst (λ (s : S). SessionOf (Speaks other) left now old s before after ending) back lifted.2 in
      (told, session_over (Speaks other) left now old new before after ending told, subst holds back lifted.1.1)
