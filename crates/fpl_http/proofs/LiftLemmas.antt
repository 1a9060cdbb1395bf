-- sessions of what is kept, as sessions of what it stands for
use Rattle.std.proofs.Common.{sym, subst, refl, ℕ, List, [], ◌∷◌, ◌++◌}
use Rattle.std.specs.Prelude.{Option}
use Rattle.fpl_http.specs.Stream.{Request, End}
use Rattle.fpl_http.specs.declared.ending.Ending.{Ending}
use Rattle.fpl_http.specs.declared.ending.Ending.TheVariants as Ends
use Rattle.fpl_http.specs.Lifts.{LiftsWhile, RunsLift, SessionsLift}
use Rattle.fpl_http.specs.Replies.{Speaks}
use Rattle.fpl_http.specs.Runs.{Run, Served}
use Rattle.fpl_http.specs.Sessions.{Heard, SessionOf}
use Rattle.fpl_http.specs.Stops.{BatchFailed, LastFailed, WriteFailed}
use Rattle.fpl_http.proofs.SessionLemmas.{session_over}

module _ {S B : Type 0} (follows : S → Type 0) (stands : S → B → Type 0) (answers : B → Request → ℕ × List ℕ → B → Type 0) where
  -- one answer, as it is spoken
  abbrev Steps : S → Request → List ℕ → S → Type 0
  Steps = Speaks (LiftsWhile follows stands answers)

  -- what was followed behind a run was followed before it
  run_follows : (a c : S) (ms : List Request) (ts : List (List ℕ)) → Run Steps a ms ts c → follows c → follows a
  run_follows a c [] [] same followed = subst follows same followed
  run_follows a c [] (t ∷ ts) run followed = absurd run
  run_follows a c (m ∷ ms) [] run followed = absurd run
  run_follows a c (m ∷ ms) (t ∷ ts) (mid, step, rest) followed = step.answered.0 (run_follows mid c ms ts rest followed)

  run_lifts : (a c : S) (ms : List Request) (ts : List (List ℕ)) (b : B) → Run Steps a ms ts c → follows c → stands a b → (d : B) × stands c d × Run (Speaks answers) b ms ts d
  run_lifts a c [] [] b same followed stood = (b, subst (λ (s : S). stands s b) (sym same) stood, refl)
  run_lifts a c [] (t ∷ ts) b run followed stood = absurd run
  run_lifts a c (m ∷ ms) [] b run followed stood = absurd run
  run_lifts a c (m ∷ ms) (t ∷ ts) b (mid, step, rest) followed stood =
      let (next, stood_1, answered) = step.answered.1 (run_follows mid c ms ts rest followed) b stood in
      let (d, stood_2, run) = run_lifts mid c ms ts next rest followed stood_1 in
      (d, stood_2, (next, record { answer = step.answer; answered = answered; text = step.text }, run))

  served_lifts : (s r : List ℕ) (a c : S) (u v : Option (List ℕ)) (b : B) → Served Steps s r a c u v → follows c → stands a b → (d : B) × stands c d × Served (Speaks answers) s r b d u v
  served_lifts s r a c u v b x followed stood =
      let (d, stood, run) = run_lifts a c x.messages x.texts b x.run followed stood in
      (d, stood, record { messages = x.messages; texts = x.texts; begins = x.begins; run = run; sent = x.sent })

  heard_lifts : (s : List ℕ) (e : End) (a c : S) (u v : Option (List ℕ)) (more : List ℕ) (b : B) → Heard Steps s e a c u v more → follows c → stands a b → (d : B) × stands c d × Heard (Speaks answers) s e b d u v more
  heard_lifts s e a c u v more b x followed stood =
      let (d, stood, run) = run_lifts a c x.messages x.texts b x.run followed stood in
      (d, stood, record { messages = x.messages; texts = x.texts; reads = x.reads; run = run; sent = x.sent })

  heard_follows : (s : List ℕ) (e : End) (a c : S) (u v : Option (List ℕ)) (more : List ℕ) → Heard Steps s e a c u v more → follows c → follows a
  heard_follows s e a c u v more x = run_follows a c x.messages x.texts x.run

  batch_lifts : (s : List ℕ) (a c : S) (u v : Option (List ℕ)) (b : B) → BatchFailed Steps s a c u v → follows c → stands a b → (d : B) × stands c d × BatchFailed (Speaks answers) s b d u v
  batch_lifts s a c u v b x followed stood =
      let (d, stood, run) = run_lifts a c x.messages x.texts b x.run followed stood in
      (d, stood, record { messages = x.messages; texts = x.texts; more = x.more; due = x.due; run = run; some = x.some; sent = x.sent })

  -- the part of a failed write that was sent whole was followed too
  mid_follows : (s : List ℕ) (a c : S) (u v : Option (List ℕ)) (x : WriteFailed Steps s a c u v) → follows c → follows x.mid
  mid_follows s a c u v x = run_follows x.mid c x.failed.messages x.failed.texts x.failed.run

  write_follows : (s : List ℕ) (a c : S) (u v : Option (List ℕ)) → WriteFailed Steps s a c u v → follows c → follows a
  write_follows s a c u v x followed = run_follows a x.mid x.whole.messages x.whole.texts x.whole.run (mid_follows s a c u v x followed)

  write_lifts : (s : List ℕ) (a c : S) (u v : Option (List ℕ)) (b : B) → WriteFailed Steps s a c u v → follows c → stands a b → (d : B) × stands c d × WriteFailed (Speaks answers) s b d u v
  write_lifts s a c u v b x followed stood =
      let (mid, stood, whole) = served_lifts s x.rest a x.mid u x.between b x.whole (mid_follows s a c u v x followed) stood in
      let (d, stood, failed) = batch_lifts x.rest x.mid c x.between v mid x.failed followed stood in
      (d, stood, record { rest = x.rest; mid = mid; between = x.between; whole = whole; failed = failed })

  last_follows : (got : List ℕ) (a c : S) (u v : Option (List ℕ)) → LastFailed Steps got a c u v → follows c → follows a
  last_follows got a c u v x followed =
      run_follows a x.mid x.whole.messages x.whole.texts x.whole.run (write_follows (x.rest ++ x.piece) x.mid c x.between v x.failed followed)

  last_lifts : (got : List ℕ) (a c : S) (u v : Option (List ℕ)) (b : B) → LastFailed Steps got a c u v → follows c → stands a b → (d : B) × stands c d × LastFailed (Speaks answers) got b d u v
  last_lifts got a c u v b x followed stood =
      let (mid, stood, whole) = served_lifts x.earlier x.rest a x.mid u x.between b x.whole (write_follows (x.rest ++ x.piece) x.mid c x.between v x.failed followed) stood in
      let (d, stood, failed) = write_lifts (x.rest ++ x.piece) x.mid c x.between v mid x.failed followed stood in
      (d, stood, record { earlier = x.earlier; piece = x.piece; rest = x.rest; mid = mid; between = x.between; all = x.all; few = x.few; whole = whole; waits = x.waits; failed = failed })

  session_follows : (left now : Option (List ℕ)) (a c : S) (u v : Option (List ℕ)) (e : Ending) → SessionOf Steps left now a c u v e → follows c → follows a
  session_follows left now a c u v Ends.Done (got, taken, short, end, x) followed = heard_follows got _ a c u v [] x followed
  session_follows left now a c u v Ends.Cut (got, rest, taken, short, end, some, x) followed = heard_follows got _ a c u v [] x followed
  session_follows left now a c u v Ends.Closed (got, taken, short, x) followed = heard_follows got _ a c u v [] x followed
  session_follows left now a c u v (Ends.Refused k) (got, t, taken, short, refuses, x) followed = heard_follows got _ a c u v t x followed
  session_follows left now a c u v Ends.Read (got, rest, taken, short, x) followed = heard_follows got _ a c u v [] x followed
  session_follows left now a c u v Ends.Long (got, rest, taken, size, x) followed = heard_follows got _ a c u v [] x followed
  session_follows left now a c u v Ends.Write (got, taken, short, x) followed = last_follows got a c u v x followed
  session_follows left now a c u v Ends.Memory (taken, same, sent) followed = subst follows same followed

  taken_lifts : (left now : Option (List ℕ)) (a c : S) (u v : Option (List ℕ)) (e : Ending) (b : B) → SessionOf Steps left now a c u v e → follows c → stands a b → (d : B) × stands c d × SessionOf (Speaks answers) left now b d u v e
  taken_lifts left now a c u v Ends.Done b (got, taken, short, end, x) followed stood =
      let (d, stood, heard) = heard_lifts got _ a c u v [] b x followed stood in
      (d, stood, (got, taken, short, end, heard))
  taken_lifts left now a c u v Ends.Cut b (got, rest, taken, short, end, some, x) followed stood =
      let (d, stood, heard) = heard_lifts got _ a c u v [] b x followed stood in
      (d, stood, (got, rest, taken, short, end, some, heard))
  taken_lifts left now a c u v Ends.Closed b (got, taken, short, x) followed stood =
      let (d, stood, heard) = heard_lifts got _ a c u v [] b x followed stood in
      (d, stood, (got, taken, short, heard))
  taken_lifts left now a c u v (Ends.Refused k) b (got, t, taken, short, refuses, x) followed stood =
      let (d, stood, heard) = heard_lifts got _ a c u v t b x followed stood in
      (d, stood, (got, t, taken, short, refuses, heard))
  taken_lifts left now a c u v Ends.Read b (got, rest, taken, short, x) followed stood =
      let (d, stood, heard) = heard_lifts got _ a c u v [] b x followed stood in
      (d, stood, (got, rest, taken, short, heard))
  taken_lifts left now a c u v Ends.Long b (got, rest, taken, size, x) followed stood =
      let (d, stood, heard) = heard_lifts got _ a c u v [] b x followed stood in
      (d, stood, (got, rest, taken, size, heard))
  taken_lifts left now a c u v Ends.Write b (got, taken, short, x) followed stood =
      let (d, stood, failed) = last_lifts got a c u v b x followed stood in
      (d, stood, (got, taken, short, failed))
  taken_lifts left now a c u v Ends.Memory b (taken, same, sent) followed stood =
      (b, subst (λ (s : S). stands s b) (sym same) stood, (taken, refl, sent))

  pub runs_lift : RunsLift follows stands answers
  runs_lift old new messages texts state run followed =
      (run_follows old new messages texts run followed, run_lifts old new messages texts state run followed)

  pub sessions_lift : SessionsLift follows stands answers
  sessions_lift left now old new before after ending state session followed = (
    session_follows left now old new before after ending session followed,
    λ stood.
        let (behind, stood, lifted) = taken_lifts left now old new before after ending state session followed stood in
        (behind, stood, lifted, session_over (Speaks answers) left now state behind before after ending lifted),
  )
