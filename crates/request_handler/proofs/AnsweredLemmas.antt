-- the messages that a session answers, however it ends
use Rattle.std.proofs.Common.{ℕ, List, [], ◌∷◌, ◌++◌, inl, inr, refl, sym, subst}
use Rattle.std.specs.Prelude.{Option}
use Rattle.std.specs.Io.KnownBytes.{Consumes}
use Rattle.fpl_http.specs.Stream.{Begins, Closed, End, Open, Reads, Refused, Request}
use Rattle.fpl_http.proofs.StreamLemmas.{begins_more, begins_reads, begins_then}
use Rattle.fpl_http.specs.declared.ending.Ending.TheVariants as Ends
use Rattle.request_handler.specs.Answered.{Answered, SessionsAnswer}
use Rattle.fpl_http.specs.Replies.{Speaks}
use Rattle.fpl_http.specs.Sessions.{Heard}
use Rattle.fpl_http.specs.Stops.{IsDueBehind, LastFailed, Leads}
use Rattle.fpl_http.proofs.RunLemmas.{run_then}

-- messages that a stream is stand at its front
reads_lead : (s : List ℕ) (ms : List Request) (e : End) → Reads s ms e → Leads s ms
reads_lead s [] (Open rest) reads = inl (s, refl)
reads_lead s [] Closed reads = absurd reads
reads_lead s [] (Refused k) reads = inl (s, refl)
reads_lead s (m ∷ ms) e (rest, whole, inl (closes, none, end)) = inr (rest, whole, inl (closes, none, refl))
reads_lead s (m ∷ ms) e (rest, whole, inr (stays, reads)) = by (reads_lead rest ms e reads)
  where
    by : Leads rest ms → Leads s (m ∷ ms)
    by (inl (q, begins)) = inl (q, (rest, whole, stays, begins))
    by (inr closed) = inr (rest, whole, inr (stays, closed))

lead_then : (s r : List ℕ) (ms ns : List Request) → Begins s ms r → Leads r ns → Leads s (ms ++ ns)
lead_then s r ms ns begins (inl (q, more)) = inl (q, begins_then s r q ms ns begins more)
lead_then s r ms ns begins (inr reads) = inr (begins_reads s r ms ns Closed begins reads)

due_leads : (s : List ℕ) (ms : List Request) (more : List ℕ) → IsDueBehind s ms more → Leads s ms
due_leads s ms more (inl (leads, none)) = leads
due_leads s ms more (inr (k, reads, refuses)) = reads_lead s ms (Refused k) reads

module _ {S : Type 0} (answers : S → Request → ℕ × List ℕ → S → Type 0) where
  heard : (left now : Option (List ℕ)) (got : List ℕ) (e : End) (a c : S) (u v : Option (List ℕ)) (more : List ℕ)
      → Consumes left now got → Heard (Speaks answers) got e a c u v more → Answered answers left now a c
  heard left now got e a c u v more taken x =
      record { got = got; taken = taken; messages = x.messages; texts = x.texts; leads = reads_lead got x.messages e x.reads; run = x.run }

  -- of the batch whose write failed too
  failed : (left now : Option (List ℕ)) (got : List ℕ) (a c : S) (u v : Option (List ℕ))
      → Consumes left now got → LastFailed (Speaks answers) got a c u v → Answered answers left now a c
  failed left now got a c u v taken x =
      let w = x.failed in
      let b = w.failed in
      let later : Leads (x.rest ++ x.piece) (w.whole.messages ++ b.messages) =
      lead_then (x.rest ++ x.piece) w.rest w.whole.messages b.messages w.whole.begins (due_leads w.rest b.messages b.more b.due) in
      let all : Leads (x.earlier ++ x.piece) (x.whole.messages ++ (w.whole.messages ++ b.messages)) =
      lead_then (x.earlier ++ x.piece) (x.rest ++ x.piece) x.whole.messages (w.whole.messages ++ b.messages)
      (begins_more x.earlier x.piece x.rest x.whole.messages x.whole.begins) later in
      record {
        got = got;
        taken = taken;
        messages = x.whole.messages ++ (w.whole.messages ++ b.messages);
        texts = x.whole.texts ++ (w.whole.texts ++ b.texts);
        leads = subst (λ (s : List ℕ). Leads s (x.whole.messages ++ (w.whole.messages ++ b.messages))) (sym x.all) all;
        run = run_then (Speaks answers) a x.mid c x.whole.messages (w.whole.messages ++ b.messages) x.whole.texts (w.whole.texts ++ b.texts) x.whole.run
            (run_then (Speaks answers) x.mid w.mid c w.whole.messages b.messages w.whole.texts b.texts w.whole.run b.run);
      }

  pub sessions_answer : SessionsAnswer answers
  sessions_answer left now a c u v Ends.Done (got, taken, short, end, x) = heard left now got _ a c u v [] taken x
  sessions_answer left now a c u v Ends.Cut (got, rest, taken, short, end, some, x) = heard left now got _ a c u v [] taken x
  sessions_answer left now a c u v Ends.Closed (got, taken, short, x) = heard left now got _ a c u v [] taken x
  sessions_answer left now a c u v (Ends.Refused k) (got, t, taken, short, refuses, x) = heard left now got _ a c u v t taken x
  sessions_answer left now a c u v Ends.Read (got, rest, taken, short, x) = heard left now got _ a c u v [] taken x
  sessions_answer left now a c u v Ends.Long (got, rest, taken, size, x) = heard left now got _ a c u v [] taken x
  sessions_answer left now a c u v Ends.Write (got, taken, short, x) = failed left now got a c u v taken x
  sessions_answer left now a c u v Ends.Memory (taken, same, sent) =
      record { got = []; taken = taken; messages = []; texts = []; leads = inl ([], refl); run = same }
