-- messages that were answered, one part after another
use Rattle.std.proofs.Common.{◌≡◌, ◌∙◌, ap, sym, subst, refl, ℕ, List, [], ◌∷◌, ◌++◌, ◌<◌, ◌≤◌, length, true, false, inl, inr, arith, append_assoc, append-nil}
use Rattle.std.specs.Prelude.{Option, Some, None}
use Rattle.std.specs.Io.KnownBytes.{Appends}
use Rattle.fpl_base.specs.Causes.{AppendsFront}
use Rattle.fpl_http.specs.declared.decoder.Next.TheVariants as Next
use Rattle.fpl_http.specs.declared.decoder.Next.TheVariants.{NeedMore}
use Rattle.fpl_http.specs.Held.{Held, Gives, IsWaiting}
use Rattle.fpl_http.specs.Lines.{strip}
use Rattle.fpl_http.specs.Stream.{Request, Wanting, Whole, IsFront, End, Closed, Refused}
use Rattle.fpl_http.proofs.LinesLemmas.{strip_idem}
use Rattle.fpl_http.proofs.StreamLemmas.{front_same, begins_more, begins_reads, begins_then, reads_more, reads_refused}
use Rattle.fpl_http.specs.declared.ending.Ending.{Ending}
use Rattle.fpl_http.specs.declared.ending.Ending.TheVariants as Ends
use Rattle.fpl_http.specs.declared.turn.Turn.{Turn}
use Rattle.fpl_http.specs.declared.turn.Turn.TheVariants as Turns
use Rattle.fpl_http.specs.Replies.{Refuses}
use Rattle.fpl_http.specs.Runs.{joined, Served}
use Rattle.fpl_http.specs.Sessions.{Heard}
use Rattle.fpl_http.specs.Stops.{BatchFailed, IsDueBehind, WriteFailed}
use Rattle.fpl_http.specs.Turns.{Turned, Stopped}
use Rattle.fpl_http.proofs.RunLemmas.{joined_both, run_then}

pub Appends-nil : (a : Option (List ℕ)) → Appends a a []
Appends-nil None = tt
Appends-nil (Some x) = sym (append-nil x)

pub Appends-trans : (a b c : Option (List ℕ)) (bs cs : List ℕ) → Appends a b bs → Appends b c cs → Appends a c (bs ++ cs)
Appends-trans None b c bs cs p q = tt
Appends-trans (Some x) None c bs cs p q = absurd p
Appends-trans (Some x) (Some y) None bs cs p q = absurd q
Appends-trans (Some x) (Some y) (Some z) bs cs p q = q ∙ ap (λ (l : List ℕ). l ++ cs) p ∙ append_assoc x bs cs

-- what is due, where more bytes come
due_more : (s x : List ℕ) (ms : List Request) (more : List ℕ) → IsDueBehind s ms more → IsDueBehind (s ++ x) ms more
due_more s x ms more (inl (inl (rest, q), none)) = inl (inl (rest ++ x, begins_more s x rest ms q), none)
due_more s x ms more (inl (inr q, none)) = inl (inr (reads_more s x ms q), none)
due_more s x ms more (inr (k, q, refuses)) = inr (k, reads_refused s x ms k q, refuses)

both : (ts us : List (List ℕ)) (more : List ℕ) → joined ts ++ (joined us ++ more) ≡ joined (ts ++ us) ++ more
both ts us more = sym (append_assoc (joined ts) (joined us) more) ∙ ap (λ (l : List ℕ). l ++ more) (sym (joined_both ts us))

module _ {S : Type 0} (step : S → Request → List ℕ → S → Type 0) where
  pub served_none : (s r : List ℕ) (a : S) (u : Option (List ℕ)) → strip s ≡ strip r → Served step s r a a u u
  served_none s r a u e = record { messages = []; texts = []; begins = e; run = refl; sent = Appends-nil u }

  pub served_one : (s r : List ℕ) (a b : S) (u v : Option (List ℕ)) (m : Request) (t : List ℕ) → IsFront s (Whole m r) → m.closes ≡ false → step a m t b → Appends u v t → Served step s r a b u v
  served_one s r a b u v m t p stays st sent = record {
    messages = m ∷ [];
    texts = t ∷ [];
    begins = (r, p, stays, refl);
    run = (b, st, refl);
    sent = subst (Appends u v) (sym (append-nil t)) sent;
  }

  pub served_then : (s r q : List ℕ) (a b c : S) (u v w : Option (List ℕ)) → Served step s r a b u v → Served step r q b c v w → Served step s q a c u w
  served_then s r q a b c u v w x y = record {
    messages = x.messages ++ y.messages;
    texts = x.texts ++ y.texts;
    begins = begins_then s r q x.messages y.messages x.begins y.begins;
    run = run_then step a b c x.messages y.messages x.texts y.texts x.run y.run;
    sent = subst (Appends u w) (sym (joined_both x.texts y.texts)) (Appends-trans u v w (joined x.texts) (joined y.texts) x.sent y.sent);
  }

  -- more bytes come
  pub served_more : (s r x : List ℕ) (a b : S) (u v : Option (List ℕ)) → Served step s r a b u v → Served step (s ++ x) (r ++ x) a b u v
  served_more s r x a b u v p = record { messages = p.messages; texts = p.texts; begins = begins_more s x r p.messages p.begins; run = p.run; sent = p.sent }

  -- the texts of two parts, and then more
  texts_then : (u v w : Option (List ℕ)) (ts us : List (List ℕ)) (more : List ℕ) → Appends u v (joined ts) → Appends v w (joined us ++ more) → Appends u w (joined (ts ++ us) ++ more)
  texts_then u v w ts us more p q = subst (Appends u w) (both ts us more) (Appends-trans u v w (joined ts) (joined us ++ more) p q)

  pub heard_after : (s r : List ℕ) (e : End) (a b c : S) (u v w : Option (List ℕ)) (more : List ℕ) → Served step s r a b u v → Heard step r e b c v w more → Heard step s e a c u w more
  heard_after s r e a b c u v w more x y = record {
    messages = x.messages ++ y.messages;
    texts = x.texts ++ y.texts;
    reads = begins_reads s r x.messages y.messages e x.begins y.reads;
    run = run_then step a b c x.messages y.messages x.texts y.texts x.run y.run;
    sent = texts_then u v w x.texts y.texts more x.sent y.sent;
  }

  -- the batch that failed was the first one
  failed_first : (s : List ℕ) (a b : S) (u v : Option (List ℕ)) → BatchFailed step s a b u v → WriteFailed step s a b u v
  failed_first s a b u v y = record { rest = s; mid = a; between = u; whole = served_none s s a u refl; failed = y }

  pub failed_after : (s r : List ℕ) (a b c : S) (u v w : Option (List ℕ)) → Served step s r a b u v → WriteFailed step r b c v w → WriteFailed step s a c u w
  failed_after s r a b c u v w x y = record { rest = y.rest; mid = y.mid; between = y.between; whole = served_then s r y.rest a b y.mid u v y.between x y.whole; failed = y.failed }

  pub batch_after : (s r : List ℕ) (a b c : S) (u v w : Option (List ℕ)) → Served step s r a b u v → BatchFailed step r b c v w → WriteFailed step s a c u w
  batch_after s r a b c u v w x y = failed_after s r a b c u v w x (failed_first r b c v w y)

  pub stopped_after : (s r : List ℕ) (a b c : S) (u v w : Option (List ℕ)) (e : Ending) → Served step s r a b u v → Stopped step r b c v w e → Stopped step s a c u w e
  stopped_after s r a b c u v w Ends.Closed x y = heard_after s r Closed a b c u v w [] x y
  stopped_after s r a b c u v w (Ends.Refused k) x (t, refuses, y) = (t, refuses, heard_after s r (Refused k) a b c u v w t x y)
  stopped_after s r a b c u v w Ends.Write x y = failed_after s r a b c u v w x y
  stopped_after s r a b c u v w Ends.Done x y = absurd y
  stopped_after s r a b c u v w Ends.Cut x y = absurd y
  stopped_after s r a b c u v w Ends.Read x y = absurd y
  stopped_after s r a b c u v w Ends.Long x y = absurd y
  stopped_after s r a b c u v w Ends.Memory x y = absurd y

  batch_more : (s x : List ℕ) (a b : S) (u v : Option (List ℕ)) → BatchFailed step s a b u v → BatchFailed step (s ++ x) a b u v
  batch_more s x a b u v y = record { messages = y.messages; texts = y.texts; more = y.more; due = due_more s x y.messages y.more y.due; run = y.run; some = y.some; sent = y.sent }

  failed_more : (s x : List ℕ) (a b : S) (u v : Option (List ℕ)) → WriteFailed step s a b u v → WriteFailed step (s ++ x) a b u v
  failed_more s x a b u v y = record {
    rest = y.rest ++ x;
    mid = y.mid;
    between = y.between;
    whole = served_more s y.rest x a y.mid u y.between y.whole;
    failed = batch_more y.rest x y.mid b y.between v y.failed;
  }

  pub closed_more : (s x : List ℕ) (a b : S) (u v : Option (List ℕ)) → Heard step s Closed a b u v [] → Heard step (s ++ x) Closed a b u v []
  closed_more s x a b u v h = record { messages = h.messages; texts = h.texts; reads = reads_more s x h.messages h.reads; run = h.run; sent = h.sent }

  pub refused_more : (s x : List ℕ) (a b : S) (u v : Option (List ℕ)) (k : ℕ) (t : List ℕ) → Heard step s (Refused k) a b u v t → Heard step (s ++ x) (Refused k) a b u v t
  refused_more s x a b u v k t h = record { messages = h.messages; texts = h.texts; reads = reads_refused s x h.messages k h.reads; run = h.run; sent = h.sent }

  pub stopped_more : (s x : List ℕ) (a b : S) (u v : Option (List ℕ)) (e : Ending) → Stopped step s a b u v e → Stopped step (s ++ x) a b u v e
  stopped_more s x a b u v Ends.Closed y = closed_more s x a b u v y
  stopped_more s x a b u v (Ends.Refused k) (t, refuses, y) = (t, refuses, refused_more s x a b u v k t y)
  stopped_more s x a b u v Ends.Write y = failed_more s x a b u v y
  stopped_more s x a b u v Ends.Done y = absurd y
  stopped_more s x a b u v Ends.Cut y = absurd y
  stopped_more s x a b u v Ends.Read y = absurd y
  stopped_more s x a b u v Ends.Long y = absurd y
  stopped_more s x a b u v Ends.Memory y = absurd y

  -- ---- one call of the decoder

  pub turn_waits : (s r : Held) (a : S) (u : Option (List ℕ)) → Gives s.pending NeedMore r → Served step s.pending r.pending a a u u × IsWaiting r
  turn_waits s r a u (p, e, none) =
      let same : strip s.pending ≡ strip r.pending = sym (strip_idem s.pending) ∙ ap strip (sym e) in (
        served_none s.pending r.pending a u same,
        record { front = front_same s.pending r.pending Wanting same p; stripped = sym same ∙ sym e; none = none },
      )

  pub turn_refused : (s r : Held) (a : S) (u v : Option (List ℕ)) (k : ℕ) → Gives s.pending (Next.Refused k) r → (t : List ℕ) × Refuses k t × Appends u v t
      → (t : List ℕ) × Refuses k t × Heard step s.pending (Refused k) a a u v t
  turn_refused s r a u v k p (t, refuses, sent) = (t, refuses, record { messages = []; texts = []; reads = p.0; run = refl; sent = sent })

  pub turn_answered : (s r : Held) (a b : S) (u v : Option (List ℕ)) (m : Request) (t : List ℕ) → Gives s.pending Next.Message r → r.found ≡ Some m → step a m t b → m.closes ≡ false → Appends u v t
      → Served step s.pending r.pending a b u v × (length r.pending < length s.pending)
  turn_answered s r a b u v m t (n, p, is, lt) found st stays sent =
      let same : n ≡ m = cc in
      (served_one s.pending r.pending a b u v m t (subst (λ (j : Request). IsFront s.pending (Whole j r.pending)) same p) stays st sent, lt)

  pub turn_closed : (s r : Held) (a b : S) (u v : Option (List ℕ)) (m : Request) (t : List ℕ) → Gives s.pending Next.Message r → r.found ≡ Some m → step a m t b → m.closes ≡ true → Appends u v t
      → Heard step s.pending Closed a b u v []
  turn_closed s r a b u v m t (n, p, is, lt) found st closes sent =
      let same : n ≡ m = cc in
      record {
        messages = m ∷ [];
        texts = t ∷ [];
        reads = (r.pending, subst (λ (j : Request). IsFront s.pending (Whole j r.pending)) same p, inl (closes, refl, refl));
        run = (b, st, refl);
        sent = subst (Appends u v) (sym (append-nil (t ++ []) ∙ append-nil t)) sent;
      }

  -- ---- turns, one after another

  pub turned_after : (s r q : Held) (a b c : S) (u v w : Option (List ℕ)) (turn : Turn) → Served step s.pending r.pending a b u v → length r.pending ≤ length s.pending → Turned step r q b c v w turn → Turned step s q a c u w turn
  turned_after s r q a b c u v w Turns.Answered x fits (y, less) = (served_then s.pending r.pending q.pending a b c u v w x y, omega (arith, fits, less))
  turned_after s r q a b c u v w Turns.Waits x fits (y, waits) = (served_then s.pending r.pending q.pending a b c u v w x y, waits)
  turned_after s r q a b c u v w Turns.Closed x fits y = heard_after s.pending r.pending Closed a b c u v w [] x y
  turned_after s r q a b c u v w (Turns.Refused k) x fits (t, refuses, y) = (t, refuses, heard_after s.pending r.pending (Refused k) a b c u v w t x y)

  -- ---- texts that waited in an outbox, which was empty at first

  served_sent : (s r : List ℕ) (a b : S) (u v : Option (List ℕ)) (ts : List ℕ) → Served step s r a b (Some []) (Some ts) → Appends u v ts → Served step s r a b u v
  served_sent s r a b u v ts x sent = record { messages = x.messages; texts = x.texts; begins = x.begins; run = x.run; sent = subst (Appends u v) x.sent sent }

  heard_sent : (s : List ℕ) (e : End) (a b : S) (u v : Option (List ℕ)) (more ts : List ℕ) → Heard step s e a b (Some []) (Some ts) more → Appends u v ts → Heard step s e a b u v more
  heard_sent s e a b u v more ts x sent = record { messages = x.messages; texts = x.texts; reads = x.reads; run = x.run; sent = subst (Appends u v) x.sent sent }

  pub turned_sent : (s r : Held) (a b : S) (u v : Option (List ℕ)) (ts : List ℕ) (turn : Turn) → Turned step s r a b (Some []) (Some ts) turn → Appends u v ts → Turned step s r a b u v turn
  turned_sent s r a b u v ts Turns.Answered (x, less) sent = (served_sent s.pending r.pending a b u v ts x sent, less)
  turned_sent s r a b u v ts Turns.Waits (x, waits) sent = (served_sent s.pending r.pending a b u v ts x sent, waits)
  turned_sent s r a b u v ts Turns.Closed x sent = heard_sent s.pending Closed a b u v [] ts x sent
  turned_sent s r a b u v ts (Turns.Refused k) (t, refuses, x) sent = (t, refuses, heard_sent s.pending (Refused k) a b u v t ts x sent)

  served_failed : (s r : List ℕ) (a b : S) (u v : Option (List ℕ)) (ts : List ℕ) → 0 < length ts → Served step s r a b (Some []) (Some ts) → AppendsFront u v ts → BatchFailed step s a b u v
  served_failed s r a b u v ts some x sent = record {
    messages = x.messages;
    texts = x.texts;
    more = [];
    due = inl (inl (r, x.begins), refl);
    run = x.run;
    some = subst (λ (l : List ℕ). 0 < length l) (x.sent ∙ sym (append-nil (joined x.texts))) some;
    sent = subst (AppendsFront u v) (x.sent ∙ sym (append-nil (joined x.texts))) sent;
  }

  pub turned_failed : (s r : Held) (a b : S) (u v : Option (List ℕ)) (ts : List ℕ) (turn : Turn) → 0 < length ts → Turned step s r a b (Some []) (Some ts) turn → AppendsFront u v ts → BatchFailed step s.pending a b u v
  turned_failed s r a b u v ts Turns.Answered some (x, less) sent = served_failed s.pending r.pending a b u v ts some x sent
  turned_failed s r a b u v ts Turns.Waits some (x, waits) sent = served_failed s.pending r.pending a b u v ts some x sent
  turned_failed s r a b u v ts Turns.Closed some x sent = record { messages = x.messages; texts = x.texts; more = []; due = inl (inr x.reads, refl); run = x.run; some = subst (λ (l : List ℕ). 0 < length l) x.sent some; sent = subst (AppendsFront u v) x.sent sent }
  turned_failed s r a b u v ts (Turns.Refused k) some (t, refuses, x) sent = record { messages = x.messages; texts = x.texts; more = t; due = inr (k, x.reads, refuses); run = x.run; some = subst (λ (l : List ℕ). 0 < length l) x.sent some; sent = subst (AppendsFront u v) x.sent sent }
