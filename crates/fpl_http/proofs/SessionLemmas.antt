-- pieces of a stream, and the whole session
use Rattle.std.proofs.Common.{◌≡◌, ◌≢◌, ◌∙◌, ap, sym, subst, refl, ℕ, List, [], ◌∷◌, ◌++◌, ◌+◌, ◌-◌, ◌<◌, ◌≤◌, ◌^◌, length, arith, inl, inr, append_assoc, append-nil, take, drop}
use Rattle.std.proofs.lemmas.List.{take-append-drop, take_all, length-append}
use Rattle.std.specs.Prelude.{Option, Some, None, IfSome, Err}
use Rattle.std.specs.Io.KnownBytes.{Appends, Consumes}
use Rattle.fpl_http.specs.Held.{Held, IsWaiting}
use Rattle.fpl_http.specs.Laws.{TwoReadingsAreOne}
use Rattle.fpl_http.specs.Lines.{strip}
use Rattle.fpl_http.specs.Stream.{Request, Wanting, IsFront, End, Open, Closed, Refused, Reads}
use Rattle.fpl_http.proofs.StreamLemmas.{begins_reads, nothing_waits}
use Rattle.fpl_http.specs.declared.ending.Ending.{Ending}
use Rattle.fpl_http.specs.declared.ending.Ending.TheVariants as Ends
use Rattle.fpl_http.specs.Runs.{Run, joined, Served}
use Rattle.fpl_http.specs.Sessions.{Heard, SessionOf, SessionOver, ending_of, EndsAs}
use Rattle.fpl_http.specs.Turns.{Heeds, Exchanged, Stopped}
use Rattle.fpl_http.proofs.ServedLemmas.{Appends-trans, closed_more, refused_more, served_more, served_then, stopped_after, stopped_more}

pub Consumes-nil : (a : Option (List ℕ)) → Consumes a a []
Consumes-nil None = tt
Consumes-nil (Some x) = refl

pub Consumes-trans : (a b c : Option (List ℕ)) (bs cs : List ℕ) → Consumes a b bs → Consumes b c cs → Consumes a c (bs ++ cs)
Consumes-trans None b c bs cs p q = tt
Consumes-trans (Some x) None c bs cs p q = absurd p
Consumes-trans (Some x) (Some y) None bs cs p q = absurd q
Consumes-trans (Some x) (Some y) (Some z) bs cs p q = p ∙ ap (λ (l : List ℕ). bs ++ l) q ∙ sym (append_assoc bs cs z)

Consumes-more : (a b c : Option (List ℕ)) (bs : List ℕ) → Consumes a b bs → Consumes b c [] → Consumes a c bs
Consumes-more a b c bs p q = subst (Consumes a c) (append-nil bs) (Consumes-trans a b c bs [] p q)

cut_there : (p rest fed : List ℕ) (n : ℕ) → fed ≡ p ++ take n rest → fed ++ drop n rest ≡ p ++ rest
cut_there p rest fed n e = ap (λ (l : List ℕ). l ++ drop n rest) e ∙ append_assoc p (take n rest) (drop n rest) ∙ ap (λ (l : List ℕ). p ++ l) (take-append-drop n rest)

-- what was taken is within what may be
few : (got more : List ℕ) (most n : ℕ) → length more ≤ most → length got ≡ n → n < 2 ^ 32 → most ≡ 2 ^ 32 - n → length (got ++ more) ≤ 2 ^ 32
few got more most n fits long short room = omega (arith, length-append got more)

-- a decoder that holds nothing waits
pub waits_first : (h : Held) → (h.pending ≡ []) × (h.found ≡ None) → IsWaiting h
waits_first h (empty, none) = record { front = subst (λ (l : List ℕ). IsFront l Wanting) (sym empty) nothing_waits; stripped = ap strip empty ∙ sym empty; none = none }

module _ {S : Type 0} (step : S → Request → List ℕ → S → Type 0) where
  -- a part of a piece was fed and served
  pub fed_more : (all p rest fed q : List ℕ) (n k : ℕ) (a b c : S) (u v w : Option (List ℕ)) → length (drop n rest) ≤ k → Served step all (p ++ rest) a b u v → fed ≡ p ++ take n rest → Served step fed q b c v w
      → Served step all (q ++ take k (drop n rest)) a c u w
  fed_more all p rest fed q n k a b c u v w fits x e y =
      let here = served_more step fed q (drop n rest) b c v w y in
      let there = subst (λ (l : List ℕ). Served step l (q ++ drop n rest) b c v w) (cut_there p rest fed n e) here in
      subst (λ (l : List ℕ). Served step all (q ++ l) a c u w) (sym (take_all k (drop n rest) fits)) (served_then step all (p ++ rest) (q ++ drop n rest) a b c u v w x there)

  pub fed_stops : (all p rest fed : List ℕ) (n : ℕ) (a b c : S) (u v w : Option (List ℕ)) (e : Ending) → Served step all (p ++ rest) a b u v → fed ≡ p ++ take n rest → Stopped step fed b c v w e → Stopped step all a c u w e
  fed_stops all p rest fed n a b c u v w e x same y =
      let here = stopped_more step fed (drop n rest) b c v w e y in
      let there = subst (λ (l : List ℕ). Stopped step l b c v w e) (cut_there p rest fed n same) here in
      stopped_after step all (p ++ rest) a b c u v w e x there

  -- a piece more was taken from the source and served
  pub talk_more : (got : List ℕ) (s r : Held) (left mid now : Option (List ℕ)) (n k : ℕ) (a b c : S) (u v w : Option (List ℕ))
      → Consumes left mid got → length got ≡ n → Served step got s.pending a b u v → Heeds step k mid now s r b c v w
      → (all : List ℕ) × Consumes left now all × (length all ≡ n + k) × Served step all r.pending a c u w
  talk_more got s r left mid now n k a b c u v w first long x h = (
    got ++ h.got,
    Consumes-trans left mid now got h.got first h.taken,
    omega (arith, length-append got h.got, long, h.size),
    served_then step (got ++ h.got) (s.pending ++ h.got) r.pending a b c u v w (served_more step got s.pending h.got a b u v x) h.served,
  )

  -- the bytes so far are the messages so far, and what waits
  pub heard_open : (got : List ℕ) (s : Held) (a b c : S) (u v w : Option (List ℕ)) → Served step got s.pending a b u v → IsWaiting s → c ≡ b → Appends v w [] → Heard step got (Open s.pending) a c u w []
  heard_open got s a b c u v w x wait same sent = record {
    messages = x.messages;
    texts = x.texts;
    reads = subst (λ (l : List Request). Reads got l (Open s.pending)) (append-nil x.messages) (begins_reads got s.pending x.messages [] (Open s.pending) x.begins (wait.front, sym wait.stripped));
    run = subst (Run step a x.messages x.texts) (sym same) x.run;
    sent = Appends-trans u v w (joined x.texts) [] x.sent sent;
  }

  joined_stops : (got more s : List ℕ) (a b c : S) (u v w : Option (List ℕ)) (e : Ending) → Served step got s a b u v → Stopped step (s ++ more) b c v w e → Stopped step (got ++ more) a c u w e
  joined_stops got more s a b c u v w e x stopped = stopped_after step (got ++ more) (s ++ more) a b c u v w e (served_more step got s more a b u v x) stopped

  -- how the session ends after the bytes so far
  pub session_ends : (most n : ℕ) (left mid now : Option (List ℕ)) (got : List ℕ) (s r : Held) (a b c : S) (u v w : Option (List ℕ)) (e : Ending)
      → length got ≡ n → n < 2 ^ 32 → most ≡ 2 ^ 32 - n → Consumes left mid got → Served step got s.pending a b u v → IsWaiting s → Exchanged step most mid now s r b c v w (Err e) → SessionOf step left now a c u w e
  session_ends most n left mid now got s r a b c u v w Ends.Done long short room first x wait (rests, end, empty) =
      (got, Consumes-more left mid now got first rests.taken, omega arith, end, subst (λ (l : List ℕ). Heard step got (Open l) a c u w []) empty (heard_open got s a b c u v w x wait rests.same rests.sent))
  session_ends most n left mid now got s r a b c u v w Ends.Cut long short room first x wait (rests, end, some) =
      (got, s.pending, Consumes-more left mid now got first rests.taken, omega arith, end, some, heard_open got s a b c u v w x wait rests.same rests.sent)
  session_ends most n left mid now got s r a b c u v w Ends.Read long short room first x wait rests =
      (got, s.pending, Consumes-more left mid now got first rests.taken, omega arith, heard_open got s a b c u v w x wait rests.same rests.sent)
  session_ends most n left mid now got s r a b c u v w Ends.Closed long short room first x wait h =
      (got ++ h.got, Consumes-trans left mid now got h.got first h.taken, few got h.got most n h.few long short room, joined_stops got h.got s.pending a b c u v w Ends.Closed x h.stopped)
  session_ends most n left mid now got s r a b c u v w (Ends.Refused k) long short room first x wait h =
      let (t, refuses, heard) = joined_stops got h.got s.pending a b c u v w (Ends.Refused k) x h.stopped in
      (got ++ h.got, t, Consumes-trans left mid now got h.got first h.taken, few got h.got most n h.few long short room, refuses, heard)
  session_ends most n left mid now got s r a b c u v w Ends.Write long short room first x wait h = (
    got ++ h.got,
    Consumes-trans left mid now got h.got first h.taken,
    few got h.got most n h.few long short room,
    record {
      earlier = got;
      piece = h.got;
      rest = s.pending;
      mid = b;
      between = v;
      all = refl;
      few = h.size;
      whole = x;
      waits = wait.front;
      failed = h.stopped;
    },
  )
  session_ends most n left mid now got s r a b c u v w Ends.Long long short room first x wait h = absurd h
  session_ends most n left mid now got s r a b c u v w Ends.Memory long short room first x wait h = absurd h

  -- ---- by all the bytes of the source

  took : (left now : Option (List ℕ)) (a c : S) (u w : Option (List ℕ)) (e : Ending) → SessionOf step left now a c u w e → (got : List ℕ) × Consumes left now got
  took left now a c u w Ends.Done h = (h.0, h.1)
  took left now a c u w Ends.Cut h = (h.0, h.2)
  took left now a c u w Ends.Closed h = (h.0, h.1)
  took left now a c u w (Ends.Refused k) h = (h.0, h.2)
  took left now a c u w Ends.Read h = (h.0, h.2)
  took left now a c u w Ends.Long h = (h.0, h.2)
  took left now a c u w Ends.Write h = (h.0, h.1)
  took left now a c u w Ends.Memory h = ([], h.0)

  heard_at : (s r : List ℕ) (e : End) (a c : S) (u w : Option (List ℕ)) (more : List ℕ) → s ≡ r → Heard step s e a c u w more → Heard step r e a c u w more
  heard_at s r e a c u w more same h = subst (λ (l : List ℕ). Heard step l e a c u w more) same h

  whole : (all got rest : List ℕ) → all ≡ got ++ rest → rest ≡ [] → got ≡ all
  whole all got rest e none = sym (e ∙ ap (λ (l : List ℕ). got ++ l) none ∙ append-nil got)

  over : (all rest : List ℕ) (a c : S) (u w : Option (List ℕ)) (e : Ending) → SessionOf step (Some all) (Some rest) a c u w e → SessionOver step all a c u w e
  over all rest a c u w Ends.Done (got, e, short, end, h) = heard_at got all (Open []) a c u w [] (whole all got rest e end) h
  over all rest a c u w Ends.Cut (got, left, e, short, end, some, h) = (left, some, heard_at got all (Open left) a c u w [] (whole all got rest e end) h)
  over all rest a c u w Ends.Closed (got, e, short, h) = heard_at (got ++ rest) all Closed a c u w [] (sym e) (closed_more step got rest a c u w h)
  over all rest a c u w (Ends.Refused k) (got, t, e, short, refuses, h) = (t, refuses, heard_at (got ++ rest) all (Refused k) a c u w t (sym e) (refused_more step got rest a c u w k t h))
  over all rest a c u w Ends.Read (got, left, e, short, h) = (got, rest, left, e, h)
  over all rest a c u w Ends.Long (got, left, e, size, h) = (got, rest, left, e, size, h)
  over all rest a c u w Ends.Write (got, e, short, failed) = (got, rest, e, failed)
  over all rest a c u w Ends.Memory (e, same, sent) = (same, sent)

  pub session_over : (left now : Option (List ℕ)) (a c : S) (u w : Option (List ℕ)) (e : Ending) → SessionOf step left now a c u w e → IfSome left (λ all. SessionOver step all a c u w e)
  session_over None now a c u w e h = tt
  session_over (Some all) None a c u w e h = absurd (took (Some all) None a c u w e h).1
  session_over (Some all) (Some rest) a c u w e h = over all rest a c u w e h

  -- a piece was read, and serving it ended the session
  pub exchanged_stops : (most : ℕ) (left now : Option (List ℕ)) (s r : Held) (a b : S) (u v : Option (List ℕ)) (e : Ending) (got : List ℕ) → Consumes left now got → length got ≤ most → length got ≤ 65536 → Stopped step (s.pending ++ got) a b u v e → Exchanged step most left now s r a b u v (Err e)
  exchanged_stops most left now s r a b u v Ends.Closed got c fits small stopped = record { got = got; taken = c; few = fits; size = small; stopped = stopped }
  exchanged_stops most left now s r a b u v (Ends.Refused k) got c fits small stopped = record { got = got; taken = c; few = fits; size = small; stopped = stopped }
  exchanged_stops most left now s r a b u v Ends.Write got c fits small stopped = record { got = got; taken = c; few = fits; size = small; stopped = stopped }
  exchanged_stops most left now s r a b u v Ends.Done got c fits small stopped = absurd stopped
  exchanged_stops most left now s r a b u v Ends.Cut got c fits small stopped = absurd stopped
  exchanged_stops most left now s r a b u v Ends.Read got c fits small stopped = absurd stopped
  exchanged_stops most left now s r a b u v Ends.Long got c fits small stopped = absurd stopped
  exchanged_stops most left now s r a b u v Ends.Memory got c fits small stopped = absurd stopped

  -- a session that reads does not end for want of memory
  pub exchanged_reads : (most : ℕ) (left now : Option (List ℕ)) (s r : Held) (a b : S) (u v : Option (List ℕ)) (e : Ending) → Exchanged step most left now s r a b u v (Err e) → e ≢ Ends.Memory
  exchanged_reads most left now s r a b u v e h is = subst (λ x. Exchanged step most left now s r a b u v (Err x)) is h

  cut_is : (rest : List ℕ) → 0 < length rest → Ends.Cut ≡ ending_of (Open rest)
  cut_is [] some = absurd (omega arith)
  cut_is (b ∷ rest) some = refl

  ends_as : (unique : TwoReadingsAreOne) (all : List ℕ) (a c : S) (u w : Option (List ℕ)) (e : Ending) → SessionOver step all a c u w e → EndsAs all e
  ends_as unique all a c u w Ends.Done h ms f r = inl (ap ending_of (unique all h.messages ms (Open []) f h.reads r).1)
  ends_as unique all a c u w Ends.Cut (rest, some, h) ms f r = inl (cut_is rest some ∙ ap ending_of (unique all h.messages ms (Open rest) f h.reads r).1)
  ends_as unique all a c u w Ends.Closed h ms f r = inl (ap ending_of (unique all h.messages ms Closed f h.reads r).1)
  ends_as unique all a c u w (Ends.Refused k) (t, refuses, h) ms f r = inl (ap ending_of (unique all h.messages ms (Refused k) f h.reads r).1)
  ends_as unique all a c u w Ends.Read h ms f r = inr tt
  ends_as unique all a c u w Ends.Long h ms f r = inr tt
  ends_as unique all a c u w Ends.Write h ms f r = inr tt
  ends_as unique all a c u w Ends.Memory h ms f r = inr tt

  pub session_ends_as : (unique : TwoReadingsAreOne) (left now : Option (List ℕ)) (a c : S) (u w : Option (List ℕ)) (e : Ending) → SessionOf step left now a c u w e → IfSome left (λ all. EndsAs all e)
  session_ends_as unique None now a c u w e h = tt
  session_ends_as unique (Some all) now a c u w e h = ends_as unique all a c u w e (session_over (Some all) now a c u w e h)
