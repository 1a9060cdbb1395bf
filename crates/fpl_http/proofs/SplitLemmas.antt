-- sessions of one machine as sessions of another that allows each of its steps, and of two things said of each answer
use Rattle.std.proofs.Common.{ℕ, List, [], ◌∷◌, ◌++◌}
use Rattle.std.specs.Prelude.{Option}
use Rattle.fpl_http.specs.Stream.{Request, End}
use Rattle.fpl_http.specs.declared.ending.Ending.{Ending}
use Rattle.fpl_http.specs.declared.ending.Ending.TheVariants as Ends
use Rattle.fpl_http.specs.Replies.{Speaks}
use Rattle.fpl_http.specs.Runs.{Run, Served}
use Rattle.fpl_http.specs.Sessions.{Heard, SessionOf, SessionOver}
use Rattle.fpl_http.specs.Splits.{Both, SessionsSplit, SessionsSplitOver}
use Rattle.fpl_http.specs.Stops.{BatchFailed, LastFailed, WriteFailed}

module _ {S : Type 0} (step other : S → Request → List ℕ → S → Type 0) (each : (old : S) (m : Request) (t : List ℕ) (new : S) → step old m t new → other old m t new) where
  pub run_allowed : (a c : S) (ms : List Request) (ts : List (List ℕ)) → Run step a ms ts c → Run other a ms ts c
  run_allowed a c [] [] same = same
  run_allowed a c [] (t ∷ ts) run = absurd run
  run_allowed a c (m ∷ ms) [] run = absurd run
  run_allowed a c (m ∷ ms) (t ∷ ts) (mid, first, rest) = (mid, each a m t mid first, run_allowed mid c ms ts rest)

  served_allowed : (s r : List ℕ) (a c : S) (u v : Option (List ℕ)) → Served step s r a c u v → Served other s r a c u v
  served_allowed s r a c u v x =
      record { messages = x.messages; texts = x.texts; begins = x.begins; run = run_allowed a c x.messages x.texts x.run; sent = x.sent }

  heard_allowed : (s : List ℕ) (e : End) (a c : S) (u v : Option (List ℕ)) (more : List ℕ) → Heard step s e a c u v more → Heard other s e a c u v more
  heard_allowed s e a c u v more x =
      record { messages = x.messages; texts = x.texts; reads = x.reads; run = run_allowed a c x.messages x.texts x.run; sent = x.sent }

  batch_allowed : (s : List ℕ) (a c : S) (u v : Option (List ℕ)) → BatchFailed step s a c u v → BatchFailed other s a c u v
  batch_allowed s a c u v x =
      record { messages = x.messages; texts = x.texts; more = x.more; due = x.due; run = run_allowed a c x.messages x.texts x.run; some = x.some; sent = x.sent }

  write_allowed : (s : List ℕ) (a c : S) (u v : Option (List ℕ)) → WriteFailed step s a c u v → WriteFailed other s a c u v
  write_allowed s a c u v x = record {
    rest = x.rest;
    mid = x.mid;
    between = x.between;
    whole = served_allowed s x.rest a x.mid u x.between x.whole;
    failed = batch_allowed x.rest x.mid c x.between v x.failed;
  }

  last_allowed : (got : List ℕ) (a c : S) (u v : Option (List ℕ)) → LastFailed step got a c u v → LastFailed other got a c u v
  last_allowed got a c u v x = record {
    earlier = x.earlier;
    piece = x.piece;
    rest = x.rest;
    mid = x.mid;
    between = x.between;
    all = x.all;
    few = x.few;
    whole = served_allowed x.earlier x.rest a x.mid u x.between x.whole;
    waits = x.waits;
    failed = write_allowed (x.rest ++ x.piece) x.mid c x.between v x.failed;
  }

  pub session_allowed : (left now : Option (List ℕ)) (a c : S) (u v : Option (List ℕ)) (e : Ending) → SessionOf step left now a c u v e → SessionOf other left now a c u v e
  session_allowed left now a c u v Ends.Done (got, taken, short, end, x) = (got, taken, short, end, heard_allowed got _ a c u v [] x)
  session_allowed left now a c u v Ends.Cut (got, rest, taken, short, end, some, x) = (got, rest, taken, short, end, some, heard_allowed got _ a c u v [] x)
  session_allowed left now a c u v Ends.Closed (got, taken, short, x) = (got, taken, short, heard_allowed got _ a c u v [] x)
  session_allowed left now a c u v (Ends.Refused k) (got, t, taken, short, refuses, x) = (got, t, taken, short, refuses, heard_allowed got _ a c u v t x)
  session_allowed left now a c u v Ends.Read (got, rest, taken, short, x) = (got, rest, taken, short, heard_allowed got _ a c u v [] x)
  session_allowed left now a c u v Ends.Long (got, rest, taken, size, x) = (got, rest, taken, size, heard_allowed got _ a c u v [] x)
  session_allowed left now a c u v Ends.Write (got, taken, short, x) = (got, taken, short, last_allowed got a c u v x)
  session_allowed left now a c u v Ends.Memory none = none

  over_allowed : (all : List ℕ) (a c : S) (u v : Option (List ℕ)) (e : Ending) → SessionOver step all a c u v e → SessionOver other all a c u v e
  over_allowed all a c u v Ends.Done x = heard_allowed all _ a c u v [] x
  over_allowed all a c u v Ends.Cut (rest, some, x) = (rest, some, heard_allowed all _ a c u v [] x)
  over_allowed all a c u v Ends.Closed x = heard_allowed all _ a c u v [] x
  over_allowed all a c u v (Ends.Refused k) (t, refuses, x) = (t, refuses, heard_allowed all _ a c u v t x)
  over_allowed all a c u v Ends.Read (got, more, rest, is, x) = (got, more, rest, is, heard_allowed got _ a c u v [] x)
  over_allowed all a c u v Ends.Long (got, more, rest, is, size, x) = (got, more, rest, is, size, heard_allowed got _ a c u v [] x)
  over_allowed all a c u v Ends.Write (got, more, is, x) = (got, more, is, last_allowed got a c u v x)
  over_allowed all a c u v Ends.Memory none = none

module _ {S : Type 0} (one other : S → Request → ℕ × List ℕ → S → Type 0) where
  -- a text of an answer that both allow is one of an answer that each allows
  by_one : (old : S) (m : Request) (t : List ℕ) (new : S) → Speaks (Both one other) old m t new → Speaks one old m t new
  by_one old m t new x = record { answer = x.answer; answered = x.answered.0; text = x.text }

  by_other : (old : S) (m : Request) (t : List ℕ) (new : S) → Speaks (Both one other) old m t new → Speaks other old m t new
  by_other old m t new x = record { answer = x.answer; answered = x.answered.1; text = x.text }

  pub sessions_split : SessionsSplit one other
  sessions_split left now old new before after ending session = (
    session_allowed (Speaks (Both one other)) (Speaks one) by_one left now old new before after ending session,
    session_allowed (Speaks (Both one other)) (Speaks other) by_other left now old new before after ending session,
  )

  pub sessions_split_over : SessionsSplitOver one other
  sessions_split_over all old new before after ending session = (
    over_allowed (Speaks (Both one other)) (Speaks one) by_one all old new before after ending session,
    over_allowed (Speaks (Both one other)) (Speaks other) by_other all old new before after ending session,
  )
