-- The messages of all connections are one run, in which commands act once.
use Rattle.std.proofs.Common.{ℕ, zero, suc, List, [], ◌∷◌, ◌++◌, Option, Some, None, inl, inr, refl, ap}
use Rattle.std.specs.Prelude.{unwrap_or}
use Rattle.fpl_http.specs.Stream.{Request as Message}
use Rattle.fpl_http.specs.Replies.{Speaks}
use Rattle.fpl_http.specs.Runs.{Run}
use Rattle.fpl_http.specs.declared.ending.Ending.{Ending}
use Rattle.fpl_http.specs.declared.ending.Ending.TheVariants.{Memory}
use Rattle.fpl_http.proofs.RunLemmas.{run_then}
use Rattle.request_handler.specs.Answered.{SessionsAnswer}
use Rattle.request_handler.specs.Once.{MessagesActOnce}
use Rattle.request_handler.specs.Replying.{IsReply, IsReplyUntil, Served}
use Rattle.request_handler.specs.Whole.{IsKeptReply}
use Rattle.fpl_run.specs.Once.{ServesActOnce, SessionsActOnce}
use Rattle.fpl_run.specs.Pipe.{AreHeard, IsSession}
use Rattle.fpl_run.specs.Serve.{DoorState, HearOn, Hears, IsVisit, ServesOn, in_turn}

-- ---- what was heard is one run

module _ {S : Type 0} (answers : S → Message → ℕ × List ℕ → S → Type 0) where
  -- a session: its messages, and the run of them
  pub record HeardOf (left now : Option (List ℕ)) (old new : S) : Type 0 where
    pub messages : List Message
    pub texts : List (List ℕ)
    pub heard : AreHeard left now messages
    pub run : Run (Speaks answers) old messages texts new

  -- connections: the messages of each, and the run of all
  pub record HeardOn (count : ℕ) (before after : DoorState) (old new : S) : Type 0 where
    pub messages : List (List Message)
    pub texts : List (List ℕ)
    pub heard : HearOn count before after messages
    pub run : Run (Speaks answers) old (in_turn messages) texts new

  module _ (answer : SessionsAnswer answers) where
    pub heard_of : (left now before after : Option (List ℕ)) (ending : Ending) (old new : S) → IsSession answers left now before after ending old new → HeardOf left now old new
    heard_of left now before after ending old new session =
        let it = answer left now old new before after ending session.0 in record { messages = it.messages; texts = it.texts; heard = (it.got, it.taken, it.leads); run = it.run }

    visited : (before after : DoorState) (old new : S) (ending : Ending) → IsVisit answers before after old new ending
        → (messages : List Message) × Hears before after messages × (texts : List (List ℕ)) × Run (Speaks answers) old messages texts new
    visited before after old new ending visit =
        let it = heard_of visit.left visit.back.left visit.fresh visit.back.taken ending old new visit.session in
        (it.messages, record { left = visit.left; fresh = visit.fresh; back = visit.back; opens = visit.opens; gives = visit.gives; heard = it.heard }, it.texts, it.run)

    pub heard_on : (count : ℕ) (before after : DoorState) (status : ℕ) (old new : S) → ServesOn answers count before after status old new → HeardOn count before after old new
    heard_on zero before after status old new (is, stays, same) =
        record { messages = []; texts = []; heard = (ap (λ (d : DoorState). d.coming) stays, ap (λ (d : DoorState). d.given_back) stays); run = same }
    heard_on (suc count) before after status old new (inl (is, fails, same)) = record { messages = []; texts = []; heard = (fails.coming, fails.given_back); run = same }
    heard_on (suc count) before after status old new (inr (inl (is, visit))) =
        let it = visited before after old new Memory visit in
        record { messages = it.0 ∷ []; texts = it.2 ++ []; heard = (after, it.1, (refl, refl)); run = run_then (Speaks answers) old new new it.0 [] it.2 [] it.3 refl }
    heard_on (suc count) before after status old new (inr (inr (ending, between, mid, fits, visit, rest))) =
        let it = visited before between old mid ending visit in
        let on = heard_on count between after status mid new rest in
        record { messages = it.0 ∷ on.messages; texts = it.2 ++ on.texts; heard = (between, it.1, on.heard); run = run_then (Speaks answers) old mid new it.0 (in_turn on.messages) it.2 on.texts it.3 on.run }

-- ---- a run of replies

kept_run : (old new : Served) (messages : List Message) (texts : List (List ℕ)) → Run (Speaks IsKeptReply) old messages texts new → Run (Speaks IsReply) old messages texts new
kept_run old new [] [] run = run
kept_run old new [] (t ∷ texts) run = absurd run
kept_run old new (m ∷ messages) [] run = absurd run
kept_run old new (m ∷ messages) (t ∷ texts) (mid, said, run) =
    (mid, record { answer = said.answer; answered = said.answered.0; text = said.text }, kept_run mid new messages texts run)

-- where nothing is said any more, nothing is again
none_stays : (new : Served) (messages : List Message) (texts : List (List ℕ)) → Run (Speaks IsReplyUntil) None messages texts (Some new) → ⊥
none_stays new [] [] same = cc
none_stays new [] (t ∷ texts) run = absurd run
none_stays new (m ∷ messages) [] run = absurd run
none_stays new (m ∷ messages) (t ∷ texts) (None, said, run) = none_stays new messages texts run
none_stays new (m ∷ messages) (t ∷ texts) (Some mid, said, run) = absurd said.answered

until_run : (old new : Served) (messages : List Message) (texts : List (List ℕ)) → Run (Speaks IsReplyUntil) (Some old) messages texts (Some new) → Run (Speaks IsReply) old messages texts new
until_run old new [] [] same = ap (λ (o : Option Served). unwrap_or o old) same
until_run old new [] (t ∷ texts) run = absurd run
until_run old new (m ∷ messages) [] run = absurd run
until_run old new (m ∷ messages) (t ∷ texts) (None, said, run) = absurd (none_stays new messages texts run)
until_run old new (m ∷ messages) (t ∷ texts) (Some mid, said, run) =
    (mid, record { answer = said.answer; answered = said.answered; text = said.text }, until_run mid new messages texts run)

-- ---- so commands act once

module _ (once : MessagesActOnce) {S : Type 0} (answers : S → Message → ℕ × List ℕ → S → Type 0) (seen : Served → S) (answer : SessionsAnswer answers)
    (replies : (old new : Served) (messages : List Message) (texts : List (List ℕ)) → Run (Speaks answers) (seen old) messages texts (seen new) → Run (Speaks IsReply) old messages texts new) where
  sessions_act_once : SessionsActOnce answers seen
  sessions_act_once left now before after ending old new session =
      let it = heard_of answers answer left now before after ending (seen old) (seen new) session in
      (it.messages, it.heard, once old new it.messages it.texts (replies old new it.messages it.texts it.run))

  serves_act_once : ServesActOnce answers seen
  serves_act_once count before after status old new on =
      let it = heard_on answers answer count before after status (seen old) (seen new) on in
      (it.messages, it.heard, once old new (in_turn it.messages) it.texts (replies old new (in_turn it.messages) it.texts it.run))

pub kept_sessions : MessagesActOnce → SessionsAnswer IsKeptReply → SessionsActOnce IsKeptReply (λ s. s)
kept_sessions once answer = sessions_act_once once IsKeptReply (λ s. s) answer kept_run

pub kept_serves : MessagesActOnce → SessionsAnswer IsKeptReply → ServesActOnce IsKeptReply (λ s. s)
kept_serves once answer = serves_act_once once IsKeptReply (λ s. s) answer kept_run

pub sessions_until : MessagesActOnce → SessionsAnswer IsReplyUntil → SessionsActOnce IsReplyUntil (λ s. Some s)
sessions_until once answer = sessions_act_once once IsReplyUntil (λ s. Some s) answer until_run

pub serves_until : MessagesActOnce → SessionsAnswer IsReplyUntil → ServesActOnce IsReplyUntil (λ s. Some s)
serves_until once answer = serves_act_once once IsReplyUntil (λ s. Some s) answer until_run
