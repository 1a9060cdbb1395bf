-- The requests that were judged in a run of messages are a run of the host.
use Rattle.std.proofs.Common.{◌≡◌, ◌∙◌, sym, refl, ap, subst, ℕ, ◌≤◌, List, [], ◌∷◌, inl, inr}
use Rattle.std.proofs.Math.Nat.{le_refl}
use Rattle.std.specs.Prelude.{None, Ok, Err}
use Rattle.fpl_base.specs.declared.kinds.Caller.{Caller}
use Rattle.season_book.specs.Hosts.{HostState}
use Rattle.season_book.specs.Once.{CommandsActOnce}
use Rattle.season_book.specs.Runs.{Asked, Run as HostRun}
use Rattle.season_book.specs.Verdict.{Failures}
use Rattle.season_book.specs.declared.answer.Answer.{Answer}
use Rattle.season_book.specs.declared.answer.Answer.TheVariants as answer
use Rattle.season_book.specs.declared.request.Request.{Request}
use Rattle.fpl_http.specs.Stream.{Request as Message}
use Rattle.fpl_requests.specs.Targets.{OneFound}
use Rattle.fpl_http.specs.Replies.{Speaks}
use Rattle.fpl_http.specs.Runs.{Run}
use Rattle.request_handler.specs.Once.{AreJudged, IsJudgedAs, IsPassedOver, MessagesActOnce, OneAsked}
use Rattle.request_handler.specs.Replying.{Asking, Goes, IsAsked, IsJudged, IsReply, Judges, RebuildFails, RepliesAlong, RepliesTo, Reply, Served, Way, asked_along, failures_in, way_of}

pub one_asked : OneFound → OneAsked
one_asked one host message a b (way, (at, found, goes), is) (way', (at', found', goes'), is') =
    is ∙ ap (asked_along host message) (goes ∙ ap way_of (one message.method message.target at at' found found') ∙ sym goes') ∙ sym is'

-- of these messages something was judged
pub record Told (old : Served) (messages : List Message) (new : Served) : Type 0 where
  pub asked : List Asked
  pub answers : List Answer
  pub judged : AreJudged old messages asked answers new

-- a message that was passed over

nothing_passed : (old mid : Served) → mid ≡ old → IsPassedOver old mid
nothing_passed old mid same = (ap (λ (s : Served). s.host) same, ap (λ (s : Served). s.moments) same, subst (λ (s : Served). old.failed ≤ s.failed) (sym same) (le_refl old.failed))

passed_in : (old mid : Served) (m : Message) (messages : List Message) (asked : List Asked) (answers : List Answer) (new : Served)
    → IsPassedOver old mid → AreJudged mid messages asked answers new → AreJudged old (m ∷ messages) asked answers new
passed_in old mid m messages [] [] new passed judged = (mid, passed, judged)
passed_in old mid m messages (one ∷ more) (answer ∷ answers) new passed judged = inl (mid, passed, judged)
passed_in old mid m [] [] (answer ∷ answers) new passed judged = absurd judged
passed_in old mid m (n ∷ messages) [] (answer ∷ answers) new passed judged = absurd judged
passed_in old mid m [] (one ∷ more) [] new passed judged = absurd judged
passed_in old mid m (n ∷ messages) (one ∷ more) [] new passed judged = absurd judged

passed : (old mid new : Served) (m : Message) (messages : List Message) → IsPassedOver old mid → Told mid messages new → Told old (m ∷ messages) new
passed old mid new m messages over told = record {
  asked = told.asked;
  answers = told.answers;
  judged = passed_in old mid m messages told.asked told.answers new over told.judged;
}

-- a message that was judged

abbrev asked_by : (caller : Caller) (now : ℕ) (request : Request) (failures : Failures) → Asked
asked_by caller now request failures = record { caller = caller; now = now; request = request; failures = failures }

one_more : (old mid new : Served) (m : Message) (messages : List Message) (one : Asked) (answer : Answer)
    → IsJudgedAs old m one answer mid → Told mid messages new → Told old (m ∷ messages) new
one_more old mid new m messages one answer is told = record {
  asked = one ∷ told.asked;
  answers = answer ∷ told.answers;
  judged = inr (mid, is, told.judged);
}

-- the host made ready, in which a message asks the same
abbrev ready_of : Served → Served
ready_of old = record old { stale = None }

judges : (old mid new : Served) (m : Message) (messages : List Message) (caller : Caller) (request : Request) (reply : Reply)
    → IsAsked old.host m (Ok (caller, request)) → Judges (ready_of old) caller request reply mid → Told mid messages new → Told old (m ∷ messages) new
judges old mid new m messages caller request reply asks how told = by how.judged
  where
    by : IsJudged old.host (failures_in old mid) caller how.now request reply mid.host.book → Told old (m ∷ messages) new
    by (inl (answer, may, is, would)) =
        one_more old mid new m messages (asked_by caller how.now request (failures_in old mid)) answer
        (record { asks = asks; told = how.told; failures = refl; answered = may; operator = how.operator }) told
    by (inr (full, left)) =
        one_more old mid new m messages (asked_by caller how.now request (failures_in old mid)) answer.Memory
        (record { asks = asks; told = how.told; failures = refl; answered = inr (inl refl, left); operator = how.operator }) told

-- each message was one or the other

replied_to : (old mid new : Served) (m : Message) (messages : List Message) (reply : Reply) (asking : Asking)
    → IsAsked old.host m asking → RepliesTo asking (ready_of old) reply mid → Told mid messages new → Told old (m ∷ messages) new
replied_to old mid new m messages reply (Err refusal) asks to told = passed old mid new m messages (nothing_passed (ready_of old) mid to.0) told
replied_to old mid new m messages reply (Ok (caller, request)) asks (inl to) told = passed old mid new m messages (nothing_passed (ready_of old) mid to.0) told
replied_to old mid new m messages reply (Ok (caller, request)) asks (inr how) told =
    judges old mid new m messages caller request reply asks how told

failed_passed : (old mid : Served) (reply : Reply) → RebuildFails old reply mid → IsPassedOver old mid
failed_passed old mid reply fails = (ap (λ (s : Served). s.host) fails.stays, ap (λ (s : Served). s.moments) fails.stays, fails.later)

replied_along : (old mid new : Served) (m : Message) (messages : List Message) (reply : Reply) (way : Way)
    → Goes m way → RepliesAlong way old m reply mid → Told mid messages new → Told old (m ∷ messages) new
replied_along old mid new m messages reply (Err refusal) goes to told = passed old mid new m messages (nothing_passed old mid to.0) told
replied_along old mid new m messages reply (Ok (route, ids)) goes (inl fails) told =
    passed old mid new m messages (failed_passed old mid reply fails) told
replied_along old mid new m messages reply (Ok (route, ids)) goes (inr (ready, is, to)) told =
    replied_to old mid new m messages reply (asked_along old.host m (Ok (route, ids))) (Ok (route, ids), goes, refl)
    (subst (λ (s : Served). RepliesTo (asked_along s.host m (Ok (route, ids))) s reply mid) is to) told

told_in : (old new : Served) (messages : List Message) (texts : List (List ℕ)) → Run (Speaks IsReply) old messages texts new → Told old messages new
told_in old new [] [] run = record { asked = []; answers = []; judged = run }
told_in old new [] (t ∷ texts) run = absurd run
told_in old new (m ∷ messages) [] run = absurd run
told_in old new (m ∷ messages) (t ∷ texts) (mid, speaks, rest) =
    let (way, goes, to) = speaks.answered in
    replied_along old mid new m messages speaks.answer way goes to (told_in mid new messages texts rest)

-- what was judged is a run of the host

-- a run goes on from a host that was passed over
run_from : (old mid new : Served) (asked : List Asked) (answers : List Answer) → IsPassedOver old mid
    → HostRun mid.host.operator mid.host.book asked answers new.host.book → HostRun old.host.operator old.host.book asked answers new.host.book
run_from old mid new asked answers (same, moments, later) run = subst (λ (h : HostState). HostRun h.operator h.book asked answers new.host.book) same run

run_of : (old new : Served) (messages : List Message) (asked : List Asked) (answers : List Answer)
    → AreJudged old messages asked answers new → HostRun old.host.operator old.host.book asked answers new.host.book
run_of old new [] [] [] judged = ap (λ (s : Served). s.host.book) judged
run_of old new [] [] (answer ∷ answers) judged = absurd judged
run_of old new [] (one ∷ more) [] judged = absurd judged
run_of old new [] (one ∷ more) (answer ∷ answers) judged = absurd judged
run_of old new (m ∷ messages) [] [] (mid, passed, judged) = run_from old mid new [] [] passed (run_of mid new messages [] [] judged)
run_of old new (m ∷ messages) [] (answer ∷ answers) judged = absurd judged
run_of old new (m ∷ messages) (one ∷ more) [] judged = absurd judged
run_of old new (m ∷ messages) (one ∷ more) (answer ∷ answers) (inl (mid, passed, judged)) =
    run_from old mid new (one ∷ more) (answer ∷ answers) passed (run_of mid new messages (one ∷ more) (answer ∷ answers) judged)
run_of old new (m ∷ messages) (one ∷ more) (answer ∷ answers) (inr (mid, is, judged)) =
    (mid.host.book, is.answered, subst (λ (key : List ℕ). HostRun key mid.host.book more answers new.host.book) is.operator (run_of mid new messages more answers judged))

pub messages_act_once : CommandsActOnce → MessagesActOnce
messages_act_once once old new messages texts run =
    let told = told_in old new messages texts run in
    let (acts, acted, rise) = once old.host.operator old.host.book new.host.book told.asked told.answers (run_of old new messages told.asked told.answers told.judged) in
    (told.asked, told.answers, acts, told.judged, acted, rise)
