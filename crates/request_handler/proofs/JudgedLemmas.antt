-- Replies to what the host judged.
use Rattle.std.proofs.Common.{◌≡◌, ◌≢◌, ◌∙◌, ◌≤◌, ◌⊎◌, Bool, true, false, true≢false, ap, arith, sym, subst, ℕ, List, None, Result, Ok, Err, IfOk, inl, inr, refl}
use Rattle.fpl_base.specs.Keeping.{Map}
use Rattle.fpl_base.specs.declared.kinds.Caller.{Caller}
use Rattle.fpl_base.specs.declared.memory.Memory.{Memory}
use Rattle.fpl_base.specs.Moments.{Tells}
use Rattle.fpl_answers.specs.Answers.{done_status, status_of}
use Rattle.fpl_http.specs.Seen.{reply_seen}
use Rattle.fpl_http.specs.declared.responses.Reply.{Reply}
use Rattle.fpl_http.specs.Replies.{answer_in}
use Rattle.season_book.specs.Book.{Book}
use Rattle.season_book.specs.declared.made.Made.{Made}
use Rattle.season_book.specs.declared.made.Made.TheVariants as made
use Rattle.season_book.specs.Hosts.{HostState}
use Rattle.season_book.specs.Verdict.{Failures, MayAnswer, MayBeLeft}
use Rattle.season_book.specs.declared.answer.Answer.{Answer}
use Rattle.season_book.specs.declared.answer.Answer.TheVariants as answer
use Rattle.season_book.specs.declared.request.Request.{Request}
use Rattle.season_records.specs.Commits.{HoldsLeft}
use Rattle.season_records.specs.Records.{records}
use Rattle.season_running.specs.Standing.{StandsIn}
use Rattle.season_keeping.specs.Answering.{Answers, IsCaused, StopsLeave, WouldChange}
use Rattle.request_handler.specs.Kept.{Kept, Leads}
use Rattle.request_handler.specs.Replying.{IsJudged, IsLeftAt, IsStaleBehind, Judges, Served, reply_of}
use Rattle.request_handler.proofs.AnsweredLeads.{leads_answered}
use Rattle.request_handler.proofs.KeptLemmas.{stale_from, with_book}

-- behind each answer stands a book that may be left where memory ran out
left_behind : (host : HostState) (failures : Failures) (after : Book) (caller : Caller) (now : ℕ) (request : Request) (reply : Answer)
    → MayAnswer host.operator failures host.book caller now request reply after → MayBeLeft host.operator host.book caller now request after
left_behind host failures after caller now request reply (inl verdict) = inr (inr (reply, verdict))
left_behind host failures after caller now request reply (inr (_, left)) = left

-- an answer of the host that was written, or for which there was no memory
judged_by : (host : HostState) (failures : Failures) (after : Book) (caller : Caller) (now : ℕ) (request : Request) (answered : Answer) (r : Result Reply Memory)
    → MayAnswer host.operator failures host.book caller now request answered after
    → (answered ≡ answer.Keeper → WouldChange host.operator host.book caller now request)
    → IfOk r (λ reply. reply_seen reply ≡ reply_of answered)
    → IsJudged host failures caller now request (answer_in r) after
judged_by host failures after caller now request answered (Ok reply) may changes e = inl (answered, may, e, changes)
judged_by host failures after caller now request answered (Err _) may changes e = inr (refl, left_behind host failures after caller now request answered may)

-- behind a reply that says neither that the keeper failed nor that memory was wanting its count is as it was
counted_by : (failures : Failures) (answered : Answer) (r : Result Reply Memory) → IsCaused failures answered → IfOk r (λ reply. reply_seen reply ≡ reply_of answered)
    → (answer_in r).0 ≢ 503 → (answer_in r).0 ≢ 507 → failures.behind ≡ failures.before
counted_by failures answered (Err _) caused e some room = absurd (room refl)
counted_by failures answered (Ok reply) caused e some room = by answered caused (λ is. some (ap (λ (r : ℕ × List ℕ). r.0) e ∙ ap status_of is))
  where
    by : (a : Answer) → IsCaused failures a → (a ≡ answer.Keeper → ⊥) → failures.behind ≡ failures.before
    by (answer.Done n what) stays other = stays
    by (answer.Shown s) stays other = stays
    by (answer.Rule r) stays other = stays
    by answer.Unknown stays other = stays
    by answer.Keeper stays other = absurd (other refl)
    by (answer.Damaged key) stays other = absurd stays
    by answer.Memory stays other = stays

-- status 503 is that of a keeper that failed alone
not_503 : (what : Made) → done_status what ≡ 503 → ⊥
not_503 made.Nothing is = omega (arith, is)
not_503 (made.Entry e) is = omega (arith, is)
not_503 (made.League l) is = omega (arith, is)
not_503 (made.Cup c) is = omega (arith, is)

keeper_is : (a : Answer) → status_of a ≡ 503 → a ≡ answer.Keeper
keeper_is (answer.Done n what) is = absurd (not_503 what is)
keeper_is (answer.Shown s) is = absurd (omega (arith, is))
keeper_is (answer.Rule r) is = absurd (omega (arith, is))
keeper_is answer.Unknown is = absurd (omega (arith, is))
keeper_is answer.Keeper is = refl
keeper_is (answer.Damaged key) is = absurd (omega (arith, is))
keeper_is answer.Memory is = absurd (omega (arith, is))

-- the host is stale behind such a reply as it may be
stale_behind : (stale : Bool) (book : Book) (answered : Answer) (r : Result Reply Memory)
    → (stale ≡ true → (answered ≡ answer.Memory) ⊎ (answered ≡ answer.Keeper)) → (answered ≡ answer.Keeper → stale ≡ true)
    → IfOk r (λ reply. reply_seen reply ≡ reply_of answered) → IsStaleBehind book (answer_in r) (stale_from stale book)
stale_behind true book answered (Ok reply) out keeper e = inr (refl, either (out refl))
  where
    either : (answered ≡ answer.Memory) ⊎ (answered ≡ answer.Keeper) → ((reply_seen reply).0 ≡ 503) ⊎ ((reply_seen reply).0 ≡ 507)
    either (inl memory) = inr (ap (λ (r : ℕ × List ℕ). r.0) e ∙ ap status_of memory)
    either (inr failed) = inl (ap (λ (r : ℕ × List ℕ). r.0) e ∙ ap status_of failed)
stale_behind true book answered (Err _) out keeper e = inr (refl, inr refl)
stale_behind false book answered (Ok reply) out keeper e =
    inl (refl, λ is. true≢false (sym (keeper (keeper_is answered (sym (ap (λ (r : ℕ × List ℕ). r.0) e) ∙ is)))))
stale_behind false book answered (Err _) out keeper e = inl (refl, λ is. omega (arith, is))

-- an answer of the host that was written, or for which there was no memory, from each book for which is stood
module _ (K : Type 0) (tells serves : K → Type 0) (holds passes : K → Map → Type 0) (old new : Kept K) (caller : Caller) (now : ℕ) (request : Request)
    (answered : Answer) (r : Result Reply Memory) (fresh : old.host.stale ≡ false) (told : Tells old.moments now new.moments)
    (operator : new.host.rows.operator ≡ old.host.rows.operator)
    (may_be_stale : new.host.stale ≡ true → (answered ≡ answer.Memory) ⊎ (answered ≡ answer.Keeper))
    (keeper : answered ≡ answer.Keeper → new.host.stale ≡ true)
    (changes : answered ≡ answer.Keeper → (book : Book) → StandsIn old.host.rows book → WouldChange old.host.rows.operator book caller now request)
    (caused : IsCaused (record { before = old.failed; behind = new.failed }) answered) (later : old.failed ≤ new.failed)
    (stops : (book : Book) → StandsIn old.host.rows book → StopsLeave old.host.rows.operator tells holds passes old.keeper new.keeper old.host book caller now request)
    (written : IfOk r (λ reply. reply_seen reply ≡ reply_of answered)) where
  abbrev behind : Book → Book → Served
  behind book left = with_book new left (stale_from new.host.stale book)

  judges : (book left : Book) → StandsIn old.host.rows book
      → MayAnswer old.host.rows.operator (record { before = old.failed; behind = new.failed }) book caller now request answered left
      → Judges (with_book old book None) caller request (answer_in r) (behind book left)
  judges book left stands may = record {
    now = now;
    told = told;
    judged = judged_by (record { operator = old.host.rows.operator; book = book }) (record { before = old.failed; behind = new.failed }) left caller now request answered r may
        (λ failed. changes failed book stands) written;
    no_fewer = later;
    counted = counted_by (record { before = old.failed; behind = new.failed }) answered r caused written;
    operator = operator;
    stale = stale_behind new.host.stale book answered r may_be_stale keeper written;
  }

  judges_served : (served : Served) (left : Book) (agrees : served ≡ with_book old served.host.book None) → StandsIn old.host.rows served.host.book
      → MayAnswer old.host.rows.operator (record { before = old.failed; behind = new.failed }) served.host.book caller now request answered left
      → Judges served caller request (answer_in r) (behind served.host.book left)
  judges_served served left agrees stands may =
      subst (λ (s : Served). Judges s caller request (answer_in r) (behind served.host.book left)) (sym agrees) (judges served.host.book left stands may)

  pub judged_leads : new.host.reread ≡ old.host.reread → (tells new.keeper → tells old.keeper) → (tells new.keeper → serves new.keeper → serves old.keeper)
      → Answers tells serves holds passes old.keeper new.keeper old.host new.host
      (λ book left. MayAnswer old.host.rows.operator (record { before = old.failed; behind = new.failed }) book caller now request answered left)
      → Leads tells serves holds passes old new (λ served after. Judges served caller request (answer_in r) after)
  judged_leads =
      leads_answered K tells serves holds passes old new caller now request answered fresh operator stops
      (λ served after. Judges served caller request (answer_in r) after) judges_served
