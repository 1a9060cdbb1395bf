-- What leads to what, where requests are asked of a host one after another.
use Rattle.std.proofs.Common.{◌≡◌, ◌∙◌, ◌⊎◌, Bool, true, false, true≢false, sym, subst, ℕ, List, Option, None, inl, inr, refl}
use Rattle.fpl_base.specs.Causes.{Rose}
use Rattle.fpl_base.specs.Keeping.{Map}
use Rattle.fpl_base.specs.Moments.{Moments, Tells}
use Rattle.fpl_base.specs.declared.kinds.Caller.{Caller}
use Rattle.season_book.specs.Book.{Book}
use Rattle.season_book.specs.Doing.{IsOutLate}
use Rattle.season_book.specs.Verdict.{Failures, MayAnswer, pass}
use Rattle.season_book.specs.declared.answer.Answer.{Answer}
use Rattle.season_book.specs.declared.answer.Answer.TheVariants as answer
use Rattle.season_book.specs.declared.request.Request.{Request}
use Rattle.season_records.specs.Commits.{HoldsLeft}
use Rattle.season_records.specs.Records.{records}
use Rattle.season_running.specs.Standing.{StandsIn}
use Rattle.season_keeping.specs.Answering.{Answers, IsCaused, StopsLeave, WouldChange}
use Rattle.request_handler.specs.Replying.{IsLeftAt, Served}
use Rattle.request_handler.specs.Kept.{Agrees, Kept, Leads, StandsByRows}
use Rattle.request_handler.proofs.AnsweredLeads.{leads_answered}
use Rattle.request_handler.proofs.KeptLemmas.{stale_from, with_book}
use Rattle.local_requests.specs.Asking.{IsHeard, IsHeardAt, IsStaleAfter}

-- the host is stale behind an answer as it may be
pub stale_after : (stale : Bool) (book : Book) (told : Answer)
    → (stale ≡ true → (told ≡ answer.Memory) ⊎ (told ≡ answer.Keeper)) → (told ≡ answer.Keeper → stale ≡ true) → IsStaleAfter book told (stale_from stale book)
stale_after true book told out keeper = inr (refl, either (out refl))
  where
    either : (told ≡ answer.Memory) ⊎ (told ≡ answer.Keeper) → (told ≡ answer.Keeper) ⊎ (told ≡ answer.Memory)
    either (inl memory) = inr memory
    either (inr failed) = inl failed
stale_after false book told out keeper = inl (refl, λ is. true≢false (sym (keeper is)))

-- and where nothing is, it is not
pub fresh_from : (stale : Bool) (book : Book) → stale_from stale book ≡ None → stale ≡ false
fresh_from true book is = cc
fresh_from false book is = refl

-- what says that the keeper failed is caused by a count that rose
pub rose_behind : (failures : Failures) (told : Answer) → IsCaused failures told → told ≡ answer.Keeper → Rose failures.before failures.behind
rose_behind failures told caused is = subst (λ (a : Answer). IsCaused failures a) is caused

-- what was heard at a moment that the clock told was heard
pub heard_told : (served behind : Served) (moments later : Option Moments) (now : ℕ) (caller : Caller) (request : Request) (told : Answer)
    → Tells moments now later → served.moments ≡ moments → IsHeardAt now (record served { moments = later }) caller request told behind
    → IsHeard served caller request told behind
heard_told served behind moments later now caller request told tells is heard = record {
  now = now;
  tells = subst (λ (m : Option Moments). Tells served.moments now m) (sym heard.moments) (subst (λ (m : Option Moments). Tells m now later) (sym is) tells);
  heard = subst (λ (m : Option Moments). IsHeardAt now (record served { moments = m }) caller request told behind) (sym heard.moments) heard;
}

module _ (K : Type 0) (tells serves : K → Type 0) (holds passes : K → Map → Type 0) where
  -- ---- one thing after another

  pub leads_then : (first mid last : Kept K) (one two both : Served → Served → Type 0)
      → ((served between behind : Served) → one served between → two between behind → both served behind)
      → Leads tells serves holds passes first mid one → Leads tells serves holds passes mid last two → Leads tells serves holds passes first last both
  leads_then first mid last one two both join here there = record {
    by_rows = λ served stands.
        let a = here.by_rows served stands in
        let b = there.by_rows a.0 a.1 in
        (b.0, b.1, join served a.0 b.0 a.2 b.2);
    by_stops = λ tell served stands.
        let a = here.by_stops (there.told tell) served stands in
        let b = there.by_stops tell a.0 a.1 in
        (b.0, b.1, join served a.0 b.0 a.2 b.2);
    by_records = λ tell serve served stands.
        let a = here.by_records (there.told tell) (there.served tell serve) served stands in
        let b = there.by_records tell serve a.0 a.1 in
        (b.0, b.1, join served a.0 b.0 a.2 b.2);
    reread = there.reread ∙ here.reread;
    told = λ tell. here.told (there.told tell);
    served = λ tell serve. here.served (there.told tell) (there.served tell serve);
  }

  -- ---- the moments that the clock has left

  agrees_at : (kept : Kept K) (served : Served) (later : Option Moments) → Agrees kept served
      → Agrees (record kept { moments = later }) (record served { moments = later })
  agrees_at kept served later agrees = record { operator = agrees.operator; stale = agrees.stale; moments = refl; failed = agrees.failed }

  rows_at : (kept : Kept K) (served : Served) (later : Option Moments) → StandsByRows kept served
      → StandsByRows (record kept { moments = later }) (record served { moments = later })
  rows_at kept served later stands = record { agrees = agrees_at kept served later stands.agrees; first = stands.first; rows = stands.rows }

  -- what leads on from later moments leads on from those before
  pub leads_moments : (old new : Kept K) (later : Option Moments) (one two : Served → Served → Type 0)
      → ((served behind : Served) → served.moments ≡ old.moments → one (record served { moments = later }) behind → two served behind)
      → Leads tells serves holds passes (record old { moments = later }) new one → Leads tells serves holds passes old new two
  leads_moments old new later one two on leads = record {
    by_rows = λ served stands.
        let led = leads.by_rows (record served { moments = later }) (rows_at old served later stands) in
        (led.0, led.1, on served led.0 stands.agrees.moments led.2);
    by_stops = λ tell served stands.
        let led = leads.by_stops tell (record served { moments = later }) (record { by_rows = rows_at old served later stands.by_rows; backs = stands.backs; left = stands.left }) in
        (led.0, led.1, on served led.0 stands.by_rows.agrees.moments led.2);
    by_records = λ tell serve served stands.
        let led = leads.by_records tell serve (record served { moments = later }) (record { agrees = agrees_at old served later stands.agrees; backs = stands.backs; left = stands.left }) in
        (led.0, led.1, on served led.0 stands.agrees.moments led.2);
    reread = leads.reread;
    told = leads.told;
    served = leads.served;
  }

  -- ---- an answer of the host, from each book for which is stood

  module _ (old new : Kept K) (caller : Caller) (now : ℕ) (request : Request) (told : Answer)
      (fresh : old.host.stale ≡ false) (same : new.moments ≡ old.moments)
      (operator : new.host.rows.operator ≡ old.host.rows.operator)
      (may_be_stale : new.host.stale ≡ true → (told ≡ answer.Memory) ⊎ (told ≡ answer.Keeper))
      (keeper : told ≡ answer.Keeper → new.host.stale ≡ true)
      (changes : told ≡ answer.Keeper → (book : Book) → StandsIn old.host.rows book → WouldChange old.host.rows.operator book caller now request)
      (caused : IsCaused (record { before = old.failed; behind = new.failed }) told)
      (late : new.host.stale ≡ false → (book : Book) → StandsIn old.host.rows book → IsOutLate old.host.rows.operator (pass book now) caller now request told)
      (stops : (book : Book) → StandsIn old.host.rows book → StopsLeave old.host.rows.operator tells holds passes old.keeper new.keeper old.host book caller now request) where
    abbrev behind : Book → Book → Served
    behind book left = with_book new left (stale_from new.host.stale book)

    heard_in : (book left : Book) → StandsIn old.host.rows book
        → MayAnswer old.host.rows.operator (record { before = old.failed; behind = new.failed }) book caller now request told left
        → IsHeardAt now (with_book old book None) caller request told (behind book left)
    heard_in book left stands may = record {
      may = may;
      changes = λ failed. changes failed book stands;
      caused = caused;
      late = λ none. late (fresh_from new.host.stale book none) book stands;
      operator = operator;
      moments = same;
      stale = stale_after new.host.stale book told may_be_stale keeper;
    }

    heard_served : (served : Served) (left : Book) (agrees : served ≡ with_book old served.host.book None) → StandsIn old.host.rows served.host.book
        → MayAnswer old.host.rows.operator (record { before = old.failed; behind = new.failed }) served.host.book caller now request told left
        → IsHeardAt now served caller request told (behind served.host.book left)
    heard_served served left agrees stands may =
        subst (λ (s : Served). IsHeardAt now s caller request told (behind served.host.book left)) (sym agrees) (heard_in served.host.book left stands may)

    pub heard_leads : new.host.reread ≡ old.host.reread → (tells new.keeper → tells old.keeper) → (tells new.keeper → serves new.keeper → serves old.keeper)
        → Answers tells serves holds passes old.keeper new.keeper old.host new.host
        (λ book left. MayAnswer old.host.rows.operator (record { before = old.failed; behind = new.failed }) book caller now request told left)
        → Leads tells serves holds passes old new (λ served after. IsHeardAt now served caller request told after)
    heard_leads =
        leads_answered K tells serves holds passes old new caller now request told fresh operator stops
        (λ served after. IsHeardAt now served caller request told after) heard_served
