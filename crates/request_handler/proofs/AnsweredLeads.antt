-- An answer of the host leads to what it is said to lead to, from each book for which the host stands.
use Rattle.std.proofs.Common.{◌≡◌, ◌∙◌, ◌⊎◌, Bool, true, false, sym, subst, ℕ, List, None, inl, inr, refl}
use Rattle.fpl_base.specs.Keeping.{Map}
use Rattle.fpl_base.specs.declared.kinds.Caller.{Caller}
use Rattle.season_book.specs.Book.{Book}
use Rattle.season_book.specs.Verdict.{MayAnswer}
use Rattle.season_book.specs.declared.answer.Answer.{Answer}
use Rattle.season_book.specs.declared.request.Request.{Request}
use Rattle.season_records.specs.Commits.{HoldsLeft}
use Rattle.season_records.specs.Records.{records}
use Rattle.season_running.specs.Standing.{StandsIn}
use Rattle.season_keeping.specs.Answering.{Answers, StopsLeave}
use Rattle.request_handler.specs.Kept.{Kept, Leads}
use Rattle.request_handler.specs.Replying.{IsLeftAt, Served}
use Rattle.request_handler.proofs.KeptLemmas.{agrees_with, served_is, stale_from, stale_is, with_book}

module _ (K : Type 0) (tells serves : K → Type 0) (holds passes : K → Map → Type 0) (old new : Kept K) (caller : Caller) (now : ℕ) (request : Request)
    (told : Answer) (fresh : old.host.stale ≡ false) (operator : new.host.rows.operator ≡ old.host.rows.operator)
    (stops : (book : Book) → StandsIn old.host.rows book → StopsLeave old.host.rows.operator tells holds passes old.keeper new.keeper old.host book caller now request) where
  abbrev pub behind : Book → Book → Served
  behind book left = with_book new left (stale_from new.host.stale book)

  -- what a stop leaves
  left_at : (book left : Book) (stale : Bool) → (stale ≡ false → (x : Map) → passes new.keeper x → x ≡ records left)
      → ((x : Map) → passes new.keeper x → HoldsLeft old.host.rows.operator book caller now request x)
      → (x : Map) → passes new.keeper x → IsLeftAt (with_book new left (stale_from stale book)) x
  left_at book left false alone stop x passed = inl (alone refl x passed)
  left_at book left true alone stop x passed =
      inr (book, refl, (caller, now, request, subst (λ (own : List ℕ). HoldsLeft own book caller now request x) (sym operator) (stop x passed)))

  module _ (how : Served → Served → Type 0)
      (is : (served : Served) (left : Book) → served ≡ with_book old served.host.book None → StandsIn old.host.rows served.host.book
      → MayAnswer old.host.rows.operator (record { before = old.failed; behind = new.failed }) served.host.book caller now request told left
      → how served (behind served.host.book left)) where
    pub leads_answered : new.host.reread ≡ old.host.reread → (tells new.keeper → tells old.keeper) → (tells new.keeper → serves new.keeper → serves old.keeper)
        → Answers tells serves holds passes old.keeper new.keeper old.host new.host
        (λ book left. MayAnswer old.host.rows.operator (record { before = old.failed; behind = new.failed }) book caller now request told left)
        → Leads tells serves holds passes old new how
    leads_answered reread tell_on serve_on each = record {
      by_rows = λ served stands.
          let book = served.host.book in
          let stood = stands.rows fresh in
          let led = (each book stood).by_rows in (
            behind book led.0,
            record { agrees = agrees_with K new led.0 _ (stale_is new.host.stale book); first = reread ∙ stands.first; rows = λ is. (led.1 is).0 },
            is served led.0 (served_is K old served fresh stands.agrees) stood led.2,
          );
      by_stops = λ tell served stands.
          let book = served.host.book in
          let stood = stands.by_rows.rows fresh in
          let backs = stands.backs fresh in
          let led = (each book stood).by_rows in (
            behind book led.0,
            record {
              by_rows = record { agrees = agrees_with K new led.0 _ (stale_is new.host.stale book); first = reread ∙ stands.by_rows.first; rows = λ is. (led.1 is).0 };
              backs = λ is. (led.1 is).1 tell backs;
              left = left_at book led.0 new.host.stale (λ is. ((led.1 is).1 tell backs).alone is) (stops book stood tell backs);
            },
            is served led.0 (served_is K old served fresh stands.by_rows.agrees) stood led.2,
          );
      by_records = λ tell serve served stands.
          let book = served.host.book in
          let backs = stands.backs in
          let stood = backs.stands fresh in
          let led = (each book stood).by_records tell serve backs in (
            behind book led.0,
            record {
              agrees = agrees_with K new led.0 _ (stale_is new.host.stale book);
              backs = led.1;
              left = left_at book led.0 new.host.stale (λ is. led.1.alone is) (stops book stood tell backs);
            },
            is served led.0 (served_is K old served fresh stands.agrees) stood led.2,
          );
      reread = reread;
      told = tell_on;
      served = serve_on;
    }
