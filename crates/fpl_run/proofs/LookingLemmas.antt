-- Looks behind which no gameweek is locked that was not before: so none of the moments that were told for them locked one.
use Rattle.std.proofs.Common.{◌≡◌, ◌∙◌, ◌≤◌, ℕ, Bool, false, List, [], ◌∷◌, Option, Some, None, Ok, Err, ap, arith, not, ◌==◌, refl, sym, subst}
use Rattle.std.specs.Prelude.{is_some}
use Rattle.std.specs.Option.{option_map}
use Rattle.std.proofs.lemmas.Bool.Decides.{nat_tests}
use Rattle.fpl_base.specs.Keeping.{Map}
use Rattle.fpl_base.specs.declared.kinds.Caller.{Caller}
use Rattle.rule_book.specs.Calendar.{after_pass}
use Rattle.fpl_http.specs.Stream.{Request as Message}
use Rattle.fpl_requests.specs.declared.route.Found.TheVariants as found
use Rattle.fpl_requests.specs.declared.route.Route.{Route}
use Rattle.season_book.specs.Book.{Book, Facts}
use Rattle.season_book.specs.Verdict.{locked_at}
use Rattle.season_book.specs.declared.request.Request.{Request}
use Rattle.season_book.specs.declared.request.Request.TheVariants as request
use Rattle.season_host.specs.Accepted.{locks_more}
use Rattle.season_running.specs.Standing.{HostRows, StandsIn, passed}
use Rattle.request_handler.specs.Replying.{Asking, Served, asked_by}
use Rattle.request_handler.specs.Kept.{IsStoodByRows, IsStoodByStops, LeadsAll, StandsByRows, asked_in}
use Rattle.request_handler.specs.Looks.{AllOrderNone, AreLooks, AsksNoCommand, Counted, IsLook, LockNone, MayRead, OrdersNone, ReadFew, passed_on}
use Rattle.request_handler.proofs.KeptLemmas.{caller_stood}
use Rattle.request_handler.proofs.LookLemmas.{facts_stay}
use Rattle.fpl_run.specs.Looking.{LooksReadFew}

-- ---- how many gameweeks are locked

abbrev locks_of : Option Facts → ℕ
locks_of None = 0
locks_of (Some facts) = facts.calendar.locked

abbrev facts_on : List ℕ → Option Facts → Option Facts
facts_on [] facts = facts
facts_on (now ∷ told) facts = facts_on told (option_map (locked_at now) facts)

passed_facts : (told : List ℕ) (rows : HostRows) → (passed_on told rows).facts ≡ facts_on told rows.facts
passed_facts [] rows = refl
passed_facts (now ∷ told) rows = passed_facts told (passed now rows)

rises_once : (now : ℕ) (facts : Option Facts) → locks_of facts ≤ locks_of (option_map (locked_at now) facts)
rises_once now None = omega arith
rises_once now (Some facts) = omega arith

rises_on : (told : List ℕ) (facts : Option Facts) → locks_of facts ≤ locks_of (facts_on told facts)
rises_on [] facts = omega arith
rises_on (now ∷ told) facts = omega (arith, rises_once now facts, rises_on told (option_map (locked_at now) facts))

is_same : (a b : ℕ) → a ≡ b → not (a == b) ≡ false
is_same a b is = grind (arith, nat_tests, is)

locks_nothing : (now : ℕ) (facts : Option Facts) → locks_of (option_map (locked_at now) facts) ≡ locks_of facts → locks_more facts now ≡ false
locks_nothing now None is = refl
locks_nothing now (Some facts) is = is_same (after_pass facts.calendar now).locked facts.calendar.locked is

between : (a b c : ℕ) → a ≤ b → b ≤ c → c ≡ a → b ≡ a
between a b c one other is = omega (arith, one, other, is)

-- where none is locked behind them that was not before, none of the moments locked one
none_locks : (told : List ℕ) (book : Book) → locks_of (facts_on told book.facts) ≡ locks_of book.facts → LockNone book told
none_locks [] book is = tt
none_locks (now ∷ told) book is =
    let here : locks_more book.facts now ≡ false = locks_nothing now book.facts
    (between (locks_of book.facts) (locks_of (option_map (locked_at now) book.facts)) (locks_of (facts_on told (option_map (locked_at now) book.facts)))
    (rises_once now book.facts) (rises_on told (option_map (locked_at now) book.facts)) is) in
    (here, none_locks told book (subst (λ (facts : Option Facts). locks_of (facts_on told facts) ≡ locks_of book.facts) (facts_stay book.facts now here) is))

-- ---- looks order nothing

orders_no_command : (book : Book) (caller : Caller) (asked : Request) (most : ℕ) → MayRead book (Ok (caller, asked)) most → AsksNoCommand (Ok (caller, asked))
orders_no_command book caller (request.View view) most may = tt
orders_no_command book caller (request.Command number command) most may = may

asks_no_command : (book : Book) (asking : Asking) (most : ℕ) → MayRead book asking most → AsksNoCommand asking
asks_no_command book (Ok (caller, asked)) most may = orders_no_command book caller asked most may
asks_no_command book (Err refusal) most may = tt

module _ (rows : HostRows) (served : Served) (operator : served.host.operator ≡ rows.operator) (stands : StandsIn rows served.host.book) where
  orders_none : (m : Message) (most : ℕ) → IsLook served.host m most → OrdersNone rows m
  orders_none m most look route ids is_found =
      asks_no_command served.host.book (asked_in rows m route ids) most
      (look (asked_in rows m route ids) (Ok (route, ids), (found.Route route ids, is_found, refl), ap (λ (caller : Option Caller). asked_by caller route ids m.body) (sym (caller_stood rows served.host m.key operator stands))))

  all_order_none : (messages : List Message) (more : List ℕ) → AreLooks served.host messages more → AllOrderNone rows messages
  all_order_none [] more looks = tt
  all_order_none (m ∷ messages) [] looks = absurd looks
  all_order_none (m ∷ messages) (most ∷ more) looks = (orders_none m most looks.0, all_order_none messages more looks.1)

-- ---- from what is kept to what is served

module _ (K : Type 0) (first last : Counted K) (messages : List Message) (counts : ReadFew messages first last) where
  fresh_of : (stale : Bool) (served : Option Book) → is_some served ≡ stale → served ≡ None → stale ≡ false
  fresh_of stale served is none = sym is ∙ ap (λ (o : Option Book). is_some o) none

  looked : (old new : Served) → StandsByRows first.kept old → StandsByRows last.kept new → LooksReadFew messages first.reads last.reads (Some old) (Some new)
  looked old new stands stood more looks was now_fresh same =
      let fresh = fresh_of first.kept.host.stale old.stale stands.agrees.stale was in
      let still = fresh_of last.kept.host.stale new.stale stood.agrees.stale now_fresh in
      let before = stands.rows fresh in
      let behind = stood.rows still in
      let rows = counts.locks fresh (all_order_none first.kept.host.rows old stands.agrees.operator before messages more looks) still stood.first in
      let facts = sym behind.facts ∙ same ∙ before.facts in
      let told = ap (λ (rows : HostRows). rows.facts) rows ∙ passed_facts counts.told first.kept.host.rows in
      let none = none_locks counts.told old.host.book
      (ap locks_of (ap (facts_on counts.told) before.facts ∙ sym told ∙ facts ∙ sym before.facts)) in
      (counts.few old.host.book more fresh before
      (subst (λ (own : List ℕ). AreLooks (record { operator = own; book = old.host.book }) messages more) stands.agrees.operator looks) none).reads

  looked_rows : (state behind : Option Served) → IsStoodByRows first.kept state → IsStoodByRows last.kept behind → LooksReadFew messages first.reads last.reads state behind
  looked_rows None behind stands stood = tt
  looked_rows (Some old) None stands stood = tt
  looked_rows (Some old) (Some new) stands stood = looked old new stands stood

  module _ (tells serves : K → Type 0) (holds passes : K → Map → Type 0) where
    looked_stops : (state behind : Option Served) → IsStoodByStops holds passes first.kept state → IsStoodByStops holds passes last.kept behind
        → LooksReadFew messages first.reads last.reads state behind
    looked_stops None behind stands stood = tt
    looked_stops (Some old) None stands stood = tt
    looked_stops (Some old) (Some new) stands stood = looked old new stands.by_rows stood.by_rows

    pub leads_looked : (until : Option Served → Option Served → Type 0) (whole : Served → Served → Type 0) (also : Option Served → Option Served → Type 0)
        → ((a b : Option Served) → LooksReadFew messages first.reads last.reads a b → also a b) → LeadsAll tells serves holds passes first.kept last.kept until whole
        → LeadsAll tells serves holds passes first.kept last.kept (λ a b. until a b × also a b) whole
    leads_looked until whole also on leads = record {
      by_rows = λ state stands. let a = leads.by_rows state stands in (a.0, a.1, (a.2, on state a.0 (looked_rows state a.0 stands a.1)));
      by_stops = λ tell state stands. let a = leads.by_stops tell state stands in (a.0, a.1, (a.2, on state a.0 (looked_stops state a.0 stands a.1)));
      by_records = leads.by_records;
      told = leads.told;
      served = leads.served;
    }
