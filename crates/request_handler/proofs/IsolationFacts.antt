-- Messages are replied to alike by hosts that are the same to whom they come from.
use Rattle.std.proofs.Math.Nat.{le_refl}
use Rattle.std.proofs.Common.{◌≡◌, ◌≢◌, ◌∙◌, ℕ, Bool, true, false, List, Option, Some, None, if◌then◌else◌, refl, sym, ap, subst, inl, inr}
use Rattle.std.specs.Prelude.{Result, Ok, Err, codes}
use Rattle.std.proofs.lemmas.Option.{none-some}
use Rattle.fpl_base.specs.declared.kinds.Caller.{Caller}
use Rattle.fpl_base.specs.Moments.{Tells}
use Rattle.season_book.specs.Hosts.{HostState, keys_of}
use Rattle.season_book.specs.Verdict.{IsVerdict}
use Rattle.season_book.specs.declared.answer.Answer.{Answer}
use Rattle.season_book.specs.declared.answer.Answer.TheVariants as answer
use Rattle.season_book.specs.declared.request.Request.{Request as Asked}
use Rattle.season_book.specs.Isolation.{AnswersAreIsolated, SameUseOf}
use Rattle.fpl_answers.specs.Answers.{status_of}
use Rattle.fpl_requests.specs.Callers.{is_for}
use Rattle.fpl_requests.specs.Requests.{request_of}
use Rattle.fpl_requests.specs.declared.field.FieldName.{FieldName}
use Rattle.fpl_requests.specs.declared.route.Route.{Route}
use Rattle.fpl_http.specs.Stream.{Request}
use Rattle.request_handler.specs.Isolation.{AreAlike, MessagesAreIsolated}
use Rattle.request_handler.specs.Replying.{Asking, Goes, IsJudged, IsRebuildFault, Judges, RepliesAlong, RepliesTo, Reply, Served, Way, asked_along, asked_by, caller_of, error_reply, failures_in, full_reply, reply_of, shown_by, unless_malformed}

-- who asks is whose key was shown

abbrev asker_of : Asking → Option Caller
asker_of (Ok pair) = Some pair.0
asker_of (Err refusal) = None

no_asker : (asker : Caller) → None ≡ Some asker → ⊥
no_asker asker is = none-some asker is

asks_body : (caller asker : Caller) (request : Asked) (read : Result Asked FieldName) → unless_malformed caller read ≡ Ok (asker, request) → Some caller ≡ Some asker
asks_body caller asker request (Ok order) is = ap asker_of is
asks_body caller asker request (Err field) is = absurd (no_asker asker (ap asker_of is))

asks_by : (for_him : Bool) (caller asker : Caller) (request : Asked) (read : Result Asked FieldName) (refusal : Reply)
    → (if for_him then unless_malformed caller read else Err refusal) ≡ Ok (asker, request) → Some caller ≡ Some asker
asks_by true caller asker request read refusal is = asks_body caller asker request read is
asks_by false caller asker request read refusal is = absurd (no_asker asker (ap asker_of is))

asks_as : (shown : Option Caller) (route : Route) (ids body : List ℕ) (asker : Caller) (request : Asked) → asked_by shown route ids body ≡ Ok (asker, request) → shown ≡ Some asker
asks_as None route ids body asker request is = absurd (no_asker asker (ap asker_of is))
asks_as (Some caller) route ids body asker request is =
    asks_by (is_for route caller) caller asker request (request_of route ids body) (error_reply 403 (codes "caller")) is

pub asks_along : (host : HostState) (message : Request) (way : Way) (asker : Caller) (request : Asked) → Ok (asker, request) ≡ asked_along host message way → caller_of host message.key ≡ Some asker
asks_along host message (Err refusal) asker request is = absurd (no_asker asker (ap asker_of (sym is)))
asks_along host message (Ok (route, ids)) asker request is = asks_as (caller_of host message.key) route ids message.body asker request (sym is)

-- hosts that are the same are asked the same

callers_alike : (message : Request) (one other : Served) → AreAlike message one other → caller_of one.host message.key ≡ caller_of other.host message.key
callers_alike message one other alike =
    ap (λ operator. shown_by operator (keys_of one.host.book.entries) message.key) alike.operator
    ∙ ap (λ keys. shown_by other.host.operator keys message.key) alike.keys

along_alike : (message : Request) (one other : Served) (way : Way) → AreAlike message one other → asked_along one.host message way ≡ asked_along other.host message way
along_alike message one other (Err refusal) alike = refl
along_alike message one other (Ok (route, ids)) alike = ap (λ shown. asked_by shown route ids message.body) (callers_alike message one other alike)

-- and reply the same

-- the host made ready
abbrev ready_of : Served → Served
ready_of old = record old { stale = None }

ready_alike : (message : Request) (one other : Served) → AreAlike message one other → AreAlike message (ready_of one) (ready_of other)
ready_alike message one other alike = record { operator = alike.operator; keys = alike.keys; moments = alike.moments; books = alike.books; uses = alike.uses }

status_is : (reply : Reply) (answer : Answer) → reply ≡ reply_of answer → reply.0 ≡ status_of answer
status_is reply answer is = ap (λ (r : Reply). r.0) is

full_is : (reply : Reply) → reply ≡ full_reply → reply.0 ≡ 507
full_is reply is = ap (λ (r : Reply). r.0) is

module _ (law : AnswersAreIsolated) (message : Request) (reply : Reply) (fits : reply.0 ≢ 507) (kept : reply.0 ≢ 503) (whole : reply.0 ≢ 500) where
  answered : (old other new : Served) (caller : Caller) (request : Asked) → AreAlike message old other → caller_of old.host message.key ≡ Some caller → SameUseOf request old.host.book other.host.book
      → Judges old caller request reply new → (left : Served) × Judges other caller request reply left
  answered old other new caller request alike is same_use judges = by_judged judges.judged
    where
      by_judged : IsJudged old.host (failures_in old new) caller judges.now request reply new.host.book → (left : Served) × Judges other caller request reply left
      by_judged (inl (told, may, same, would)) =
          let status : (a : Answer) → told ≡ a → reply.0 ≡ status_of a = λ a at. status_is reply told same ∙ ap status_of at in
          let led = law old.host.operator (failures_in old new) old.host.book caller judges.now request told new.host.book may
          (λ out. fits (status answer.Memory out)) (λ out. kept (status answer.Keeper out)) other.host.book (alike.books caller judges.now new.moments is judges.told) same_use in
          let left : Served = record { host = record { operator = other.host.operator; book = led.0 }; moments = new.moments; failed = other.failed; stale = None } in (
            left,
            record {
              now = judges.now;
              told = subst (λ m. Tells m judges.now new.moments) alike.moments judges.told;
              judged = inl (
                told,
                inl (subst (λ key. IsVerdict key other.host.book caller judges.now request (record { answer = told; book = led.0 })) alike.operator led.1),
                same,
                λ out. absurd (kept (status answer.Keeper out)),
              );
              no_fewer = le_refl other.failed;
              counted = λ some room. refl;
              operator = refl;
              stale = inl (refl, kept);
            },
          )
      by_judged (inr (out, left)) = absurd (fits (full_is reply out))

  replied : (old other new : Served) (asking : Asking) (way : Way) → Goes message way → AreAlike message old other → asking ≡ asked_along old.host message way
      → RepliesTo asking old reply new → (left : Served) × RepliesTo asking other reply left
  replied old other new (Err refusal) way goes alike is (same, told) = (other, (refl, told))
  replied old other new (Ok (caller, request)) way goes alike is (inl (same, out)) = absurd (fits (full_is reply out))
  replied old other new (Ok (caller, request)) way goes alike is (inr judges) =
      let led = answered old other new caller request alike (asks_along old.host message way caller request is) (alike.uses caller request (way, goes, is)) judges in
      (led.0, inr led.1)

  -- nothing that keeps a host from being made ready is replied
  was_ready : (old new : Served) → IsRebuildFault old reply new → ⊥
  was_ready old new (inl out) = fits (full_is reply out)
  was_ready old new (inr (inl (is, rose))) = kept (status_is reply answer.Keeper is)
  was_ready old new (inr (inr (key, is, damage))) = whole (status_is reply (answer.Damaged key) is)

  along : (old other new : Served) (way : Way) → Goes message way → AreAlike message old other → RepliesAlong way old message reply new → (left : Served) × RepliesAlong way other message reply left
  along old other new (Err refusal) goes alike (same, told) = (other, (refl, told))
  along old other new (Ok (route, ids)) goes alike (inl fails) = absurd (was_ready old new fails.cause)
  along old other new (Ok (route, ids)) goes alike (inr (ready, is, to)) =
      let asking : Served → Asking = λ s. asked_along s.host message (Ok (route, ids)) in
      let led = replied (ready_of old) (ready_of other) new (asking old) (Ok (route, ids)) goes (ready_alike message old other alike) refl
      (subst (λ (s : Served). RepliesTo (asking s) s reply new) is to) in (
        led.0,
        inr (
          ready_of other,
          refl,
          subst (λ a. RepliesTo a (ready_of other) reply led.0) (along_alike message old other (Ok (route, ids)) alike) led.1,
        ),
      )

pub messages_isolated : AnswersAreIsolated → MessagesAreIsolated
messages_isolated law old new other message reply alike fits kept whole (way, goes, to) =
    let led = along law message reply fits kept whole old other new way goes alike to in
    (led.0, (way, goes, led.1))
