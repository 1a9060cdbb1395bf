-- The whole way of a message, from the host made ready to the reply.
use Rattle.std.proofs.Common.{◌≡◌, ◌∙◌, ◌⊎◌, ◌≤◌, Bool, true, false, ap, sym, subst, ℕ, List, Option, Some, None, Result, Ok, Err, IfOk, inl, inr, refl}
use Rattle.std.specs.Prelude.{is_some, ⊤}
use Rattle.serde_json.specs.Written.{compact_text}
use Rattle.fpl_base.specs.Causes.{Rose}
use Rattle.fpl_base.specs.Keeping.{Map}
use Rattle.fpl_base.specs.declared.kinds.Caller.{Caller}
use Rattle.fpl_base.specs.declared.memory.Memory.{Memory}
use Rattle.fpl_answers.specs.MemberData.{error_data}
use Rattle.fpl_http.specs.Seen.{reply_seen}
use Rattle.fpl_http.specs.Stream.{Request as Message}
use Rattle.fpl_http.specs.declared.responses.Reply.{Reply}
use Rattle.fpl_requests.specs.Targets.{IsFound}
use Rattle.fpl_requests.specs.declared.route.Found.{Found}
use Rattle.fpl_requests.specs.declared.route.Found.TheVariants as found
use Rattle.fpl_requests.specs.declared.route.Route.{Route}
use Rattle.fpl_http.specs.Lifts.{LiftsWhile}
use Rattle.fpl_http.specs.Replies.{answer_in}
use Rattle.fpl_http.specs.Splits.{Both}
use Rattle.season_book.specs.Book.{Book}
use Rattle.season_records.specs.Records.{records}
use Rattle.season_running.specs.Standing.{StandsIn}
use Rattle.season_opening.specs.Opening.{IsKeepable}
use Rattle.season_opening.specs.declared.loading.OpenFault.{OpenFault}
use Rattle.season_opening.specs.declared.loading.OpenFault.TheVariants as fault
use Rattle.season_keeping.specs.Housed.{Backs}
use Rattle.season_keeping.specs.Opening.{Withholds}
use Rattle.request_handler.specs.Handlers.{IsFaultReply, RepliesAs}
use Rattle.request_handler.specs.Kept.{IsStoodByRows, IsStoodByStops, Kept, Leads, StandsByRecords, StandsByRows, StandsByStops, asked_in}
use Rattle.request_handler.specs.Replying.{Asking, Goes, IsAsked, IsRebuildFault, IsReply, IsReplyUntil, RepliesAlong, RepliesTo, Served, asked_by, caller_of, error_reply, way_of}
use Rattle.request_handler.specs.Whole.{CanBeJudged, IsKept, IsKeptReply}
use Rattle.request_handler.proofs.KeptLemmas.{caller_stood, is_from, is_none}

-- what is replied, by each of the three
abbrev pub RepliesAll : {K : Type 0} → (K → Type 0) → (K → Type 0) → (K → Map → Type 0) → (K → Map → Type 0) → Kept K → Message → ℕ × List ℕ → Kept K → Type 0
RepliesAll {K = K} tells serves holds passes =
    Both (LiftsWhile (λ (_ : Kept K). ⊤) IsStoodByRows IsReplyUntil)
    (Both (LiftsWhile (λ (kept : Kept K). tells kept.keeper) (IsStoodByStops holds passes) IsReplyUntil)
    (LiftsWhile (λ (kept : Kept K). tells kept.keeper × serves kept.keeper) (StandsByRecords holds passes) IsKeptReply))

-- a message behind which the host is as it was before
kept_same : (message : Message) (reply : ℕ × List ℕ) (served : Served) → IsKeepable served.host.book → IsKept served message reply served
kept_same message reply served keepable = record { keepable = keepable; asks = inl refl }

-- ---- a message that goes nowhere

module _ (message : Message) (at : Found) (status : ℕ) (word body : List ℕ) (r : Result Reply Memory) (is_found : IsFound message.method message.target at)
    (way : way_of at ≡ Err (error_reply status word)) (text : body ≡ compact_text (error_data word)) (written : IfOk r (λ reply. reply_seen reply ≡ (status, body))) where
  goes_nowhere : (old : Served) → IsReply old message (answer_in r) old
  goes_nowhere old = (Err (error_reply status word), (at, is_found, sym way), replies r written)
    where
      replies : (s : Result Reply Memory) → IfOk s (λ reply. reply_seen reply ≡ (status, body)) → RepliesAlong (Err (error_reply status word)) old message (answer_in s) old
      replies (Ok reply) same = (refl, inl (same ∙ ap (λ (b : List ℕ). (status, b)) text))
      replies (Err none) same = (refl, inr refl)

  nowhere_until : (old : Option Served) → IsReplyUntil old message (answer_in r) old
  nowhere_until None = tt
  nowhere_until (Some served) = goes_nowhere served

  -- whatever is kept
  pub nowhere_all : (K : Type 0) (tells serves : K → Type 0) (holds passes : K → Map → Type 0) (kept : Kept K) → RepliesAll tells serves holds passes kept message (answer_in r) kept
  nowhere_all K tells serves holds passes kept = (
    (λ followed. followed, λ _ state stood. (state, stood, nowhere_until state)),
    (
      (λ followed. followed, λ _ state stood. (state, stood, nowhere_until state)),
      (λ followed. followed, λ _ state stood. (state, stood, (goes_nowhere state, kept_same message (answer_in r) state stood.backs.keepable))),
    ),
  )

-- ---- a message that goes by a route

module _ (message : Message) (route : Route) (ids : List ℕ) (is_found : IsFound message.method message.target (found.Route route ids)) where
  goes : Goes message (Ok (route, ids))
  goes = (found.Route route ids, is_found, refl)

  module _ (K : Type 0) (tells serves : K → Type 0) (holds passes : K → Map → Type 0) (old mid : Kept K)
      (moments : mid.moments ≡ old.moments) (operator : mid.host.rows.operator ≡ old.host.rows.operator)
      (same : old.host.stale ≡ false → mid ≡ old) (reread : old.host.stale ≡ true → mid.host.reread ≡ true)
      (backs : tells mid.keeper → serves mid.keeper → (book : Book) → Backs holds passes old.keeper old.host book → Backs holds passes mid.keeper mid.host book)
      (tell_on : tells mid.keeper → tells old.keeper) (serve_on : tells mid.keeper → serves mid.keeper → serves old.keeper) where
    -- once the keeper was read again, it was
    reread_on : (stale : Bool) → old.host.stale ≡ stale → old.host.reread ≡ true → mid.host.reread ≡ true
    reread_on true is before = reread is
    reread_on false is before = subst (λ (kept : Kept K). kept.host.reread ≡ true) (sym (same is)) before

    -- the host was made ready, and what the message asks of it then was replied to
    module _ (new : Kept K) (r : Result Reply Memory) (fresh : mid.host.stale ≡ false) (failed : mid.failed ≡ old.failed)
        (leads : Leads tells serves holds passes mid new (λ served behind. RepliesAs (asked_in mid.host.rows message route ids) served (answer_in r) behind)) where
      asked_is : (served : Served) → served.host.operator ≡ mid.host.rows.operator → StandsIn mid.host.rows served.host.book
          → asked_in mid.host.rows message route ids ≡ asked_by (caller_of served.host message.key) route ids message.body
      asked_is served own stands = ap (λ (caller : Option Caller). asked_by caller route ids message.body) (sym (caller_stood mid.host.rows served.host message.key own stands))

      -- what is served, made ready
      abbrev ready : Served → Served
      ready served = record served { stale = None }

      replies : (served behind : Served) → served.host.operator ≡ mid.host.rows.operator → StandsIn mid.host.rows served.host.book
          → RepliesTo (asked_in mid.host.rows message route ids) (ready served) (answer_in r) behind → IsReply served message (answer_in r) behind
      replies served behind own stands replied = (
        Ok (route, ids),
        goes,
        inr (ready served, refl, subst (λ (asking : _). RepliesTo asking (ready served) (answer_in r) behind) (asked_is served own stands) replied),
      )

      asks_in : (served behind : Served) → served.host.operator ≡ mid.host.rows.operator → StandsIn mid.host.rows served.host.book
          → (behind.host ≡ served.host) ⊎ CanBeJudged (asked_in mid.host.rows message route ids)
          → (behind.host ≡ served.host) ⊎ ((asking : Asking) × IsAsked served.host message asking × CanBeJudged asking)
      asks_in served behind own stands (inl same) = inl same
      asks_in served behind own stands (inr can) = inr (asked_in mid.host.rows message route ids, (Ok (route, ids), goes, asked_is served own stands), can)

      ready_is : (served : Served) → is_some served.stale ≡ false → ready served ≡ served
      ready_is served is = ap (λ (stale : Option Book). record served { stale = stale }) (sym (is_none served.stale is))

      -- by its rows, where it was not stale
      by_rows_fresh : old.host.stale ≡ false → (served : Served) → StandsByRows old served
          → (behind : Option Served) × IsStoodByRows new behind × IsReplyUntil (Some served) message (answer_in r) behind
      by_rows_fresh is served stands =
          let stood : StandsByRows mid served = subst (λ (kept : Kept K). StandsByRows kept served) (sym (same is)) stands in
          let led = leads.by_rows served stood in (
            Some led.0,
            led.1,
            replies served led.0 stood.agrees.operator (stood.rows fresh)
                (subst (λ (s : Served). RepliesTo (asked_in mid.host.rows message route ids) s (answer_in r) led.0) (sym (ready_is served (stood.agrees.stale ∙ fresh))) led.2.0),
          )

      by_stops_fresh : old.host.stale ≡ false → tells new.keeper → (served : Served) → StandsByStops holds passes old served
          → (behind : Option Served) × IsStoodByStops holds passes new behind × IsReplyUntil (Some served) message (answer_in r) behind
      by_stops_fresh is tell served stands =
          let stood : StandsByStops holds passes mid served = subst (λ (kept : Kept K). StandsByStops holds passes kept served) (sym (same is)) stands in
          let led = leads.by_stops tell served stood in (
            Some led.0,
            led.1,
            replies served led.0 stood.by_rows.agrees.operator (stood.by_rows.rows fresh)
                (subst (λ (s : Served). RepliesTo (asked_in mid.host.rows message route ids) s (answer_in r) led.0) (sym (ready_is served (stood.by_rows.agrees.stale ∙ fresh))) led.2.0),
          )

      -- and where it was
      read_again : old.host.stale ≡ true → new.host.reread ≡ true
      read_again is = leads.reread ∙ reread is

      until_rows : (stale : Bool) → old.host.stale ≡ stale → (state : Option Served) → IsStoodByRows old state
          → (behind : Option Served) × IsStoodByRows new behind × IsReplyUntil state message (answer_in r) behind
      until_rows stale is None stands = (None, leads.reread ∙ reread_on stale is stands, tt)
      until_rows true is (Some served) stands = (None, read_again is, (is_from served.stale (stands.agrees.stale ∙ is), ((route, ids), goes)))
      until_rows false is (Some served) stands = by_rows_fresh is served stands

      until_stops : (stale : Bool) → old.host.stale ≡ stale → tells new.keeper → (state : Option Served) → IsStoodByStops holds passes old state
          → (behind : Option Served) × IsStoodByStops holds passes new behind × IsReplyUntil state message (answer_in r) behind
      until_stops stale is tell None stands = (None, leads.reread ∙ reread_on stale is stands, tt)
      until_stops true is tell (Some served) stands = (None, read_again is, (is_from served.stale (stands.by_rows.agrees.stale ∙ is), ((route, ids), goes)))
      until_stops false is tell (Some served) stands = by_stops_fresh is tell served stands

      -- by its keeper's records
      ready_stands : tells mid.keeper → serves mid.keeper → (served : Served) → StandsByRecords holds passes old served → StandsByRecords holds passes mid (ready served)
      ready_stands tell serve served stands =
          let held = backs tell serve served.host.book stands.backs in
          record {
            agrees = record {
              operator = stands.agrees.operator ∙ sym operator;
              stale = sym fresh;
              moments = stands.agrees.moments ∙ sym moments;
              failed = stands.agrees.failed ∙ sym failed;
            };
            backs = held;
            left = λ x passed. inl (held.alone fresh x passed);
          }

      by_records : tells new.keeper → serves new.keeper → (served : Served) → StandsByRecords holds passes old served
          → (behind : Served) × StandsByRecords holds passes new behind × IsKeptReply served message (answer_in r) behind
      by_records tell serve served stands =
          let told = leads.told tell in
          let stood = ready_stands told (leads.served tell serve) served stands in
          let led = leads.by_records tell serve (ready served) stood in
          let own = stood.agrees.operator in
          let stands_now = stood.backs.stands fresh in
          (led.0, led.1, (replies served led.0 own stands_now led.2.0, record { keepable = led.1.backs.keepable; asks = asks_in served led.0 own stands_now led.2.1 }))

      asked_by_rows : LiftsWhile (λ (_ : Kept K). ⊤) IsStoodByRows IsReplyUntil old message (answer_in r) new
      asked_by_rows = (λ followed. followed, λ _ state stands. until_rows old.host.stale refl state stands)

      asked_by_stops : LiftsWhile (λ (kept : Kept K). tells kept.keeper) (IsStoodByStops holds passes) IsReplyUntil old message (answer_in r) new
      asked_by_stops = (λ tell. tell_on (leads.told tell), λ tell state stands. until_stops old.host.stale refl tell state stands)

      asked_by_records : LiftsWhile (λ (kept : Kept K). tells kept.keeper × serves kept.keeper) (StandsByRecords holds passes) IsKeptReply old message (answer_in r) new
      asked_by_records = (
        λ follows. (tell_on (leads.told follows.0), serve_on (leads.told follows.0) (leads.served follows.0 follows.1)),
        λ follows served stands. by_records follows.0 follows.1 served stands,
      )

      pub asked_all : RepliesAll tells serves holds passes old message (answer_in r) new
      asked_all = (asked_by_rows, (asked_by_stops, asked_by_records))

    -- the host could not be made ready
    module _ (faults : K → ℕ) (was : old.failed ≡ faults old.keeper) (is_now : mid.failed ≡ faults mid.keeper) (why : OpenFault) (r : Result Reply Memory)
        (was_stale : old.host.stale ≡ true) (is_stale : mid.host.stale ≡ true) (later : old.failed ≤ mid.failed)
        (stops : tells mid.keeper → (m : Map) → holds old.keeper m → (x : Map) → passes mid.keeper x → passes old.keeper x)
        (withholds : Withholds tells holds passes faults old.keeper mid.keeper why) (written : IfOk r (λ reply. IsFaultReply why (reply_seen reply))) where
      cause : tells mid.keeper → (served : Served) → StandsByRecords holds passes old served
          → (w : OpenFault) → Withholds tells holds passes faults old.keeper mid.keeper w → (s : Result Reply Memory) → IfOk s (λ reply. IsFaultReply w (reply_seen reply))
          → IsRebuildFault served (answer_in s) (record served { failed = mid.failed })
      cause tell served stands w held (Err none) is = inl refl
      cause tell served stands fault.Memory held (Ok reply) is = absurd is
      cause tell served stands fault.Keeper held (Ok reply) is =
          inr (inl (is, subst (λ (n : ℕ). Rose n mid.failed) (sym (stands.agrees.failed ∙ was)) (subst (λ (n : ℕ). Rose (faults old.keeper) n) (sym is_now) held)))
      cause tell served stands (fault.Damaged key) held (Ok reply) is = inr (inr (
        key,
        is,
        record {
          rows = held.judged.rows;
          rise = held.judged.rise;
          map = held.loaded.same tell (records served.host.book) stands.backs.held ∙ held.judged.map;
          judged = held.judged.judged;
        },
      ))

      abbrev fails : Served → Served
      fails served = record served { failed = mid.failed }

      unready_stands : tells mid.keeper → serves mid.keeper → (served : Served) → StandsByRecords holds passes old served → StandsByRecords holds passes mid (fails served)
      unready_stands tell serve served stands = record {
        agrees = record {
          operator = stands.agrees.operator ∙ sym operator;
          stale = stands.agrees.stale ∙ was_stale ∙ sym is_stale;
          moments = stands.agrees.moments ∙ sym moments;
          failed = refl;
        };
        backs = backs tell serve served.host.book stands.backs;
        left = λ x passed. stands.left x (stops tell (records served.host.book) stands.backs.held x passed);
      }

      unready : tells mid.keeper → serves mid.keeper → (served : Served) → StandsByRecords holds passes old served
          → (behind : Served) × StandsByRecords holds passes mid behind × IsKeptReply served message (answer_in r) behind
      unready tell serve served stands =
          let from = is_from served.stale (stands.agrees.stale ∙ was_stale) in (
            fails served,
            unready_stands tell serve served stands,
            (
              (
                Ok (route, ids),
                goes,
                inl (record {
                  from = from.0;
                  stale = from.1;
                  cause = cause tell served stands why withholds r written;
                  later = subst (λ (n : ℕ). n ≤ mid.failed) (sym stands.agrees.failed) later;
                  stays = refl;
                }),
              ),
              record { keepable = stands.backs.keepable; asks = inl refl },
            ),
          )

      unready_rows : (state : Option Served) → IsStoodByRows old state → (behind : Option Served) × IsStoodByRows mid behind × IsReplyUntil state message (answer_in r) behind
      unready_rows None stands = (None, reread was_stale, tt)
      unready_rows (Some served) stands = (None, reread was_stale, (is_from served.stale (stands.agrees.stale ∙ was_stale), ((route, ids), goes)))

      unready_stops : (state : Option Served) → IsStoodByStops holds passes old state → (behind : Option Served) × IsStoodByStops holds passes mid behind × IsReplyUntil state message (answer_in r) behind
      unready_stops None stands = (None, reread was_stale, tt)
      unready_stops (Some served) stands = (None, reread was_stale, (is_from served.stale (stands.by_rows.agrees.stale ∙ was_stale), ((route, ids), goes)))

      unready_by_rows : LiftsWhile (λ (_ : Kept K). ⊤) IsStoodByRows IsReplyUntil old message (answer_in r) mid
      unready_by_rows = (λ followed. followed, λ _ state stands. unready_rows state stands)

      unready_by_stops : LiftsWhile (λ (kept : Kept K). tells kept.keeper) (IsStoodByStops holds passes) IsReplyUntil old message (answer_in r) mid
      unready_by_stops = (λ tell. tell_on tell, λ tell state stands. unready_stops state stands)

      unready_by_records : LiftsWhile (λ (kept : Kept K). tells kept.keeper × serves kept.keeper) (StandsByRecords holds passes) IsKeptReply old message (answer_in r) mid
      unready_by_records = (
        λ follows. (tell_on follows.0, serve_on follows.0 follows.1),
        λ follows served stands. unready follows.0 follows.1 served stands,
      )

      pub unready_all : RepliesAll tells serves holds passes old message (answer_in r) mid
      unready_all = (unready_by_rows, (unready_by_stops, unready_by_records))
