-- Reads that are counted while nothing but views is asked.
use Rattle.std.proofs.Common.{◌≡◌, ◌∙◌, ◌⊎◌, ◌≤◌, ◌+◌, ◌++◌, ℕ, Bool, true, false, true≢false, List, [], ◌∷◌, Option, Some, None, Ok, ap, arith, inl, inr, not, ◌==◌, refl, sum, sym, subst}
use Rattle.std.specs.Option.{option_map}
use Rattle.std.proofs.lemmas.Bool.Decides.{nat_tests}
use Rattle.std.proofs.lemmas.List.Sums.{sum_by-cons}
use Rattle.fpl_base.specs.Moments.{Moments, Tells}
use Rattle.fpl_base.specs.declared.kinds.Caller.{Caller}
use Rattle.rule_book.specs.Calendar.{after_pass}
use Rattle.fpl_http.specs.Stream.{Request as Message}
use Rattle.fpl_http.specs.Replies.{Speaks}
use Rattle.fpl_http.specs.Runs.{Run}
use Rattle.fpl_requests.specs.Targets.{IsFound}
use Rattle.fpl_requests.specs.declared.route.Found.TheVariants as found
use Rattle.fpl_requests.specs.declared.route.Route.{Route}
use Rattle.season_book.specs.Book.{Book, Facts}
use Rattle.season_book.specs.Verdict.{locked_at, pass}
use Rattle.season_book.specs.declared.request.Request.{Request}
use Rattle.season_book.specs.declared.request.Request.TheVariants as request
use Rattle.season_host.specs.Accepted.{locks_more}
use Rattle.season_keeping.specs.Answering.{LeavesAll, PassesAlone, ReadsFew}
use Rattle.season_keeping.specs.Housed.{Housed}
use Rattle.season_running.specs.Standing.{HostRows, StandsIn, passed}
use Rattle.season_views.specs.Reads.{view_reads}
use Rattle.request_handler.specs.Replying.{Asking, IsAsked, Reply, asked_by}
use Rattle.request_handler.specs.Kept.{Kept, asked_in}
use Rattle.request_handler.specs.Looks.{AllOrderNone, AreLooks, AsksNoCommand, Counted, CountsAs, CountsLooks, IsLook, IsNoCommand, LockNone, LooksOn, MayRead, OrdersNone, RunsReadFew, TellsOn, host_with, passed_on}
use Rattle.request_handler.proofs.KeptLemmas.{caller_stood}

-- ---- a moment that locks nothing leaves the book

same_of : (a b : ℕ) → not (a == b) ≡ false → a ≡ b
same_of a b is = grind (arith, nat_tests, is)

pub facts_stay : (o : Option Facts) (now : ℕ) → locks_more o now ≡ false → option_map (locked_at now) o ≡ o
facts_stay None now is = refl
facts_stay (Some facts) now is =
    ap (λ (locked : ℕ). Some (record facts { calendar = record facts.calendar { locked = locked } })) (same_of (after_pass facts.calendar now).locked facts.calendar.locked is)

book_stays : (book : Book) (now : ℕ) → locks_more book.facts now ≡ false → pass book now ≡ book
book_stays book now is = ap (λ (o : Option Facts). record book { facts = o }) (facts_stay book.facts now is)

-- ---- one message

module _ (K : Type 0) where
  still : (now : Counted K) (most : ℕ) → LooksOn now now most
  still now most = record { host = refl; keeper = refl; reads = omega arith }

  -- what leaves all as it is counts no read
  pub counts_none : (asking : Asking) (now : Counted K) → CountsAs asking now now
  counts_none asking now = record { told = []; tells = refl; few = λ book stands most may none. still now most; locks = λ none. refl }

  pub looks_none : (now : Counted K) (message : Message) (reply : Reply) → CountsLooks now message reply now
  looks_none now message reply = record {
    told = [];
    tells = refl;
    few = λ fresh book stands most look none. still now most;
    locks = λ fresh none. refl;
    again = λ is. is;
    stale = λ is. inl refl;
  }

  -- a host that is stale could not be made ready: no moment was told
  pub looks_stale : (old new : Counted K) (message : Message) (reply : Reply) → new.kept.moments ≡ old.kept.moments → (old.kept.host.stale ≡ false → ⊥)
      → new.kept.host.reread ≡ true → CountsLooks old message reply new
  looks_stale old new message reply same stale reread = record {
    told = [];
    tells = same;
    few = λ fresh. absurd (stale fresh);
    locks = λ fresh. absurd (stale fresh);
    again = λ is. reread;
    stale = λ is. inr reread;
  }

  -- what the host judged
  judged_few : (old new : Counted K) (caller : Caller) (now : ℕ) (asked : Request)
      → (locks_more old.kept.host.rows.facts now ≡ false → (book : Book) → StandsIn old.kept.host.rows book → ReadsFew (pass book now) caller asked old.reads new.reads)
      → (locks_more old.kept.host.rows.facts now ≡ false → LeavesAll asked old.kept.keeper new.kept.keeper old.kept.host new.kept.host)
      → (book : Book) → StandsIn old.kept.host.rows book → (most : ℕ) → MayRead book (Ok (caller, asked)) most → LockNone book (now ∷ []) → LooksOn old new most
  judged_few old new caller now (request.Command number command) views looks book stands most may none = absurd may
  judged_few old new caller now (request.View view) views looks book stands most may none =
      let locks : locks_more book.facts now ≡ false = none.0 in
      let here : locks_more old.kept.host.rows.facts now ≡ false = ap (λ (o : Option Facts). locks_more o now) (sym stands.facts) ∙ locks in
      let few : new.reads ≤ old.reads + view_reads (pass book now) caller view = views here book stands in
      let stays = looks here in
      record {
        host = stays.0;
        keeper = stays.1;
        reads = subst (λ (n : ℕ). new.reads ≤ old.reads + n) (sym may) (subst (λ (b : Book). new.reads ≤ old.reads + view_reads b caller view) (book_stays book now locks) few);
      }

  locked_by_one : (asked : Request) (now : ℕ) (old new : HostRows) → PassesAlone asked now old new → IsNoCommand asked → new ≡ passed now old
  locked_by_one (request.View view) now old new rows none = rows
  locked_by_one (request.Command number command) now old new rows none = absurd none

  pub judged_counts : (old new : Counted K) (caller : Caller) (now : ℕ) (asked : Request) → Tells old.kept.moments now new.kept.moments
      → (locks_more old.kept.host.rows.facts now ≡ false → (book : Book) → StandsIn old.kept.host.rows book → ReadsFew (pass book now) caller asked old.reads new.reads)
      → (locks_more old.kept.host.rows.facts now ≡ false → LeavesAll asked old.kept.keeper new.kept.keeper old.kept.host new.kept.host)
      → PassesAlone asked now old.kept.host.rows new.kept.host.rows → CountsAs (Ok (caller, asked)) old new
  judged_counts old new caller now asked told views looks passes = record {
    told = now ∷ [];
    tells = (new.kept.moments, told, refl);
    few = judged_few old new caller now asked views looks;
    locks = λ none. locked_by_one asked now old.kept.host.rows new.kept.host.rows passes none;
  }

  pub counts_on : (asking other : Asking) (old new : Counted K) → asking ≡ other → CountsAs other old new → CountsAs asking old new
  counts_on asking other old new same counts = subst (λ (a : Asking). CountsAs a old new) (sym same) counts

  -- a message that goes by a route, to a host that is ready as it is
  pub counted_is : (one other : Counted K) → one.kept ≡ other.kept → one.reads ≡ other.reads → one ≡ other
  counted_is one other kept reads =
      ap (λ (k : Kept K). record one { kept = k }) kept ∙ ap (λ (n : ℕ). record other { reads = n }) reads

  module _ (message : Message) (route : Route) (ids : List ℕ) (is_found : IsFound message.method message.target (found.Route route ids)) (old mid new : Counted K)
      (same : old.kept.host.stale ≡ false → mid ≡ old) where
    abbrev asked_of : Counted K → Asking
    asked_of from = asked_in from.kept.host.rows message route ids

    asked : (book : Book) → StandsIn old.kept.host.rows book → IsAsked (host_with old book) message (asked_of old)
    asked book stands = (
      Ok (route, ids),
      (found.Route route ids, is_found, refl),
      ap (λ (caller : Option Caller). asked_by caller route ids message.body) (sym (caller_stood old.kept.host.rows (host_with old book) message.key refl stands)),
    )

    at_once : (told : List ℕ)
        → ((book : Book) → StandsIn mid.kept.host.rows book → (most : ℕ) → MayRead book (asked_of mid) most → LockNone book told → LooksOn mid new most)
        → old.kept.host.stale ≡ false → (book : Book) → StandsIn old.kept.host.rows book → (most : ℕ) → MayRead book (asked_of old) most → LockNone book told → LooksOn old new most
    at_once told few fresh =
        subst (λ (from : Counted K). (book : Book) → StandsIn from.kept.host.rows book → (most : ℕ) → MayRead book (asked_of from) most → LockNone book told → LooksOn from new most)
        (same fresh) few

    locked_at_once : (told : List ℕ) → (AsksNoCommand (asked_of mid) → new.kept.host.rows ≡ passed_on told mid.kept.host.rows)
        → old.kept.host.stale ≡ false → AsksNoCommand (asked_of old) → new.kept.host.rows ≡ passed_on told old.kept.host.rows
    locked_at_once told locks fresh =
        subst (λ (from : Counted K). AsksNoCommand (asked_of from) → new.kept.host.rows ≡ passed_on told from.kept.host.rows) (same fresh) locks

    read_on : (stale : Bool) → old.kept.host.stale ≡ stale → (old.kept.host.stale ≡ true → mid.kept.host.reread ≡ true) → new.kept.host.reread ≡ mid.kept.host.reread
        → old.kept.host.reread ≡ true → new.kept.host.reread ≡ true
    read_on true is made on was = on ∙ made is
    read_on false is made on was = on ∙ ap (λ (from : Counted K). from.kept.host.reread) (same is) ∙ was

    pub route_counts : (reply : Reply) → mid.kept.moments ≡ old.kept.moments → (old.kept.host.stale ≡ true → mid.kept.host.reread ≡ true)
        → new.kept.host.reread ≡ mid.kept.host.reread → CountsAs (asked_of mid) mid new → CountsLooks old message reply new
    route_counts reply waits made on counts = record {
      told = counts.told;
      tells = subst (λ (o : Option Moments). TellsOn o counts.told new.kept.moments) waits counts.tells;
      few = λ fresh book stands most look none. at_once counts.told counts.few fresh book stands most (look (asked_of old) (asked book stands)) none;
      locks = λ fresh orders. locked_at_once counts.told counts.locks fresh (orders route ids is_found);
      again = read_on old.kept.host.stale refl made on;
      stale = λ is. inr (on ∙ made is);
    }

-- ---- several messages

tells_then : (first mid last : Option Moments) (told later : List ℕ) → TellsOn first told mid → TellsOn mid later last → TellsOn first (told ++ later) last
tells_then first mid last [] later same tells = subst (λ (o : Option Moments). TellsOn o later last) same tells
tells_then first mid last (now ∷ told) later (next, one, more) tells = (next, one, tells_then next mid last told later more tells)

lock_front : (book : Book) (told later : List ℕ) → LockNone book (told ++ later) → LockNone book told
lock_front book [] later none = tt
lock_front book (now ∷ told) later none = (none.0, lock_front book told later none.1)

lock_behind : (book : Book) (told later : List ℕ) → LockNone book (told ++ later) → LockNone book later
lock_behind book [] later none = none
lock_behind book (now ∷ told) later none = lock_behind book told later none.1

-- locks change neither keys nor what a message asks by them
orders_on : (told : List ℕ) (rows : HostRows) (messages : List Message) → AllOrderNone rows messages → AllOrderNone (passed_on told rows) messages
orders_on [] rows messages orders = orders
orders_on (now ∷ told) rows messages orders = orders_on told (passed now rows) messages (orders_once now rows messages orders)
  where
    orders_once : (now : ℕ) (rows : HostRows) (messages : List Message) → AllOrderNone rows messages → AllOrderNone (passed now rows) messages
    orders_once now rows [] orders = tt
    orders_once now rows (m ∷ messages) orders = (orders.0, orders_once now rows messages orders.1)

passed_then : (told later : List ℕ) (rows : HostRows) → passed_on (told ++ later) rows ≡ passed_on later (passed_on told rows)
passed_then [] later rows = refl
passed_then (now ∷ told) later rows = passed_then told later (passed now rows)

reads_add : (first mid last most : ℕ) (more : List ℕ) → last ≤ mid + sum more → mid ≤ first + most → last ≤ first + sum (most ∷ more)
reads_add first mid last most more after here = omega (arith, after, here, sum_by-cons (λ (n : ℕ). n) most more)

module _ (K : Type 0) where
  abbrev FewBy : List Message → List ℕ → Counted K → Counted K → Type 0
  FewBy messages told old new = (book : Book) (more : List ℕ) → old.kept.host.stale ≡ false → StandsIn old.kept.host.rows book
      → AreLooks (host_with old book) messages more → LockNone book told → LooksOn old new (sum more)

  none_few : (old new : Counted K) → new ≡ old → FewBy [] [] old new
  none_few old new same book [] fresh stands looks none = subst (λ (c : Counted K). LooksOn old c (sum [])) (sym same) (still K old (sum []))
  none_few old new same book (most ∷ more) fresh stands looks none = absurd looks

  one_more_few : (old mid new : Counted K) (m : Message) (messages : List Message) (told later : List ℕ)
      → (old.kept.host.stale ≡ false → (book : Book) → StandsIn old.kept.host.rows book → (most : ℕ) → IsLook (host_with old book) m most → LockNone book told → LooksOn old mid most)
      → FewBy messages later mid new → FewBy (m ∷ messages) (told ++ later) old new
  one_more_few old mid new m messages told later one rest book [] fresh stands looks none = absurd looks
  one_more_few old mid new m messages told later one rest book (most ∷ more) fresh stands looks none =
      let here = one fresh book stands most looks.0 (lock_front book told later none) in
      let same : mid.kept.host ≡ old.kept.host = here.host in
      let back = sym same in
      let led = rest book more (ap (λ (h : Housed). h.stale) same ∙ fresh)
      (subst (λ (h : Housed). StandsIn h.rows book) back stands)
      (subst (λ (h : Housed). AreLooks (record { operator = h.rows.operator; book = book }) messages more) back looks.1)
      (lock_behind book told later none) in
      record {
        host = led.host ∙ same;
        keeper = led.keeper ∙ here.keeper;
        reads = reads_add old.reads mid.reads new.reads most more led.reads here.reads;
      }

  -- who was read again was so to the end; and who is stale is read again, or stale to the end
  again_on : (old new : Counted K) (messages : List Message) (texts : List (List ℕ)) → Run (Speaks CountsLooks) old messages texts new
      → old.kept.host.reread ≡ true → new.kept.host.reread ≡ true
  again_on old new [] [] run is = ap (λ (c : Counted K). c.kept.host.reread) run ∙ is
  again_on old new [] (t ∷ texts) run is = absurd run
  again_on old new (m ∷ messages) [] run is = absurd run
  again_on old new (m ∷ messages) (t ∷ texts) (mid, speaks, rest) is = again_on mid new messages texts rest (speaks.answered.again is)

  either_way : {X : Type 0} (old mid : Counted K) → (mid.kept.host ≡ old.kept.host) ⊎ (mid.kept.host.reread ≡ true) → old.kept.host.stale ≡ true
      → (mid.kept.host.stale ≡ true → X) → (mid.kept.host.reread ≡ true → X) → X
  either_way old mid (inl same) is stays reads = stays (ap (λ (h : Housed). h.stale) same ∙ is)
  either_way old mid (inr reread) is stays reads = reads reread

  stale_on : (old new : Counted K) (messages : List Message) (texts : List (List ℕ)) → Run (Speaks CountsLooks) old messages texts new
      → old.kept.host.stale ≡ true → (new.kept.host.stale ≡ true) ⊎ (new.kept.host.reread ≡ true)
  stale_on old new [] [] run is = inl (ap (λ (c : Counted K). c.kept.host.stale) run ∙ is)
  stale_on old new [] (t ∷ texts) run is = absurd run
  stale_on old new (m ∷ messages) [] run is = absurd run
  stale_on old new (m ∷ messages) (t ∷ texts) (mid, speaks, rest) is =
      either_way old mid (speaks.answered.stale is) is (λ stays. stale_on mid new messages texts rest stays) (λ reread. inr (again_on mid new messages texts rest reread))

  never : (new : Counted K) → (new.kept.host.stale ≡ true) ⊎ (new.kept.host.reread ≡ true) → new.kept.host.stale ≡ false → new.kept.host.reread ≡ false → ⊥
  never new (inl stale) fresh first = true≢false (sym stale ∙ fresh)
  never new (inr reread) fresh first = true≢false (sym reread ∙ first)

  abbrev Locked : List Message → List ℕ → Counted K → Counted K → Type 0
  Locked messages told old new = old.kept.host.stale ≡ false → AllOrderNone old.kept.host.rows messages → new.kept.host.stale ≡ false → new.kept.host.reread ≡ false
      → new.kept.host.rows ≡ passed_on told old.kept.host.rows

  one_more_locked : (old mid new : Counted K) (m : Message) (messages : List Message) (told later : List ℕ)
      → (old.kept.host.stale ≡ false → OrdersNone old.kept.host.rows m → mid.kept.host.rows ≡ passed_on told old.kept.host.rows)
      → (mid.kept.host.stale ≡ true → (new.kept.host.stale ≡ true) ⊎ (new.kept.host.reread ≡ true))
      → Locked messages later mid new → Locked (m ∷ messages) (told ++ later) old new
  one_more_locked old mid new m messages told later one gone rest was orders fresh first = by mid.kept.host.stale refl
    where
      here : mid.kept.host.rows ≡ passed_on told old.kept.host.rows
      here = one was orders.0

      by : (stale : Bool) → mid.kept.host.stale ≡ stale → new.kept.host.rows ≡ passed_on (told ++ later) old.kept.host.rows
      by true is = absurd (never new (gone is) fresh first)
      by false is =
          rest is (subst (λ (rows : HostRows). AllOrderNone rows messages) (sym here) (orders_on told old.kept.host.rows messages orders.1)) fresh first
          ∙ ap (passed_on later) here ∙ sym (passed_then told later old.kept.host.rows)

  pub looks_read_few : RunsReadFew K
  looks_read_few old new [] [] run = record {
    told = [];
    tells = ap (λ (c : Counted K). c.kept.moments) run;
    few = none_few old new run;
    locks = λ was orders fresh first. ap (λ (c : Counted K). c.kept.host.rows) run;
  }
  looks_read_few old new [] (t ∷ texts) run = absurd run
  looks_read_few old new (m ∷ messages) [] run = absurd run
  looks_read_few old new (m ∷ messages) (t ∷ texts) (mid, speaks, rest) =
      let one = speaks.answered in
      let on = looks_read_few mid new messages texts rest in
      record {
        told = one.told ++ on.told;
        tells = tells_then old.kept.moments mid.kept.moments new.kept.moments one.told on.told one.tells on.tells;
        few = one_more_few old mid new m messages one.told on.told one.few on.few;
        locks = one_more_locked old mid new m messages one.told on.told one.locks (stale_on mid new messages texts rest) on.locks;
      }
