-- What the handler keeps, and what it stands for.
use Rattle.std.proofs.Common.{◌≡◌, ◌∙◌, Bool, true, false, true≢false, ap, inr, sym, subst, refl, ℕ, List, [], ◌∷◌, Ok, Option, Some, None}
use Rattle.std.specs.Prelude.{is_some, map}
use Rattle.fpl_base.specs.Keeping.{Map}
use Rattle.fpl_base.specs.Moments.{Moments}
use Rattle.fpl_base.specs.declared.kinds.Caller.{Caller}
use Rattle.manager_book.specs.declared.manager.Manager.{Manager}
use Rattle.rule_book.specs.declared.player.Player.{Player}
use Rattle.season_book.specs.Book.{Book, EntryFacts}
use Rattle.season_book.specs.Hosts.{HostState, IsRequest, keys_of}
use Rattle.season_entries.specs.Entries.{AreEntries}
use Rattle.season_running.specs.Standing.{HostRows, StandsIn}
use Rattle.season_keeping.specs.Housed.{Housed}
use Rattle.request_handler.specs.Handlers.{RepliesAs}
use Rattle.request_handler.specs.Kept.{Agrees, Kept, Leads, caller_in}
use Rattle.season_book.specs.declared.request.Request.{Request}
use Rattle.request_handler.specs.Replying.{Asking, Judges, Reply, Served, caller_of, shown_by}

-- ---- the keys are the same

keys_stood : (players : List Player) (managers : List Manager) (entries : List EntryFacts) → AreEntries players managers entries → keys_of entries ≡ map (λ (manager : Manager). manager.key) managers
keys_stood players [] [] are = refl
keys_stood players [] (entry ∷ entries) are = absurd are
keys_stood players (manager ∷ managers) [] are = absurd are
keys_stood players (manager ∷ managers) (entry ∷ entries) (is, are) =
    ap (λ (key : List ℕ). key ∷ keys_of entries) is.key ∙ ap (λ (keys : List (List ℕ)). manager.key ∷ keys) (keys_stood players managers entries are)

-- a key that a message shows is the same caller's by the rows and by the book
pub caller_stood : (host : HostRows) (state : HostState) (key : Option (List ℕ)) → state.operator ≡ host.operator → StandsIn host state.book
    → caller_of state key ≡ caller_in host key
caller_stood host state key operator stands =
    ap (λ (own : List ℕ). shown_by own (keys_of state.book.entries) key) operator
    ∙ ap (λ (keys : List (List ℕ)). shown_by host.operator keys key) (keys_stood _ host.managers state.book.entries stands.entries)

-- ---- staleness

pub is_none : {X : Type 0} (stale : Option X) → is_some stale ≡ false → stale ≡ None
is_none None is = refl
is_none (Some x) is = absurd (true≢false is)

pub is_from : {X : Type 0} (stale : Option X) → is_some stale ≡ true → (x : X) × (stale ≡ Some x)
is_from None is = absurd (true≢false (sym is))
is_from (Some x) is = (x, refl)

-- the book from which a host is stale that becomes so
abbrev pub stale_from : Bool → Book → Option Book
stale_from true book = Some book
stale_from false book = None

pub stale_is : (stale : Bool) (book : Book) → is_some (stale_from stale book) ≡ stale
stale_is true book = refl
stale_is false book = refl

-- ---- what is kept, with a book in place of rows

abbrev pub with_book : {K : Type 0} → Kept K → Book → Option Book → Served
with_book kept book stale = record {
  host = record { operator = kept.host.rows.operator; book = book };
  moments = kept.moments;
  failed = kept.failed;
  stale = stale;
}

pub agrees_with : (K : Type 0) (kept : Kept K) (book : Book) (stale : Option Book) → is_some stale ≡ kept.host.stale → Agrees kept (with_book kept book stale)
agrees_with K kept book stale is = record { operator = refl; stale = is; moments = refl; failed = refl }

-- a host that is not stale serves what is kept with a book
pub served_is : (K : Type 0) (kept : Kept K) (served : Served) → kept.host.stale ≡ false → Agrees kept served → served ≡ with_book kept served.host.book None
served_is K kept served fresh agrees =
    ap (λ (operator : List ℕ). record { host = record { operator = operator; book = served.host.book }; moments = served.moments; failed = served.failed; stale = served.stale }) agrees.operator
    ∙ ap (λ (moments : Option Moments). record { host = record { operator = kept.host.rows.operator; book = served.host.book }; moments = moments; failed = served.failed; stale = served.stale }) agrees.moments
    ∙ ap (λ (failed : ℕ). record { host = record { operator = kept.host.rows.operator; book = served.host.book }; moments = kept.moments; failed = failed; stale = served.stale }) agrees.failed
    ∙ ap (λ (stale : Option Book). record { host = record { operator = kept.host.rows.operator; book = served.host.book }; moments = kept.moments; failed = kept.failed; stale = stale }) (is_none served.stale (agrees.stale ∙ fresh))

abbrev pub the_kept : {K : Type 0} → (K → ℕ) → Option Moments → Housed → K → Kept K
the_kept faults moments host keeper = record { host = host; moments = moments; failed = faults keeper; keeper = keeper }

-- ---- one thing leads to another

module _ (K : Type 0) (tells serves : K → Type 0) (holds passes : K → Map → Type 0) where
  pub leads_same : (kept : Kept K) (how : Served → Served → Type 0) → ((served : Served) → how served served) → Leads tells serves holds passes kept kept how
  leads_same kept how each = record {
    by_rows = λ served stands. (served, stands, each served);
    by_stops = λ tell served stands. (served, stands, each served);
    by_records = λ tell serve served stands. (served, stands, each served);
    reread = refl;
    told = λ tell. tell;
    served = λ tell serve. serve;
  }

  pub leads_on : (old new : Kept K) (how follows : Served → Served → Type 0) → ((served behind : Served) → how served behind → follows served behind)
      → Leads tells serves holds passes old new how → Leads tells serves holds passes old new follows
  leads_on old new how follows on leads = record {
    by_rows = λ served stands. let led = leads.by_rows served stands in (led.0, led.1, on served led.0 led.2);
    by_stops = λ tell served stands. let led = leads.by_stops tell served stands in (led.0, led.1, on served led.0 led.2);
    by_records = λ tell serve served stands. let led = leads.by_records tell serve served stands in (led.0, led.1, on served led.0 led.2);
    reread = leads.reread;
    told = leads.told;
    served = leads.served;
  }

  -- what is asked is judged
  pub asked_leads : (old new : Kept K) (asking : Asking) (caller : Caller) (request : Request) (reply : Reply) → asking ≡ Ok (caller, request) → IsRequest request
      → Leads tells serves holds passes old new (λ served behind. Judges served caller request reply behind)
      → Leads tells serves holds passes old new (λ served behind. RepliesAs asking served reply behind)
  asked_leads old new asking caller request reply is can =
      leads_on old new _ _ (λ served behind judged. subst (λ (a : Asking). RepliesAs a served reply behind) (sym is) (inr judged, inr can))

-- a host that is not stale is ready as it is
pub kept_is : (K : Type 0) (faults : K → ℕ) (moments : Option Moments) (one other : Housed) (first second : K) → one ≡ other → first ≡ second
    → the_kept faults moments one first ≡ the_kept faults moments other second
kept_is K faults moments one other first second same kept =
    ap (λ (h : Housed). the_kept faults moments h first) same ∙ ap (λ (k : K). the_kept faults moments other k) kept

pub is_stale : (stale : Bool) → (stale ≡ false → ⊥) → stale ≡ true
is_stale true never = refl
is_stale false never = absurd (never refl)
