-- Over a lawful book no reply is 500, and a lawful book is left.
use Rattle.std.proofs.Common.{◌≡◌, ◌≢◌, ◌∙◌, ◌⊎◌, ◌<◌, ◌+◌, ℕ, Bool, true, false, List, [], ◌∷◌, Option, Some, None, length, if◌then◌else◌, arith, refl, sym, ap, subst, inl, inr}
use Rattle.std.specs.Prelude.{Result, Ok, Err, position}
use Rattle.std.specs.Option.{option_map}
use Rattle.std.specs.Str.{bytes_eq}
use Rattle.std.proofs.lemmas.List.Quantifiers.{position-Some}
use Rattle.std.proofs.lemmas.Option.{none-some, same_Some}
use Rattle.fpl_base.specs.Texts.{is_key}
use Rattle.fpl_base.specs.declared.kinds.Caller.{Caller}
use Rattle.fpl_base.specs.declared.kinds.Caller.TheVariants.{Operator, Entry}
use Rattle.season_book.specs.Book.{Book, EntryFacts}
use Rattle.season_book.specs.Hosts.{HostState, IsRequest, caller_with, entry_with, keys_of}
use Rattle.season_book.specs.Runs.{Asked as Judged}
use Rattle.season_book.specs.Verdict.{MayAnswer, pass}
use Rattle.season_book.specs.declared.answer.Answer.{Answer}
use Rattle.season_book.specs.declared.answer.Answer.TheVariants as answer
use Rattle.season_book.specs.declared.request.Request.{Request as Asked}
use Rattle.season_opening.specs.Opening.{IsKeepable}
use Rattle.lawful_books.specs.LeaguesKeeping.{IsCaller}
use Rattle.lawful_books.proofs.Numbers.{numbered_there}
use Rattle.lawful_books.specs.Books.{IsLawful, RunsKeepLaws}
use Rattle.lawful_books.specs.Judged.{LawfulBooksAreJudged}
use Rattle.fpl_answers.specs.Answers.{status_of}
use Rattle.fpl_requests.specs.Requests.{request_of}
use Rattle.fpl_requests.specs.declared.field.FieldName.{FieldName}
use Rattle.fpl_http.specs.Stream.{Request}
use Rattle.fpl_requests.specs.Callers.{is_for}
use Rattle.fpl_requests.specs.Targets.{OneFound}
use Rattle.fpl_requests.specs.declared.route.Found.{Found}
use Rattle.fpl_requests.specs.declared.route.Found.TheVariants as found
use Rattle.fpl_requests.specs.declared.route.Route.{Route}
use Rattle.request_handler.specs.Replying.{Asking, Goes, IsAsked, IsJudged, IsRebuildFault, RepliesAlong, RepliesTo, Reply, Served, Way, asked_along, asked_by, caller_of, failures_in, full_reply, reply_of, shown_by, unless_malformed, way_of}
use Rattle.request_handler.specs.Whole.{CanBeJudged, IsKeptReply, IsWhole, RepliesAreWhole}
use Rattle.request_handler.proofs.IsolationFacts.{asks_along}
use Rattle.request_handler.proofs.OnceFacts.{one_asked}
use Rattle.request_handler.proofs.StorelessFacts.{storeless_status, verdicts_are_storeless}

-- who shows a key is the operator, or an entry that was issued

keys_as_many : (entries : List EntryFacts) → length (keys_of entries) ≡ length entries
keys_as_many [] = refl
keys_as_many (entry ∷ entries) = let more : length (keys_of entries) ≡ length entries = keys_as_many entries in omega arith

module _ (operator : List ℕ) (book : Book) (caller : Caller) where
  module _ (bytes : List ℕ) where
    abbrev shows : List ℕ → Bool
    shows other = bytes_eq other bytes

    by_place : (some : Option ℕ) → position shows (keys_of book.entries) ≡ some → option_map (λ place. Entry (place + 1)) some ≡ Some caller → IsCaller book caller
    by_place None at is = absurd (none-some caller is)
    by_place (Some place) at is =
        let lt : place < length (keys_of book.entries) = (position-Some shows (keys_of book.entries) place [] at).0 in
        let many : length (keys_of book.entries) ≡ length book.entries = keys_as_many book.entries in
        subst (IsCaller book) (same_Some (Entry (place + 1)) caller is) (numbered_there book.entries (place + 1) (omega arith) (omega arith))

    by_operator : (test : Bool) → (if test then Some Operator else entry_with (keys_of book.entries) bytes) ≡ Some caller → IsCaller book caller
    by_operator true is = subst (IsCaller book) (same_Some Operator caller is) tt
    by_operator false is = by_place (position shows (keys_of book.entries)) refl is

    by_key : (test : Bool) → (if test then caller_with operator (keys_of book.entries) bytes else None) ≡ Some caller → IsCaller book caller
    by_key true is = by_operator (bytes_eq operator bytes) is
    by_key false is = absurd (none-some caller is)

  is_caller : (key : Option (List ℕ)) → shown_by operator (keys_of book.entries) key ≡ Some caller → IsCaller book caller
  is_caller None is = absurd (none-some caller is)
  is_caller (Some bytes) is = by_key bytes (is_key bytes) is

-- no refusal is 500

abbrev refused_in : Asking → ℕ
refused_in (Ok asked) = 0
refused_in (Err refusal) = refusal.0

abbrev refused_on : Way → ℕ
refused_on (Ok to) = 0
refused_on (Err refusal) = refusal.0

on_its_way : (at : Found) → refused_on (way_of at) ≢ 500
on_its_way found.Unknown is = omega (arith, is)
on_its_way found.Method is = omega (arith, is)
on_its_way (found.Route route ids) is = omega (arith, is)

if_malformed : (caller : Caller) (read : Result Asked FieldName) → refused_in (unless_malformed caller read) ≢ 500
if_malformed caller (Ok request) is = omega (arith, is)
if_malformed caller (Err field) is = omega (arith, is)

if_for : (test : Bool) (asking : Asking) (refusal : Reply) → refused_in asking ≢ 500 → refusal.0 ≢ 500 → refused_in (if test then asking else Err refusal) ≢ 500
if_for true asking refusal here there = here
if_for false asking refusal here there = there

when_asked : (shown : Option Caller) (route : Route) (ids body : List ℕ) → refused_in (asked_by shown route ids body) ≢ 500
when_asked None route ids body = λ is. omega (arith, is)
when_asked (Some caller) route ids body =
    if_for (is_for route caller) (unless_malformed caller (request_of route ids body)) _ (if_malformed caller (request_of route ids body)) (λ is. omega (arith, is))

full_is : (reply : Reply) → reply ≡ full_reply → reply.0 ≢ 500
full_is reply full is = let own : reply.0 ≡ 507 = ap (λ (r : Reply). r.0) full in omega (arith, is)

is_refused : (reply refusal : Reply) → reply ≡ refusal → refusal.0 ≢ 500 → reply.0 ≢ 500
is_refused reply refusal same sound is = sound (sym (ap (λ (r : Reply). r.0) same) ∙ is)

-- The host made ready, in which a message asks the same.
abbrev ready_of : Served → Served
ready_of old = record old { stale = None }

module _ (runs : RunsKeepLaws) (judged : LawfulBooksAreJudged) (one : OneFound) (old new : Served) (message : Request) (reply : Reply) (whole : IsWhole old) where
  -- no reply is 500

  module _ (caller : Caller) (request : Asked) where
    by_answer : (told : Answer) (now : ℕ) → MayAnswer old.host.operator (failures_in old new) old.host.book caller now request told new.host.book → status_of told ≢ 500
    by_answer told now (inl verdict) = storeless_status told (verdicts_are_storeless old.host.operator (pass old.host.book now) caller now request (record { answer = told; book = new.host.book }) verdict)
    by_answer told now (inr (inl out, left)) = λ is. let own : status_of told ≡ 507 = ap status_of out in omega (arith, is)
    by_answer told now (inr (inr (failed, rose), left)) = λ is. let own : status_of told ≡ 503 = ap status_of failed in omega (arith, is)

    by_judged : (now : ℕ) → IsJudged old.host (failures_in old new) caller now request reply new.host.book → reply.0 ≢ 500
    by_judged now (inl (told, may, same, would)) = is_refused reply (reply_of told) same (by_answer told now may)
    by_judged now (inr (full, left)) = full_is reply full

  sound_to : (asking : Asking) → refused_in asking ≢ 500 → RepliesTo asking (ready_of old) reply new → reply.0 ≢ 500
  sound_to (Err refusal) sound (same, inl is) = is_refused reply refusal is sound
  sound_to (Err refusal) sound (same, inr full) = full_is reply full
  sound_to (Ok (caller, request)) sound (inl (same, full)) = full_is reply full
  sound_to (Ok (caller, request)) sound (inr judges) = by_judged caller request judges.now judges.judged

  sound_fault : IsRebuildFault old reply new → reply.0 ≢ 500
  sound_fault (inl full) = full_is reply full
  sound_fault (inr (inl (is, rose))) = is_refused reply (reply_of answer.Keeper) is (λ own. omega (arith, own))
  sound_fault (inr (inr (key, is, damage))) = absurd (none-some key (sym (judged old.host.book (Some key) whole.keepable whole.lawful damage)))

  sound_along : (way : Way) → Goes message way → RepliesAlong way old message reply new → reply.0 ≢ 500
  sound_along (Err refusal) (at, found, goes) (same, inl is) = is_refused reply refusal is (λ own. on_its_way at (sym (ap refused_on goes) ∙ own))
  sound_along (Err refusal) goes (same, inr full) = full_is reply full
  sound_along (Ok (route, ids)) goes (inl fails) = sound_fault fails.cause
  sound_along (Ok (route, ids)) goes (inr (ready, is, to)) =
      sound_to (asked_by (caller_of old.host message.key) route ids message.body) (when_asked (caller_of old.host message.key) route ids message.body)
      (subst (λ (s : Served). RepliesTo (asked_by (caller_of s.host message.key) route ids message.body) s reply new) is to)

  -- a lawful book is left

  same_lawful : new.host ≡ old.host → IsLawful new.host.book
  same_lawful same = subst (λ (h : HostState). IsLawful h.book) (sym same) whole.lawful

  module _ (kept : IsKeepable new.host.book) (caller : Caller) (request : Asked) (can : IsRequest request) (called : IsCaller old.host.book caller) (now : ℕ) where
    answered_lawful : (told : Answer) → MayAnswer old.host.operator (failures_in old new) old.host.book caller now request told new.host.book → IsLawful new.host.book
    answered_lawful told may =
        let asked : Judged = record { caller = caller; now = now; request = request; failures = failures_in old new } in
        runs old.host.operator old.host.book new.host.book (asked ∷ []) (told ∷ []) whole.keepable whole.lawful (new.host.book, kept, can, called, may, refl)

    judged_lawful : IsJudged old.host (failures_in old new) caller now request reply new.host.book → IsLawful new.host.book
    judged_lawful (inl (told, may, same, would)) = answered_lawful told may
    judged_lawful (inr (full, left)) = answered_lawful answer.Memory (inr (inl refl, left))

  lawful_to : (asking : Asking) (way : Way) → asking ≡ asked_along old.host message way → IsKeepable new.host.book → CanBeJudged asking
      → RepliesTo asking (ready_of old) reply new → IsLawful new.host.book
  lawful_to (Err refusal) way is kept can to = absurd can
  lawful_to (Ok (caller, request)) way is kept can (inl (same, full)) = same_lawful (ap (λ (s : Served). s.host) same)
  lawful_to (Ok (caller, request)) way is kept can (inr judges) =
      judged_lawful kept caller request can (is_caller old.host.operator old.host.book caller message.key (asks_along old.host message way caller request is))
      judges.now judges.judged

  lawful_along : (way : Way) → Goes message way → RepliesAlong way old message reply new → IsKeepable new.host.book
      → (asking : Asking) → IsAsked old.host message asking → CanBeJudged asking → IsLawful new.host.book
  lawful_along (Err refusal) goes (same, told) kept asking asks can = same_lawful (ap (λ (s : Served). s.host) same)
  lawful_along (Ok (route, ids)) goes (inl fails) kept asking asks can = same_lawful (ap (λ (s : Served). s.host) fails.stays)
  lawful_along (Ok (route, ids)) goes (inr (ready, is, to)) kept asking asks can =
      let due : Asking = asked_along old.host message (Ok (route, ids)) in
      let same : asking ≡ due = one_asked one old.host message asking due asks (Ok (route, ids), goes, refl) in
      lawful_to due (Ok (route, ids)) refl kept (subst CanBeJudged same can)
      (subst (λ (s : Served). RepliesTo (asked_along s.host message (Ok (route, ids))) s reply new) is to)

  lawful_left : IsKeptReply old message reply new → IsLawful new.host.book
  lawful_left ((way, goes, to), kept) = by kept.asks
    where
      by : (new.host ≡ old.host) ⊎ ((asking : Asking) × IsAsked old.host message asking × CanBeJudged asking) → IsLawful new.host.book
      by (inl same) = same_lawful same
      by (inr (asking, asks, can)) = lawful_along way goes to kept.keepable asking asks can

pub replies_are_whole : RunsKeepLaws → LawfulBooksAreJudged → OneFound → RepliesAreWhole
replies_are_whole runs judged one old new message reply whole ((way, goes, to), kept) = (
  ((way, goes, to), sound_along runs judged one old new message reply whole way goes to),
  record { keepable = kept.keepable; lawful = lawful_left runs judged one old new message reply whole ((way, goes, to), kept) },
)
