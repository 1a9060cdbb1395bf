-- What a message asks of the host, what it is answered, and what is left behind the answer.
use Rattle.std.specs.Prelude.{◌≡◌, ◌≢◌, ◌⊎◌, ◌≤◌, ℕ, List, Option, Some, None, Result, Ok, Err, codes, if◌then◌else◌, ⊤}
use Rattle.serde_json.specs.Written.{compact_text}
use Rattle.fpl_base.specs.Causes.{Rose}
use Rattle.fpl_base.specs.Keeping.{Map}
use Rattle.fpl_base.specs.declared.kinds.Caller.{Caller}
use Rattle.fpl_base.specs.declared.records.RecordKey.{RecordKey}
use Rattle.fpl_base.specs.Moments.{Moments, Tells}
use Rattle.season_book.specs.Book.{Book}
use Rattle.season_book.specs.Hosts.{HostState, keys_of, owner_of}
use Rattle.season_book.specs.Verdict.{Failures, MayAnswer, MayBeLeft}
use Rattle.season_book.specs.declared.answer.Answer.{Answer}
use Rattle.season_book.specs.declared.answer.Answer.TheVariants as answer
use Rattle.season_book.specs.declared.request.Request.{Request as Asked}
use Rattle.season_records.specs.Commits.{HoldsLeft}
use Rattle.season_records.specs.Records.{records}
use Rattle.season_opening.specs.Opening.{IsJudgedAs}
use Rattle.season_keeping.specs.Answering.{WouldChange}
use Rattle.fpl_answers.specs.Answers.{body_of, status_of}
use Rattle.fpl_requests.specs.Callers.{is_for}
use Rattle.fpl_requests.specs.FieldNames.{name_of}
use Rattle.fpl_answers.specs.MemberData.{error_data, malformed_data}
use Rattle.fpl_requests.specs.Requests.{request_of}
use Rattle.fpl_requests.specs.Targets.{IsFound}
use Rattle.fpl_requests.specs.declared.field.FieldName.{FieldName}
use Rattle.fpl_requests.specs.declared.route.Found.{Found}
use Rattle.fpl_requests.specs.declared.route.Found.TheVariants as found
use Rattle.fpl_requests.specs.declared.route.Route.{Route}
use Rattle.fpl_http.specs.Responses.{memory_text}
use Rattle.fpl_http.specs.Stream.{Request}

-- a reply: a status, and a body
abbrev pub Reply : Type 0
Reply = ℕ × List ℕ

-- a reply that says in one word what is wrong
abbrev pub error_reply : ℕ → List ℕ → Reply
error_reply status word = (status, compact_text (error_data word))

-- the reply to a body whose first wrong member is this
abbrev pub malformed_reply : FieldName → Reply
malformed_reply field = (400, compact_text (malformed_data (name_of field)))

-- the reply of an answer of the host
abbrev pub reply_of : Answer → Reply
reply_of answer = (status_of answer, body_of answer)

-- the reply where memory was wanting
abbrev pub full_reply : Reply
full_reply = (507, memory_text)

-- who asks what, or the reply that refuses a message before the host judges it
abbrev pub Asking : Type 0
Asking = Result (Caller × Asked) Reply

-- what a caller asks, unless a member of the body is wrong
abbrev pub unless_malformed : Caller → Result Asked FieldName → Asking
unless_malformed caller (Ok request) = Ok (caller, request)
unless_malformed caller (Err field) = Err (malformed_reply field)

-- the caller first: his key has to be known, and the route has to be for him; then the body
abbrev pub asked_by : Option Caller → Route → List ℕ → List ℕ → Asking
asked_by None route ids body = Err (error_reply 401 (codes "key"))
asked_by (Some caller) route ids body =
    if is_for route caller then unless_malformed caller (request_of route ids body) else Err (error_reply 403 (codes "caller"))

-- whose key a message shows, by the operator's key and those of the entries
abbrev pub shown_by : List ℕ → List (List ℕ) → Option (List ℕ) → Option Caller
shown_by operator keys None = None
shown_by operator keys (Some bytes) = owner_of operator keys bytes

-- the same by the book
abbrev pub caller_of : HostState → Option (List ℕ) → Option Caller
caller_of host key = shown_by host.operator (keys_of host.book.entries) key

-- where a message goes: by a route with its ids, or to the reply that refuses it before the host is looked at
abbrev pub Way : Type 0
Way = Result (Route × List ℕ) Reply

-- the way from what a target and a method were found to be
abbrev pub way_of : Found → Way
way_of found.Unknown = Err (error_reply 404 (codes "unknown"))
way_of found.Method = Err (error_reply 405 (codes "method"))
way_of (found.Route route ids) = Ok (route, ids)

-- a message goes this way
abbrev pub Goes : Request → Way → Type 0
Goes message way = (at : Found) × IsFound message.method message.target at × (way ≡ way_of at)

-- what a message asks of the host on its way
abbrev pub asked_along : HostState → Request → Way → Asking
asked_along host message (Err refusal) = Err refusal
asked_along host message (Ok (route, ids)) = asked_by (caller_of host message.key) route ids message.body

-- what a message asks of the host: the route comes before the caller, and the caller before the body
abbrev pub IsAsked : HostState → Request → Asking → Type 0
IsAsked host message asking = (way : Way) × Goes message way × (asking ≡ asked_along host message way)

-- what goes from message to message: the host; the moments that the clock has left, if it tells them; how often the keeper
-- has failed; and, where the host is stale, the book in which the request was asked behind which it became so
pub record Served : Type 0 where
  pub host : HostState
  pub moments : Option Moments
  pub failed : ℕ
  pub stale : Option Book

-- the host is stale, from this book on
abbrev pub IsStaleFrom : Served → Book → Type 0
IsStaleFrom served from = served.stale ≡ Some from

-- how often the keeper had failed before a message, and behind it
abbrev pub failures_in : Served → Served → Failures
failures_in old new = record { before = old.failed; behind = new.failed }

-- A host that is stale is made anew of its keeper's records, behind the route and before the key.

-- the host was made ready: it is stale no more, and all else stays
abbrev pub IsReady : Served → Served → Type 0
IsReady old ready = ready ≡ record old { stale = None }

-- why a stale host could not be made ready: memory ran out; or the keeper failed, whose count rose; or it gave a record
-- that is not lawful, whose key is answered
abbrev pub IsRebuildFault : Served → Reply → Served → Type 0
IsRebuildFault old reply new =
    (reply ≡ full_reply)
    ⊎ (((reply ≡ reply_of answer.Keeper) × Rose old.failed new.failed)
    ⊎ ((key : RecordKey) × (reply ≡ reply_of (answer.Damaged key)) × IsJudgedAs (records old.host.book) (Some key)))

-- a stale host could not be made ready. It is stale still, from the same book on, and all else stays but the keeper's
-- count, which does not fall
pub record RebuildFails (old : Served) (reply : Reply) (new : Served) : Type 0 where
  pub from : Book
  pub stale : IsStaleFrom old from
  pub cause : IsRebuildFault old reply new
  pub later : old.failed ≤ new.failed
  pub stays : new ≡ record old { failed = new.failed }

-- A host that is ready is asked.

-- the reply to a request that the host judged: that of what it may answer, and of a keeper that failed only where the
-- request would change the book; or memory was wanting, and the book is one of those that may be left then
abbrev pub IsJudged : HostState → Failures → Caller → ℕ → Asked → Reply → Book → Type 0
IsJudged host failures caller now request reply after =
    ((told : Answer) × MayAnswer host.operator failures host.book caller now request told after × (reply ≡ reply_of told)
    × (told ≡ answer.Keeper → WouldChange host.operator host.book caller now request))
    ⊎ ((reply ≡ full_reply) × MayBeLeft host.operator host.book caller now request after)

-- what is stale behind a request that was asked in a book: behind 503 the host is, from this book on; behind 507 it may
-- be; behind every other reply it is not
abbrev pub IsStaleBehind : Book → Reply → Option Book → Type 0
IsStaleBehind book reply stale =
    ((stale ≡ None) × (reply.0 ≢ 503)) ⊎ ((stale ≡ Some book) × ((reply.0 ≡ 503) ⊎ (reply.0 ≡ 507)))

-- one moment was told, the request was judged by it, and the operator's key stayed. Behind no reply has the keeper failed less
-- often than before, and behind every one but 503 and 507 just as often
pub record Judges (old : Served) (caller : Caller) (request : Asked) (reply : Reply) (new : Served) : Type 0 where
  pub now : ℕ
  pub told : Tells old.moments now new.moments
  pub judged : IsJudged old.host (failures_in old new) caller now request reply new.host.book
  pub no_fewer : old.failed ≤ new.failed
  pub counted : reply.0 ≢ 503 → reply.0 ≢ 507 → new.failed ≡ old.failed
  pub operator : new.host.operator ≡ old.host.operator
  pub stale : IsStaleBehind old.host.book reply new.stale

-- what was asked of a host that is ready is replied to: a refusal asks no moment and changes nothing, and so does want of
-- memory before the host is asked
abbrev pub RepliesTo : Asking → Served → Reply → Served → Type 0
RepliesTo (Err refusal) old reply new = (new ≡ old) × ((reply ≡ refusal) ⊎ (reply ≡ full_reply))
RepliesTo (Ok (caller, request)) old reply new = ((new ≡ old) × (reply ≡ full_reply)) ⊎ Judges old caller request reply new

-- The whole way of a message.

-- a message that goes this way is replied to: it is refused, and changes nothing; or the host could not be made ready; or it
-- was, and what the message asks of it then is replied to
abbrev pub RepliesAlong : Way → Served → Request → Reply → Served → Type 0
RepliesAlong (Err refusal) old message reply new = (new ≡ old) × ((reply ≡ refusal) ⊎ (reply ≡ full_reply))
RepliesAlong (Ok (route, ids)) old message reply new =
    RebuildFails old reply new
    ⊎ ((ready : Served) × IsReady old ready
    × RepliesTo (asked_by (caller_of ready.host message.key) route ids message.body) ready reply new)

-- a message may get this reply, and leave this behind
abbrev pub IsReply : Served → Request → Reply → Served → Type 0
IsReply old message reply new = (way : Way) × Goes message way × RepliesAlong way old message reply new

-- Where the keeper does not tell its records.

-- a message for which the host reads its keeper again: the host is stale, and the message goes by a route
abbrev pub ReadsAgain : Served → Request → Type 0
ReadsAgain old message = ((from : Book) × IsStaleFrom old from) × ((to : Route × List ℕ) × Goes message (Ok to))

-- a message may get this reply, up to the first for which the host reads its keeper again. From that one on nothing is said
abbrev pub IsReplyUntil : Option Served → Request → Reply → Option Served → Type 0
IsReplyUntil (Some old) message reply (Some new) = IsReply old message reply new
IsReplyUntil (Some old) message reply None = ReadsAgain old message
IsReplyUntil None message reply None = ⊤
IsReplyUntil None message reply (Some new) = ⊥

-- What a stop leaves.

-- the records of a book that some request may leave which is asked in this one
abbrev pub AreLeftFrom : List ℕ → Book → Map → Type 0
AreLeftFrom operator from m =
    (caller : Caller) × (now : ℕ) × (request : Asked) × HoldsLeft operator from caller now request m

-- the records that a stop may leave: those of the book; and, where the host is stale, those of one that may have been left
-- as it became so
abbrev pub IsLeftAt : Served → Map → Type 0
IsLeftAt served m =
    (m ≡ records served.host.book) ⊎ ((from : Book) × IsStaleFrom served from × AreLeftFrom served.host.operator from m)
