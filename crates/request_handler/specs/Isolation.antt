-- No reply hangs on what another manager did in an open gameweek.
use Rattle.std.specs.Prelude.{◌≡◌, ◌≢◌, ℕ, Option, Some, Ok}
use Rattle.fpl_base.specs.declared.kinds.Caller.{Caller}
use Rattle.fpl_base.specs.Moments.{Moments, Tells}
use Rattle.season_book.specs.Hosts.{keys_of}
use Rattle.season_book.specs.declared.request.Request.{Request as Asked}
use Rattle.season_book.specs.Agree.{Agree}
use Rattle.season_book.specs.Isolation.{SameUseOf}
use Rattle.fpl_http.specs.Stream.{Request}
use Rattle.request_handler.specs.Replying.{IsAsked, IsReply, Reply, Served, caller_of}

-- two hosts are the same to whom a message comes from: the operator's key, the entries' keys and the moments to come are
-- the same, and where it shows somebody's key the books are the same to him at the moment that may be told next. They also say
-- the same of what it asks of all entries: whether one has had the player to whom it gives another position. Either may be
-- stale
pub record AreAlike (message : Request) (one other : Served) : Type 0 where
  pub operator : one.host.operator ≡ other.host.operator
  pub keys : keys_of one.host.book.entries ≡ keys_of other.host.book.entries
  pub moments : one.moments ≡ other.moments
  pub books : (caller : Caller) (now : ℕ) (left : Option Moments) → caller_of one.host message.key ≡ Some caller
      → Tells one.moments now left → Agree caller now one.host.book other.host.book
  pub uses : (caller : Caller) (asked : Asked) → IsAsked one.host message (Ok (caller, asked)) → SameUseOf asked one.host.book other.host.book

-- every reply to a message, but want of memory, a keeper that failed and a record of it that is not lawful, may be given by
-- every host that is the same to whom the message comes from
abbrev pub MessagesAreIsolated : Type 0
MessagesAreIsolated = (old new other : Served) (message : Request) (reply : Reply)
    → AreAlike message old other → reply.0 ≢ 507 → reply.0 ≢ 503 → reply.0 ≢ 500 → IsReply old message reply new
    → (left : Served) × IsReply other message reply left
