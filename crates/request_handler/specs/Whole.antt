-- No reply says that a record is not lawful, over a keeper that tells and serves.
use Rattle.std.specs.Prelude.{◌≡◌, ◌≢◌, ◌⊎◌, ℕ, List, Option, Ok, Err, IfSome}
use Rattle.season_book.specs.Hosts.{IsRequest}
use Rattle.season_opening.specs.Opening.{IsKeepable}
use Rattle.lawful_books.specs.Books.{IsLawful}
use Rattle.fpl_http.specs.Stream.{Request}
use Rattle.fpl_http.specs.Replies.{Speaks}
use Rattle.fpl_http.specs.Runs.{Run}
use Rattle.fpl_http.specs.Sessions.{SessionOf, SessionOver}
use Rattle.fpl_http.specs.Splits.{Both}
use Rattle.fpl_http.specs.declared.ending.Ending.{Ending}
use Rattle.request_handler.specs.Replying.{Asking, IsAsked, IsReply, Reply, Served}

-- what is asked of the host is a request that can be made
abbrev pub CanBeJudged : Asking → Type 0
CanBeJudged (Ok (caller, request)) = IsRequest request
CanBeJudged (Err refusal) = ⊥

-- Of the book behind a message there are rows and records. The host is as it was before, or the message asked of it
-- something that can be asked.
pub record IsKept (old : Served) (message : Request) (reply : Reply) (new : Served) : Type 0 where
  pub keepable : IsKeepable new.host.book
  pub asks : (new.host ≡ old.host) ⊎ ((asking : Asking) × IsAsked old.host message asking × CanBeJudged asking)

-- a message may get this reply over a keeper that tells and serves
abbrev pub IsKeptReply : Served → Request → Reply → Served → Type 0
IsKeptReply = Both IsReply IsKept

-- no reply names a record that is not lawful
abbrev pub IsUndamaged : Served → Request → Reply → Served → Type 0
IsUndamaged old message reply new = reply.0 ≢ 500

-- a message may get this reply from a host with a lawful book
abbrev pub IsWholeReply : Served → Request → Reply → Served → Type 0
IsWholeReply = Both IsReply IsUndamaged

-- the book that is served is lawful, and there are rows and records of it
pub record IsWhole (served : Served) : Type 0 where
  pub keepable : IsKeepable served.host.book
  pub lawful : IsLawful served.host.book

-- behind a reply over such a book is such a book again, and the reply is not 500
abbrev pub RepliesAreWhole : Type 0
RepliesAreWhole = (old new : Served) (message : Request) (reply : Reply)
    → IsWhole old → IsKeptReply old message reply new → IsWholeReply old message reply new × IsWhole new

-- so in every run of messages
abbrev pub RunsAreWhole : Type 0
RunsAreWhole = (old new : Served) (messages : List Request) (texts : List (List ℕ))
    → IsWhole old → Run (Speaks IsKeptReply) old messages texts new → Run (Speaks IsWholeReply) old messages texts new × IsWhole new

-- and in every session: by the bytes that were taken of the input, and by all that it had
abbrev pub SessionsAreWhole : Type 0
SessionsAreWhole = (left now : Option (List ℕ)) (old new : Served) (before after : Option (List ℕ)) (ending : Ending)
    → IsWhole old → SessionOf (Speaks IsKeptReply) left now old new before after ending
    → SessionOf (Speaks IsWholeReply) left now old new before after ending
    × IfSome left (λ all. SessionOver (Speaks IsWholeReply) all old new before after ending) × IsWhole new
