-- What a message was found to ask.
use Rattle.std.specs.Prelude.{◌≡◌, ◌⊎◌, Ok, Err, IsTrue}
use Rattle.fpl_http.specs.Responses.{is_answer_status}
use Rattle.fpl_http.specs.Seen.{reply_seen}
use Rattle.season_book.specs.Hosts.{IsRequest}
use Rattle.season_book.specs.declared.answer.Answer.TheVariants as answer
use Rattle.season_opening.specs.declared.loading.OpenFault.{OpenFault}
use Rattle.season_opening.specs.declared.loading.OpenFault.TheVariants as fault
use Rattle.request_handler.specs.declared.handler.Asked.{Asked}
use Rattle.request_handler.specs.declared.handler.Asked.TheVariants as asked
use Rattle.request_handler.specs.Replying.{Asking, RepliesTo, Reply, Served, reply_of}
use Rattle.request_handler.specs.Whole.{CanBeJudged}

-- who asks what, or the reply that refuses it
abbrev pub asking_in : Asked → Asking
asking_in (asked.By caller request) = Ok (caller, request)
asking_in (asked.Refused reply) = Err (reply_seen reply)

-- what is asked can be judged, and a refusal has a status of a response
abbrev pub CanFollow : Asked → Type 0
CanFollow (asked.By caller request) = IsRequest request
CanFollow (asked.Refused reply) = IsTrue (is_answer_status reply.status)

-- a message was found to ask this
pub record Asks (asking : Asking) (found : Asked) : Type 0 where
  pub same : asking_in found ≡ asking
  pub follows : CanFollow found

-- what was asked of a host that is ready was replied to; and the host is as it was before, or what was asked can be asked
abbrev pub RepliesAs : Asking → Served → Reply → Served → Type 0
RepliesAs asking old reply new = RepliesTo asking old reply new × ((new.host ≡ old.host) ⊎ CanBeJudged asking)

-- the reply where the host could not be made ready for this: a fault of the keeper, or the key of a record that is not
-- lawful; for want of memory there is none
abbrev pub IsFaultReply : OpenFault → Reply → Type 0
IsFaultReply fault.Keeper reply = reply ≡ reply_of answer.Keeper
IsFaultReply (fault.Damaged key) reply = reply ≡ reply_of (answer.Damaged key)
IsFaultReply fault.Memory reply = ⊥
