-- what a message that borrows its bytes says, and what a reply says
use Rattle.std.specs.Prelude.{ℕ, List, option_map}
use Rattle.fpl_http.specs.declared.decoder.Message.{Message}
use Rattle.fpl_http.specs.declared.responses.Reply.{Reply}
use Rattle.fpl_http.specs.Stream.{Request}

-- the bytes of its parts
abbrev pub request_seen : Message → Request
request_seen m = record {
  method = m.method.now;
  target = m.target.now;
  key = option_map (λ k. k.now) m.key;
  body = m.body.now;
  closes = m.closes;
}

-- its status and its body
abbrev pub reply_seen : Reply → ℕ × List ℕ
reply_seen reply = (reply.status, reply.body.items)
