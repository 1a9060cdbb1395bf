use Rattle.std.proofs.Common.{arith, ap, length}
use Rattle.fpl_http.proofs.ResponsesLemmas.{phrase_short}
use Rattle.fpl_http.proofs.responses.put_phrase.Goals as goal

pub put-requires : goal.put-requires
put-requires c = omega (arith, c.requires.room, phrase_short c.args.status, ap length c.as_bytes.ensures.value, ap length c.phrase_of.ensures)

pub returns-clause-len : goal.returns-clause-len
returns-clause-len c = omega (arith, c.put.ensures.len, phrase_short c.args.status, ap length c.as_bytes.ensures.value, ap length c.phrase_of.ensures)
