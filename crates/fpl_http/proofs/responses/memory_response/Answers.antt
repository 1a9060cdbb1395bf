use Rattle.std.proofs.Common.{sym}
use Rattle.fpl_http.proofs.ResponsesLemmas.{memory_closing, memory_open}
use Rattle.fpl_http.proofs.responses.memory_response.Goals as goal

pub returns-then-closing-clause-text : goal.returns-then-closing-clause-text
returns-then-closing-clause-text c = rw c.if-closing.true (sym memory_closing)

pub returns-else-closing-clause-text : goal.returns-else-closing-clause-text
returns-else-closing-clause-text c = rw c.if-closing.false (sym memory_open)
