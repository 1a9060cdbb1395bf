use Rattle.httparse.specs.Spans.{span_bytes}
use Rattle.fpl_http.proofs.FieldsLemmas.{once_more, twice_more}
use Rattle.fpl_http.proofs.fields.one_more.Goals as goal

pub returns-in-Once-clause-shows : goal.returns-in-Once-clause-shows
returns-in-Once-clause-shows c buf vs shows = once_more buf c.in-Once.field-0 vs (span_bytes buf c.args.value) (rw c.in-Once.is at shows)

pub returns-in-Twice-clause-shows : goal.returns-in-Twice-clause-shows
returns-in-Twice-clause-shows c buf vs shows = twice_more vs (span_bytes buf c.args.value) (rw c.in-Twice.is at shows)
