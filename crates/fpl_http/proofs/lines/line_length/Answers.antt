use Rattle.std.proofs.Common.{arith}
use Rattle.std.proofs.lemmas.Bool.{false_from_ne_true}
use Rattle.fpl_http.proofs.LinesLemmas.{line_counted, line_ends, no_line}
use Rattle.fpl_http.proofs.lines.line_length.Goals as goal

pub returns-in-Some-clause-ends : goal.returns-in-Some-clause-ends
returns-in-Some-clause-ends c =
    let (first, there) = c.in-Some.ensures in
    line_ends c.args.bytes.now c.in-Some.place (λ j lt. false_from_ne_true _ (first.before j (omega arith) lt)) first.high there

pub returns-in-Some-clause-counted : goal.returns-in-Some-clause-counted
returns-in-Some-clause-counted c =
    let (first, there) = c.in-Some.ensures in
    line_counted c.args.bytes.now c.in-Some.place (λ j lt. false_from_ne_true _ (first.before j (omega arith) lt)) first.high there

pub returns-in-None-clause-none : goal.returns-in-None-clause-none
returns-in-None-clause-none c = no_line c.args.bytes.now (λ j lt. false_from_ne_true _ (c.in-None.ensures j (omega arith) lt))
