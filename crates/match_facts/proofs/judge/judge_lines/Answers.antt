use Rattle.std.proofs.lemmas.Result.{err_from_is_err_and}
use Rattle.match_facts.proofs.Repeats.{first_wrong}
use Rattle.match_facts.proofs.judge.judge_lines.Goals as goal

pub returns-in_err-line_ok : goal.returns-in_err-line_ok
returns-in_err-line_ok c =
    let p = err_from_is_err_and c.from_residual.result c.from_residual.ensures.1 in
    rw (p.1, p.2) (first_wrong c.args.lines.now c.loop-line.line-index c.line-item.result c.in_err-line_ok.field-0.0 c.loop-line.invariant c.loop-line-test.true c.line-item.is c.in_err-line_ok.ensures.judged)
