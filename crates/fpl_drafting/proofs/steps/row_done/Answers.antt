use Rattle.fpl_drafting.proofs.StepLemmas.{refused_as}
use Rattle.fpl_drafting.proofs.steps.row_done.Goals as goal

pub returns-in-Err-clause-done : goal.returns-in-Err-clause-done
returns-in-Err-clause-done g c =
    refused_as c.args.number c.args.row.now c.args.position c.args.draft c.in-Err.why c.ended.result (g.W.Sink.taken c.args.output.now) (g.W.Sink.taken c.ended.new.output)
    c.in-Err.ensures.judged c.ended.ensures.stops
