use Rattle.fpl_http.proofs.PartsLemmas.{missing_knows, large_knows, judged_unfit, judged_fit}
use Rattle.fpl_http.proofs.head.seek_head.Goals as goal

pub returns-in-Missing : goal.returns-in-Missing
returns-in-Missing c =
    let (knows, front) = missing_knows c.args.waits.now c.in-Missing.ensures.value c.requires.stripped in
    record { knows = knows; wanting = λ n e. front }

pub returns-in-TooLarge : goal.returns-in-TooLarge
returns-in-TooLarge c = record { knows = large_knows c.args.waits.now c.in-TooLarge.ensures.value c.requires.stripped; wanting = λ n e. absurd (cc) }

pub returns-in-Unfit : goal.returns-in-Unfit
returns-in-Unfit c = record { knows = judged_unfit c.args.waits.now c.in-At.size c.in-Unfit.status c.in-At.ensures.value c.requires.stripped c.in-Unfit.ensures; wanting = λ n e. absurd (cc) }

pub returns-in-Fit : goal.returns-in-Fit
returns-in-Fit c = record { knows = judged_fit c.args.waits.now c.in-At.size c.in-Fit.parts c.in-At.ensures.value c.requires.stripped c.in-Fit.ensures; wanting = λ n e. absurd (cc) }
