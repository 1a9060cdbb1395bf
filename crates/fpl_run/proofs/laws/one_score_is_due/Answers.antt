use Rattle.fpl_run.proofs.RunLemmas.{one_due}
use Rattle.fpl_run.proofs.laws.one_score_is_due.Goals as goal

pub returns : goal.returns
returns c = one_due c.input_scores_once.ensures.text c.input_scores_once.ensures.apart c.input_scores_once.ensures.wrong
