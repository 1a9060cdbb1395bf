use Rattle.scoring.proofs.Standers.{stand_once, played_stand}
use Rattle.scoring.proofs.eleven.final_eleven.Goals as goal

pub returns-clause-once : goal.returns-clause-once
returns-clause-once c = stand_once c.args.team.now c.args.figures.now c.substituted.result.slots c.substituted.ensures.substituted

pub returns-clause-played : goal.returns-clause-played
returns-clause-played c = played_stand c.args.team.now c.args.figures.now c.substituted.result.slots c.substituted.ensures.substituted
