use Rattle.std.proofs.Common.{arith, rules}
use Rattle.std.proofs.lemmas.Int.{ints}
use Rattle.scoring.proofs.score.team_score.Goals as goal

pub returns-clause-score : goal.returns-clause-score
returns-clause-score c = record {
  eleven = c.final_eleven-eleven.ensures.assigned;
  armband = c.wearer-armband.ensures.value;
  gross = omega (arith, ints, c.counted_points.ensures.value, c.extra_points.ensures.value);
  cost_kept = search rules;
  net = omega (arith, ints);
  goals = c.sum_of_goals.ensures;
  conceded = c.sum_of_conceded.ensures;
}

pub returns-clause-near : goal.returns-clause-near
returns-clause-near c = (omega (arith, ints), omega (arith, ints))
