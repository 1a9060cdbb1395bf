use Rattle.std.proofs.Common.{◌∙◌}
use Rattle.fpl_answers.specs.LeagueData.{head_ranked_data}
use Rattle.json_members.proofs.AppendLemmas.{one_more}
use Rattle.fpl_answers.proofs.leagues.write_head_table.Goals as goal

pub loop-ranked-preserved : goal.loop-ranked-preserved
loop-ranked-preserved c = record {
  tokens = one_more head_ranked_data c.args.rows.now c.loop-ranked.ranked-index c.ranked-item.result c.loop-ranked-test.true c.ranked-item.is c.in_ok-write_head_ranked.ensures c.loop-ranked.invariant.tokens;
  before = c.in_ok-write_head_ranked.ensures.before ∙ c.loop-ranked.invariant.before;
}
