use Rattle.std.proofs.Common.{rules}
use Rattle.season_entries.proofs.Keyed.{free_key, own_key, still_broken}
use Rattle.season_entries.proofs.keys.judge_by_keys.Goals as goal

pub returns-in-Err-clause-rows : goal.returns-in-Err-clause-rows
returns-in-Err-clause-rows c = still_broken c.args.operator.now c.args.managers.now c.args.key.now c.in-Err.rule c.in-Err.ensures.judged

pub returns-then-eq-clause-rows : goal.returns-then-eq-clause-rows
returns-then-eq-clause-rows c = own_key c.args.operator.now c.args.managers.now c.args.key.now c.in-Ok.ensures.judged (search rules)

pub returns-clause-rows : goal.returns-clause-rows
returns-clause-rows c = free_key c.args.operator.now c.args.managers.now c.args.key.now c.in-Ok.ensures.judged (search rules)
