use Rattle.std.proofs.Common.{subst}
use Rattle.season_entries.specs.Deeds.{IsAnswered}
use Rattle.season_entries.proofs.Keyed.{rekey_same}
use Rattle.season_entries.proofs.keys.judge_rekey.Goals as goal

pub returns-clause-books : goal.returns-clause-books
returns-clause-books c players entries stand = subst (λ refused. IsAnswered refused c.judge_rekey_by_keys.result)
    (rekey_same c.args.operator.now c.args.key.now c.args.number players c.args.managers.now.managers entries stand) c.judge_rekey_by_keys.ensures.rows
