use Rattle.std.proofs.Common.{subst}
use Rattle.rule_book.specs.Refusals.{IsJudged}
use Rattle.season_entries.proofs.Keyed.{key_same}
use Rattle.season_entries.proofs.keys.judge_key.Goals as goal

pub returns-clause-books : goal.returns-clause-books
returns-clause-books c players entries stand = subst (λ broken. IsJudged broken c.judge_by_keys.result)
    (key_same c.args.operator.now c.args.key.now players c.args.managers.now.managers entries stand) c.judge_by_keys.ensures.rows
