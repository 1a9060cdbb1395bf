use Rattle.std.proofs.Common.{subst}
use Rattle.file_keeper.proofs.keeper.over_file_at.Goals as goal

pub returns : goal.returns
returns g c =
    let at = c.file_at.ensures.path in
    let ended = c.work_over.ensures in
    let so = subst (λ p. g.W.WithKeeper.ends c.args.work p c.file_at.result.faults ended.0 c.work_over.result) at.0 ended.1 in
    (ended.0, subst (λ n. g.W.WithKeeper.ends c.args.work c.args.path n ended.0 c.work_over.result) at.1 so)
