use Rattle.std.proofs.Common.{subst}
use Rattle.file_keeper.proofs.keeper.over_shut_file.Goals as goal

pub returns : goal.returns
returns g c =
    let shut = c.shut.ensures in
    let ended = c.work_over.ensures in
    let so = subst (λ p. g.W.WithKeeper.ends c.args.work p c.shut.result.faults ended.0 c.work_over.result) shut.1 ended.1 in
    (ended.0, subst (λ n. g.W.WithKeeper.ends c.args.work c.args.path n ended.0 c.work_over.result) shut.3 so)
