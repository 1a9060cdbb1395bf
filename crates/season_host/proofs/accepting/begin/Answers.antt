use Rattle.std.proofs.Common.{refl}
use Rattle.season_book.specs.Commands.{begun_by}
use Rattle.season_book.specs.Verdict.{judged}
use Rattle.std.proofs.Common.{None}
use Rattle.season_host.proofs.Begun.{begins, begun_some, ok_of}
use Rattle.season_host.proofs.accepting.begin.Goals as goal

pub returns-in-Ok-keep-clause-begun : goal.returns-in-Ok-keep-clause-begun
returns-in-Ok-keep-clause-begun c = λ now.
    let new = begins (judged None now c.args.command.now) c.in-Ok.season c.begin-running.result (c.in-Ok.ensures.begun now) c.begin-running.ensures in
    (new.0, new.1, c.in-Ok-keep.ensures.0)

pub returns-in-Ok-keep-clause-touched : goal.returns-in-Ok-keep-clause-touched
returns-in-Ok-keep-clause-touched c = λ book.
    c.in-Ok-touched_first.ensures book (begun_some (begun_by c.args.command.now) c.in-Ok.season (c.in-Ok.ensures.begun 0))

pub returns-in-Err-keep-clause-begun : goal.returns-in-Err-keep-clause-begun
returns-in-Err-keep-clause-begun c = λ now.
    (c.in-Err-keep.ensures, ok_of (judged None now c.args.command.now) c.in-Ok.season (c.in-Ok.ensures.begun now))

pub returns-in-Err-touched_first-clause-begun : goal.returns-in-Err-touched_first-clause-begun
returns-in-Err-touched_first-clause-begun c = λ now.
    (refl, ok_of (judged None now c.args.command.now) c.in-Ok.season (c.in-Ok.ensures.begun now))

pub returns-in-Err-clause-begun : goal.returns-in-Err-clause-begun
returns-in-Err-clause-begun c = λ now. (refl, c.in-Err.ensures.begun now)
