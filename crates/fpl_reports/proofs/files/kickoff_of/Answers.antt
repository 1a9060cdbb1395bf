use Rattle.std.proofs.Common.{◌≡◌, ◌≤◌, arith}
use Rattle.fpl_reports.proofs.FieldFacts.{some_same, none_some}
use Rattle.fpl_reports.proofs.files.kickoff_of.Goals as goal

pub returns-then-get-lt-BEFORE_KICKOFF : goal.returns-then-get-lt-BEFORE_KICKOFF
returns-then-get-lt-BEFORE_KICKOFF c = λ t is.
    let instant = is.0 in
    let late : 5400 ≤ t = is.1 in
    let same : c.in-Some.kickoff ≡ t = some_same ((c.in-Some.ensures t).1 instant) in
    omega arith

pub returns-in-None : goal.returns-in-None
returns-in-None c = λ t is. none_some ((c.in-None.ensures t).1 is.0)
