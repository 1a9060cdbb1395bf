use Rattle.std.proofs.Common.{◌≤◌, ◌+◌, subst, sym}
use Rattle.season_running.proofs.HostFacts.{begun_here, refused_here}
use Rattle.season_host.proofs.Counted.{acts_of, lines_here}
use Rattle.season_host.proofs.house.House.accept.Goals as goal

pub returns-in-Ok-clause-accepted : goal.returns-in-Ok-clause-accepted
returns-in-Ok-clause-accepted g c =
    begun_here c.self.inside.operator c.self.inside.lasts c.args.caller.now c.args.now c.args.number c.args.command.now
    c.args.self.now c.self.inside.running c.in-Ok.begun.running c.begin.new.lasts c.self.view_is c.in-None.is (c.in-Ok.ensures.begun c.args.now)

pub returns-in-Err-clause-accepted : goal.returns-in-Err-clause-accepted
returns-in-Err-clause-accepted g c =
    refused_here c.self.inside.operator c.self.inside.lasts c.args.caller.now c.args.now c.args.number c.args.command.now
    c.args.self.now c.self.inside.running c.begin.new.lasts c.in-Err.refused c.self.view_is c.in-None.is (c.in-Err.ensures.begun c.args.now)

pub returns-in-Some-clause-counted : goal.returns-in-Some-clause-counted
returns-in-Some-clause-counted g c =
    subst (λ lines. c.accept.new.steps ≤ c.args.steps.now + lines + 1)
    (sym (lines_here c.self.inside.operator c.self.inside.lasts c.args.self.now c.self.inside.running c.in-Some.running c.args.command.now c.self.view_is c.in-Some.is))
    c.accept.ensures.counted

pub returns-in-Some-clause-acts : goal.returns-in-Some-clause-acts
returns-in-Some-clause-acts g c = acts_of c.in-Some.running c.accept.new.running c.accept.result c.accept.ensures.change
