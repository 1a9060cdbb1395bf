use Rattle.request_handler.proofs.KeptLemmas.{leads_on}
use Rattle.local_requests.proofs.AskingLemmas.{rose_behind}
use Rattle.local_requests.proofs.report.reported.Goals as goal

pub returns-clause-reported : goal.returns-clause-reported
returns-clause-reported g c =
    leads_on _ g.K.Keeper.tells g.K.Keeper.serves g.K.Keeper.holds g.K.Keeper.passes
    (record { host = c.args.host.now; moments = g.C.Clock.left c.args.clock.now; failed = g.K.Keeper.faults c.args.keeper.now; keeper = c.args.keeper.now })
    (record { host = c.ask-answer.new.host; moments = g.C.Clock.left c.ask-answer.new.clock; failed = g.K.Keeper.faults c.ask-answer.new.keeper; keeper = c.ask-answer.new.keeper })
    _ _ (λ served behind heard. (c.ask-answer.result, heard, c.report.ensures.reports)) c.ask-answer.ensures.heard

pub returns-clause-keeper : goal.returns-clause-keeper
returns-clause-keeper g c = λ is. rose_behind _ c.ask-answer.result c.ask-answer.ensures.caused (c.report.ensures.keeper is)
