use Rattle.std.proofs.Common.{refl}
use Rattle.local_requests.proofs.AskingLemmas.{heard_leads}
use Rattle.local_requests.proofs.asking.ask_at.Goals as goal

pub returns-clause-heard : goal.returns-clause-heard
returns-clause-heard g c = λ moments.
    heard_leads _ g.K.Keeper.tells g.K.Keeper.serves g.K.Keeper.holds g.K.Keeper.passes
    (record { host = c.args.host.now; moments = moments; failed = g.K.Keeper.faults c.args.keeper.now; keeper = c.args.keeper.now })
    (record { host = c.answer.new.self; moments = moments; failed = g.K.Keeper.faults c.answer.new.keeper; keeper = c.answer.new.keeper })
    c.args.caller c.args.now c.args.request.now c.answer.result
    c.requires.fresh refl c.answer.ensures.operator c.answer.ensures.stale c.answer.ensures.keeper c.answer.ensures.changes c.answer.ensures.caused c.answer.ensures.late c.answer.ensures.stops
    c.answer.ensures.reread c.answer.ensures.later.1 c.answer.ensures.later.2 c.answer.ensures.answered
