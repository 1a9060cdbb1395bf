use Rattle.request_handler.proofs.JudgedLemmas.{judged_leads}
use Rattle.request_handler.proofs.LookLemmas.{judged_counts}
use Rattle.request_handler.proofs.handler.judged.Goals as goal

pub returns-clause-judged : goal.returns-clause-judged
returns-clause-judged g c =
    judged_leads _ g.K.Keeper.tells g.K.Keeper.serves g.K.Keeper.holds g.K.Keeper.passes
    (record { host = c.args.host.now; moments = g.C.Clock.left c.args.clock.now; failed = g.K.Keeper.faults c.args.keeper.now; keeper = c.args.keeper.now })
    (record { host = c.answer-answer.new.self; moments = g.C.Clock.left c.now-now.new.self; failed = g.K.Keeper.faults c.answer-answer.new.keeper; keeper = c.answer-answer.new.keeper })
    c.args.caller c.now-now.result c.args.request.now c.answer-answer.result c.replied.result
    c.requires.fresh c.now-now.ensures.told c.answer-answer.ensures.operator c.answer-answer.ensures.stale c.answer-answer.ensures.keeper c.answer-answer.ensures.changes c.answer-answer.ensures.caused c.answer-answer.ensures.later.0 c.answer-answer.ensures.stops
    c.replied.ensures.reply c.answer-answer.ensures.reread c.answer-answer.ensures.later.1 c.answer-answer.ensures.later.2 c.answer-answer.ensures.answered

pub returns-clause-counts : goal.returns-clause-counts
returns-clause-counts g c =
    judged_counts _
    (record {
      kept = record { host = c.args.host.now; moments = g.C.Clock.left c.args.clock.now; failed = g.K.Keeper.faults c.args.keeper.now; keeper = c.args.keeper.now };
      reads = c.args.steps.now;
    })
    (record {
      kept = record { host = c.answer-answer.new.self; moments = g.C.Clock.left c.now-now.new.self; failed = g.K.Keeper.faults c.answer-answer.new.keeper; keeper = c.answer-answer.new.keeper };
      reads = c.answer-answer.new.steps;
    })
    c.args.caller c.now-now.result c.args.request.now c.now-now.ensures.told c.answer-answer.ensures.views c.answer-answer.ensures.looks c.answer-answer.ensures.passes
