use Rattle.std.proofs.Common.{◌∙◌, Ok, ap, subst, sym}
use Rattle.fpl_http.specs.Seen.{request_seen}
use Rattle.fpl_http.specs.Replies.{answer_in}
use Rattle.request_handler.specs.Handlers.{CanFollow, asking_in}
use Rattle.request_handler.specs.Kept.{asked_in}
use Rattle.request_handler.specs.Looks.{Counted}
use Rattle.request_handler.proofs.KeptLemmas.{asked_leads}
use Rattle.request_handler.proofs.LookLemmas.{counts_none, counts_on}
use Rattle.request_handler.proofs.handler.answered.Goals as goal

pub returns-in-By-clause-answered : goal.returns-in-By-clause-answered
returns-in-By-clause-answered g c =
    asked_leads _ g.K.Keeper.tells g.K.Keeper.serves g.K.Keeper.holds g.K.Keeper.passes _ _
    (asked_in c.args.host.now.host.rows (request_seen c.args.message.now) c.args.route c.args.ids.now) c.in-By.caller c.in-By.request (answer_in c.judged.result)
    (sym c.in_ok-reply.ensures.same ∙ ap asking_in c.in-By.is) (subst CanFollow c.in-By.is c.in_ok-reply.ensures.follows) c.judged.ensures.judged

pub returns-in-By-clause-counts : goal.returns-in-By-clause-counts
returns-in-By-clause-counts g c =
    let old : Counted _ = record {
      kept = record { host = c.args.host.now.host; moments = g.C.Clock.left c.args.clock.now; failed = g.K.Keeper.faults c.args.keeper.now; keeper = c.args.keeper.now };
      reads = c.args.steps.now;
    } in
    let new : Counted _ = record {
      kept = record { host = c.judged.new.host; moments = g.C.Clock.left c.judged.new.clock; failed = g.K.Keeper.faults c.judged.new.keeper; keeper = c.judged.new.keeper };
      reads = c.judged.new.steps;
    } in
    counts_on _ (asked_in c.args.host.now.host.rows (request_seen c.args.message.now) c.args.route c.args.ids.now) (Ok (c.in-By.caller, c.in-By.request)) old new
    (sym c.in_ok-reply.ensures.same ∙ ap asking_in c.in-By.is) c.judged.ensures.counts

pub returns-in-Refused-clause-counts : goal.returns-in-Refused-clause-counts
returns-in-Refused-clause-counts g c =
    counts_none _ (asked_in c.args.host.now.host.rows (request_seen c.args.message.now) c.args.route c.args.ids.now)
    (record {
      kept = record { host = c.args.host.now.host; moments = g.C.Clock.left c.args.clock.now; failed = g.K.Keeper.faults c.args.keeper.now; keeper = c.args.keeper.now };
      reads = c.args.steps.now;
    })

pub returns-in_err-reply-clause-counts : goal.returns-in_err-reply-clause-counts
returns-in_err-reply-clause-counts g c =
    counts_none _ (asked_in c.args.host.now.host.rows (request_seen c.args.message.now) c.args.route c.args.ids.now)
    (record {
      kept = record { host = c.args.host.now.host; moments = g.C.Clock.left c.args.clock.now; failed = g.K.Keeper.faults c.args.keeper.now; keeper = c.args.keeper.now };
      reads = c.args.steps.now;
    })
