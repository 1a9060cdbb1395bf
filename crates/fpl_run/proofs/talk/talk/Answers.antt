use Rattle.request_handler.specs.Looks.{Counted}
use Rattle.fpl_run.proofs.talk.talk.Goals as goal

pub returns-clause-leads : goal.returns-clause-leads
returns-clause-leads g c =
    let first : Counted _ = record {
      kept = record { host = c.args.host.now.host; moments = g.C.Clock.left c.args.clock.now; failed = g.K.Keeper.faults c.args.keeper.now; keeper = c.args.keeper.now };
      reads = c.args.steps.now;
    } in
    let last : Counted _ = record {
      kept = record { host = c.session.new.host.host; moments = g.C.Clock.left c.session.new.clock; failed = g.K.Keeper.faults c.session.new.keeper; keeper = c.session.new.keeper };
      reads = c.session.new.steps;
    } in
    c.talks_lead.ensures.leads first last _ _ _ _ _ c.session.ensures.session

pub returns-clause-counts : goal.returns-clause-counts
returns-clause-counts g c =
    let first : Counted _ = record {
      kept = record { host = c.args.host.now.host; moments = g.C.Clock.left c.args.clock.now; failed = g.K.Keeper.faults c.args.keeper.now; keeper = c.args.keeper.now };
      reads = c.args.steps.now;
    } in
    let last : Counted _ = record {
      kept = record { host = c.session.new.host.host; moments = g.C.Clock.left c.session.new.clock; failed = g.K.Keeper.faults c.session.new.keeper; keeper = c.session.new.keeper };
      reads = c.session.new.steps;
    } in
    c.talks_count.ensures.counts first last _ _ _ _ _ c.session.ensures.session

pub returns-clause-reads : goal.returns-clause-reads
returns-clause-reads g c =
    let first : Counted _ = record {
      kept = record { host = c.args.host.now.host; moments = g.C.Clock.left c.args.clock.now; failed = g.K.Keeper.faults c.args.keeper.now; keeper = c.args.keeper.now };
      reads = c.args.steps.now;
    } in
    let last : Counted _ = record {
      kept = record { host = c.session.new.host.host; moments = g.C.Clock.left c.session.new.clock; failed = g.K.Keeper.faults c.session.new.keeper; keeper = c.session.new.keeper };
      reads = c.session.new.steps;
    } in
    c.talks_count.ensures.reads first last _ _ _ _ _
    (c.talks_count.ensures.counts first last _ _ _ _ _ c.session.ensures.session)
