use Rattle.std.proofs.Common.{List, Option, inl, inr, refl}
use Rattle.fpl_http.specs.Stream.{Request}
use Rattle.request_handler.specs.Looks.{Counted}
use Rattle.fpl_run.specs.Looking.{LooksReadFew}
use Rattle.fpl_run.specs.Pipe.{AreHeard, IsSession}
use Rattle.request_handler.specs.Replying.{IsReplyUntil, Served}
use Rattle.request_handler.specs.Whole.{IsKeptReply}
use Rattle.fpl_run.proofs.CourseLemmas.{runs_of}
use Rattle.fpl_run.proofs.LookingLemmas.{leads_looked}
use Rattle.fpl_run.proofs.PipeLemmas.{unopened_pipes}
use Rattle.fpl_run.proofs.ReadingLemmas.{counts_from, few_from}
use Rattle.fpl_run.proofs.pipe.pipe.Goals as goal

pub returns-in-Ok-clause-session : goal.returns-in-Ok-clause-session
returns-in-Ok-clause-session g c =
    let left = g.S.Source.left c.args.input.now in
    let now = g.S.Source.left c.talk.new.source in
    let before = g.W.Sink.taken c.args.output.now in
    let after = g.W.Sink.taken c.talk.new.sink in
    let ending = c.talk.result in
    let first : Counted _ = record {
      kept = record { host = c.in-Ok.host.host; moments = g.C.Clock.left c.args.clock.now; failed = g.K.Keeper.faults c.opened.new.keeper; keeper = c.opened.new.keeper };
      reads = c.args.steps.now;
    } in
    let last : Counted _ = record {
      kept = record { host = c.talk.new.host.host; moments = g.C.Clock.left c.talk.new.clock; failed = g.K.Keeper.faults c.talk.new.keeper; keeper = c.talk.new.keeper };
      reads = c.talk.new.steps;
    } in
    let told = c.talk.ensures.reads in
    let also : Option Served → Option Served → Type 0 = λ a b. (messages : List Request) × AreHeard left now messages × LooksReadFew messages first.reads last.reads a b in
    inl (record {
      ending = ending;
      is_status = c.ended.ensures.status;
      exact = c.talk.ensures.exact;
      runs = runs_of _ g.K.Keeper.tells g.K.Keeper.serves g.K.Keeper.holds g.K.Keeper.passes c.args.keeper.now first.kept last.kept c.args.key.now (g.K.Keeper.faults c.args.keeper.now)
          c.in-Ok.ensures.opened c.in-Ok.ensures.operator c.in-Ok.ensures.reread (c.in-Ok.ensures.counts (λ is. cc))
          (λ a b. IsSession IsReplyUntil left now before after ending a b × also a b) (IsSession IsKeptReply left now before after ending)
          (leads_looked _ first last told.2.0 told.2.2 g.K.Keeper.tells g.K.Keeper.serves g.K.Keeper.holds g.K.Keeper.passes
          (IsSession IsReplyUntil left now before after ending) (IsSession IsKeptReply left now before after ending) also
          (λ a b looks. (told.2.0, (told.0, told.1, told.2.1), looks)) c.talk.ensures.leads);
    })

pub returns-in-Err-clause-session : goal.returns-in-Err-clause-session
returns-in-Err-clause-session g c =
    unopened_pipes _ g.K.Keeper.tells g.K.Keeper.serves g.K.Keeper.holds g.K.Keeper.passes g.K.Keeper.faults c.args.keeper.now c.opened.new.keeper c.args.key.now (g.S.Source.left c.args.input.now) (g.C.Clock.left c.args.clock.now)
    (g.W.Sink.taken c.args.output.now) (g.W.Sink.taken c.unopened.new.output) c.unopened.result c.args.steps.now c.in-Err.fault c.in-Err.ensures.opened c.in-Err.ensures.holds c.unopened.ensures.told

pub returns-in-Ok-clause-reads : goal.returns-in-Ok-clause-reads
returns-in-Ok-clause-reads g c =
    let first : Counted _ = record {
      kept = record { host = c.in-Ok.host.host; moments = g.C.Clock.left c.args.clock.now; failed = g.K.Keeper.faults c.opened.new.keeper; keeper = c.opened.new.keeper };
      reads = c.args.steps.now;
    } in
    let last : Counted _ = record {
      kept = record { host = c.talk.new.host.host; moments = g.C.Clock.left c.talk.new.clock; failed = g.K.Keeper.faults c.talk.new.keeper; keeper = c.talk.new.keeper };
      reads = c.talk.new.steps;
    } in
    let told = c.talk.ensures.reads in
    inl (
    counts_from _ g.K.Keeper.tells g.K.Keeper.holds g.K.Keeper.passes c.args.keeper.now first last c.args.key.now _
    c.in-Ok.ensures.opened c.in-Ok.ensures.operator c.talk.ensures.leads.told
    (told.2.0, (told.0, told.1, told.2.1), few_from _ told.2.0 first last c.in-Ok.ensures.opened.fresh told.2.2)
    )

pub returns-in-Err-clause-reads : goal.returns-in-Err-clause-reads
returns-in-Err-clause-reads g c = inr refl
