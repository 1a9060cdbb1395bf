use Rattle.std.proofs.Common.{List, Option, inl, inr, refl}
use Rattle.fpl_http.specs.Stream.{Request}
use Rattle.request_handler.specs.Looks.{Counted}
use Rattle.fpl_run.specs.Looking.{LooksReadFew}
use Rattle.fpl_run.specs.Serve.{DoorState, HearOn, ServesOn, in_turn}
use Rattle.request_handler.specs.Replying.{IsReplyUntil, Served}
use Rattle.request_handler.specs.Whole.{IsKeptReply}
use Rattle.fpl_run.proofs.CourseLemmas.{runs_of}
use Rattle.fpl_run.proofs.LookingLemmas.{leads_looked}
use Rattle.fpl_run.proofs.ReadingLemmas.{counts_from, heard_few}
use Rattle.fpl_run.proofs.serve.serve.Goals as goal

pub returns-in-Ok-clause-served : goal.returns-in-Ok-clause-served
returns-in-Ok-clause-served g c =
    let served = c.serve_all.new in
    let before : DoorState = record { coming = g.D.Doors.coming c.args.doors.now; given_back = g.D.Doors.given_back c.args.doors.now; faults = g.D.Doors.faults c.args.doors.now } in
    let after : DoorState = record { coming = g.D.Doors.coming served.doors; given_back = g.D.Doors.given_back served.doors; faults = g.D.Doors.faults served.doors } in
    let first : Counted _ = record {
      kept = record { host = c.in-Ok.host.host; moments = g.C.Clock.left c.args.clock.now; failed = g.K.Keeper.faults c.opened.new.keeper; keeper = c.opened.new.keeper };
      reads = c.args.steps.now;
    } in
    let last : Counted _ = record {
      kept = record { host = served.host.host; moments = g.C.Clock.left served.clock; failed = g.K.Keeper.faults served.keeper; keeper = served.keeper };
      reads = served.steps;
    } in
    let (heard, hears, texts, run) = c.serve_all.ensures.counts in
    let also : Option Served → Option Served → Type 0 = λ a b. (all : List (List Request)) × HearOn c.args.connections before after all × LooksReadFew (in_turn all) first.reads last.reads a b in
    inl (
      runs_of _ g.K.Keeper.tells g.K.Keeper.serves g.K.Keeper.holds g.K.Keeper.passes c.args.keeper.now first.kept last.kept c.args.key.now (g.K.Keeper.faults c.args.keeper.now)
          c.in-Ok.ensures.opened c.in-Ok.ensures.operator c.in-Ok.ensures.reread (c.in-Ok.ensures.counts (λ is. cc))
          (λ a b. ServesOn IsReplyUntil c.args.connections before after c.serve_all.result a b × also a b) (ServesOn IsKeptReply c.args.connections before after c.serve_all.result)
          (leads_looked _ first last (in_turn heard) (c.looks_read_few.ensures first last (in_turn heard) texts run) g.K.Keeper.tells g.K.Keeper.serves g.K.Keeper.holds g.K.Keeper.passes
          (ServesOn IsReplyUntil c.args.connections before after c.serve_all.result) (ServesOn IsKeptReply c.args.connections before after c.serve_all.result) also
          (λ a b looks. (heard, hears, looks)) c.serve_all.ensures.served),
      refl,
    )

pub returns-in-Err-clause-served : goal.returns-in-Err-clause-served
returns-in-Err-clause-served g c = inr (refl, refl, (c.in-Err.fault, c.in-Err.ensures.opened, c.in-Err.ensures.holds, c.unopened.ensures.told))

pub returns-in-Ok-clause-reads : goal.returns-in-Ok-clause-reads
returns-in-Ok-clause-reads g c =
    let served = c.serve_all.new in
    let before : DoorState = record { coming = g.D.Doors.coming c.args.doors.now; given_back = g.D.Doors.given_back c.args.doors.now; faults = g.D.Doors.faults c.args.doors.now } in
    let after : DoorState = record { coming = g.D.Doors.coming served.doors; given_back = g.D.Doors.given_back served.doors; faults = g.D.Doors.faults served.doors } in
    let first : Counted _ = record {
      kept = record { host = c.in-Ok.host.host; moments = g.C.Clock.left c.args.clock.now; failed = g.K.Keeper.faults c.opened.new.keeper; keeper = c.opened.new.keeper };
      reads = c.args.steps.now;
    } in
    let last : Counted _ = record {
      kept = record { host = served.host.host; moments = g.C.Clock.left served.clock; failed = g.K.Keeper.faults served.keeper; keeper = served.keeper };
      reads = served.steps;
    } in
    inl (
    counts_from _ g.K.Keeper.tells g.K.Keeper.holds g.K.Keeper.passes c.args.keeper.now first last c.args.key.now _
    c.in-Ok.ensures.opened c.in-Ok.ensures.operator c.serve_all.ensures.served.told
    (heard_few _ c.looks_read_few.ensures c.args.connections before after first last c.in-Ok.ensures.opened.fresh c.serve_all.ensures.counts)
    )

pub returns-in-Err-clause-reads : goal.returns-in-Err-clause-reads
returns-in-Err-clause-reads g c = inr refl
