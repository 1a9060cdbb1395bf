use Rattle.std.proofs.Common.{◌<◌, ◌+◌, ◌∙◌, drop, length, ap, arith, refl}
use Rattle.std.proofs.lemmas.List.{drop_all}
use Rattle.request_handler.specs.Kept.{Kept}
use Rattle.fpl_events.proofs.SendingLemmas.{next_of, rose_from, rose_since, sending_end, sending_more, sending_start, sending_stop}
use Rattle.fpl_events.proofs.sending.send_lines.Goals as goal

pub loop-place-init : goal.loop-place-init
loop-place-init g c =
    let first : Kept _ = record { host = c.args.host.now; moments = g.C.Clock.left c.args.clock.now; failed = g.K.Keeper.faults c.args.keeper.now; keeper = c.args.keeper.now } in
    record {
      on = sending_start _ g.K.Keeper.tells g.K.Keeper.serves g.K.Keeper.holds g.K.Keeper.passes c.args.fixture c.args.events.now c.args.players.now (drop 0 c.args.players.now)
          (g.W.Sink.taken c.args.output.now) first refl;
      fresh = c.requires.fresh;
      output = refl;
      later = omega arith;
    }

pub loop-place-preserved : goal.loop-place-preserved
loop-place-preserved g c =
    let at = c.loop-place in
    let one = c.send_line.new in
    let all = c.args.players.now in
    let here : at.place < length all = c.loop-place-test.true in
    let first : Kept _ = record { host = c.args.host.now; moments = g.C.Clock.left c.args.clock.now; failed = g.K.Keeper.faults c.args.keeper.now; keeper = c.args.keeper.now } in
    let mid : Kept _ = record { host = at.host; moments = g.C.Clock.left at.clock; failed = g.K.Keeper.faults at.keeper; keeper = at.keeper } in
    let last : Kept _ = record { host = one.host; moments = g.C.Clock.left one.clock; failed = g.K.Keeper.faults one.keeper; keeper = one.keeper } in
    record {
      on = sending_more _ g.K.Keeper.tells g.K.Keeper.serves g.K.Keeper.holds g.K.Keeper.passes c.args.fixture c.args.events.now all (drop at.place all) (drop (at.place + 1) all) c.index-players-place.result
          (g.W.Sink.taken c.args.output.now) (g.W.Sink.taken at.output) (g.W.Sink.taken one.output) first mid last
          (next_of all at.place c.index-players-place.result here c.index-players-place.is) (ap g.W.Sink.taken at.invariant.output) (ap g.W.Sink.taken (c.in-Ok.ensures.output ∙ at.invariant.output)) at.invariant.on c.in-Ok.ensures.sent;
      fresh = c.in-Ok.ensures.fresh;
      output = c.in-Ok.ensures.output ∙ at.invariant.output;
      later = omega (arith, at.invariant.later, c.in-Ok.ensures.later);
    }

pub returns-in-Err-clause-sent : goal.returns-in-Err-clause-sent
returns-in-Err-clause-sent g c =
    let at = c.loop-place in
    let one = c.send_line.new in
    let all = c.args.players.now in
    let here : at.place < length all = c.loop-place-test.true in
    let first : Kept _ = record { host = c.args.host.now; moments = g.C.Clock.left c.args.clock.now; failed = g.K.Keeper.faults c.args.keeper.now; keeper = c.args.keeper.now } in
    let mid : Kept _ = record { host = at.host; moments = g.C.Clock.left at.clock; failed = g.K.Keeper.faults at.keeper; keeper = at.keeper } in
    let last : Kept _ = record { host = one.host; moments = g.C.Clock.left one.clock; failed = g.K.Keeper.faults one.keeper; keeper = one.keeper } in
    sending_stop _ g.K.Keeper.tells g.K.Keeper.serves g.K.Keeper.holds g.K.Keeper.passes c.args.fixture c.args.events.now all (drop at.place all) (drop (at.place + 1) all) c.index-players-place.result
    (g.W.Sink.taken c.args.output.now) (g.W.Sink.taken at.output) (g.W.Sink.taken one.output) c.in-Err.status first mid last
    (next_of all at.place c.index-players-place.result here c.index-players-place.is) (ap g.W.Sink.taken at.invariant.output) at.invariant.on c.in-Err.ensures.sent

pub returns-in-Err-clause-keeper : goal.returns-in-Err-clause-keeper
returns-in-Err-clause-keeper g c = λ is. rose_since _ _ _ c.loop-place.invariant.later (c.in-Err.ensures.keeper is)

pub returns-in-Err-clause-write : goal.returns-in-Err-clause-write
returns-in-Err-clause-write g c = λ is. rose_from g.W.Sink.faults _ _ _ c.loop-place.invariant.output (c.in-Err.ensures.write is)

pub returns-clause-sent : goal.returns-clause-sent
returns-clause-sent g c =
    let at = c.loop-place in
    let all = c.args.players.now in
    let first : Kept _ = record { host = c.args.host.now; moments = g.C.Clock.left c.args.clock.now; failed = g.K.Keeper.faults c.args.keeper.now; keeper = c.args.keeper.now } in
    let mid : Kept _ = record { host = at.host; moments = g.C.Clock.left at.clock; failed = g.K.Keeper.faults at.keeper; keeper = at.keeper } in
    sending_end _ g.K.Keeper.tells g.K.Keeper.serves g.K.Keeper.holds g.K.Keeper.passes c.args.fixture c.args.events.now all (drop at.place all)
    (g.W.Sink.taken c.args.output.now) (g.W.Sink.taken at.output) first mid (drop_all at.place all c.loop-place-test.false) (ap g.W.Sink.taken at.invariant.output) at.invariant.on
