use Rattle.std.proofs.Common.{◌≡◌, ◌∙◌, ◌+◌, drop, ap, arith, of_z, refl, rules, sym, to_z, w32}
use Rattle.std.proofs.lemmas.List.{drop_all}
use Rattle.local_requests.proofs.AskingLemmas.{rose_behind}
use Rattle.request_handler.specs.Kept.{Kept}
use Rattle.fpl_drafting.specs.Drafting.{points_told}
use Rattle.fpl_drafting.proofs.StepLemmas.{fresh_shown, next_of, rose_from, rose_since}
use Rattle.fpl_drafting.proofs.TellLemmas.{asked_end, asked_more, asked_out, asked_start, asked_stop, went_well}
use Rattle.fpl_drafting.proofs.tabling.points_asked.Goals as goal

pub loop-place-init : goal.loop-place-init
loop-place-init g c =
    let first : Kept _ = record { host = c.args.host.now; moments = g.C.Clock.left c.args.clock.now; failed = g.K.Keeper.faults c.args.keeper.now; keeper = c.args.keeper.now } in
    record {
      on = asked_start _ g.K.Keeper.tells g.K.Keeper.serves g.K.Keeper.holds g.K.Keeper.passes c.args.questions.now (g.W.Sink.taken c.args.output.now) (drop 0 c.args.questions.now) c.new-so_far.result first refl c.new-so_far.ensures;
      fresh = c.requires.fresh;
      output = refl;
      later = omega arith;
    }

pub loop-place-preserved : goal.loop-place-preserved
loop-place-preserved g c =
    let at = c.loop-place in
    let all = c.args.questions.now in
    let one = c.index-questions-place.result in
    let told = c.ask-told in
    let first : Kept _ = record { host = c.args.host.now; moments = g.C.Clock.left c.args.clock.now; failed = g.K.Keeper.faults c.args.keeper.now; keeper = c.args.keeper.now } in
    let mid : Kept _ = record { host = at.host; moments = g.C.Clock.left at.clock; failed = g.K.Keeper.faults at.keeper; keeper = at.keeper } in
    let last : Kept _ = record { host = told.new.host; moments = g.C.Clock.left told.new.clock; failed = g.K.Keeper.faults told.new.keeper; keeper = told.new.keeper } in
    let plain : to_z w32 (of_z w32 c.in-Some.points) ≡ c.in-Some.points = search rules in
    let more = rw plain at (went_well c.keep.result (sym c.is_err.ensures.value ∙ c.if-is_err.false) c.keep.ensures) in
    record {
      on = asked_more _ g.K.Keeper.tells g.K.Keeper.serves g.K.Keeper.holds g.K.Keeper.passes all (g.W.Sink.taken c.args.output.now) (drop at.place all) (drop (at.place + 1) all) one at.so_far c.request_of_points-asked.result told.result
          first mid last (next_of all at.place one c.loop-place-test.true c.index-questions-place.is) c.request_of_points-asked.ensures.value at.invariant.on told.ensures.heard
          c.in-Some.points c.keep.new.so_far (sym c.in-Some.ensures) more;
      fresh = fresh_shown points_told told.new.host.stale told.result c.in-Some.points refl refl told.ensures.stale (sym c.in-Some.ensures);
      output = at.invariant.output;
      later = omega (arith, at.invariant.later, told.ensures.later);
    }

pub returns-then-is_err-clause-asked : goal.returns-then-is_err-clause-asked
returns-then-is_err-clause-asked g c =
    let at = c.loop-place in
    let all = c.args.questions.now in
    let one = c.index-questions-place.result in
    let told = c.ask-told in
    let first : Kept _ = record { host = c.args.host.now; moments = g.C.Clock.left c.args.clock.now; failed = g.K.Keeper.faults c.args.keeper.now; keeper = c.args.keeper.now } in
    let mid : Kept _ = record { host = at.host; moments = g.C.Clock.left at.clock; failed = g.K.Keeper.faults at.keeper; keeper = at.keeper } in
    let last : Kept _ = record { host = told.new.host; moments = g.C.Clock.left told.new.clock; failed = g.K.Keeper.faults told.new.keeper; keeper = told.new.keeper } in
    asked_out _ g.K.Keeper.tells g.K.Keeper.serves g.K.Keeper.holds g.K.Keeper.passes all (g.W.Sink.taken c.args.output.now) (drop at.place all) (drop (at.place + 1) all) one at.so_far c.request_of_points-asked.result told.result
    first mid last (next_of all at.place one c.loop-place-test.true c.index-questions-place.is) c.request_of_points-asked.ensures.value at.invariant.on told.ensures.heard
    c.in-Some.points (g.W.Sink.taken at.output) (sym c.in-Some.ensures) (ap g.W.Sink.taken at.invariant.output)

pub returns-in-None-clause-asked : goal.returns-in-None-clause-asked
returns-in-None-clause-asked g c =
    let at = c.loop-place in
    let all = c.args.questions.now in
    let one = c.index-questions-place.result in
    let told = c.ask-told in
    let first : Kept _ = record { host = c.args.host.now; moments = g.C.Clock.left c.args.clock.now; failed = g.K.Keeper.faults c.args.keeper.now; keeper = c.args.keeper.now } in
    let mid : Kept _ = record { host = at.host; moments = g.C.Clock.left at.clock; failed = g.K.Keeper.faults at.keeper; keeper = at.keeper } in
    let last : Kept _ = record { host = told.new.host; moments = g.C.Clock.left told.new.clock; failed = g.K.Keeper.faults told.new.keeper; keeper = told.new.keeper } in
    asked_stop _ g.K.Keeper.tells g.K.Keeper.serves g.K.Keeper.holds g.K.Keeper.passes all (g.W.Sink.taken c.args.output.now) (drop at.place all) (drop (at.place + 1) all) one at.so_far c.request_of_points-asked.result told.result
    first mid last (next_of all at.place one c.loop-place-test.true c.index-questions-place.is) c.request_of_points-asked.ensures.value at.invariant.on told.ensures.heard
    c.halted.result (g.W.Sink.taken at.output) (g.W.Sink.taken c.halted.new.output) (sym c.in-None.ensures) (ap g.W.Sink.taken at.invariant.output) c.halted.ensures.ends

pub returns-clause-asked : goal.returns-clause-asked
returns-clause-asked g c =
    let at = c.loop-place in
    let all = c.args.questions.now in
    let first : Kept _ = record { host = c.args.host.now; moments = g.C.Clock.left c.args.clock.now; failed = g.K.Keeper.faults c.args.keeper.now; keeper = c.args.keeper.now } in
    let last : Kept _ = record { host = at.host; moments = g.C.Clock.left at.clock; failed = g.K.Keeper.faults at.keeper; keeper = at.keeper } in
    asked_end _ g.K.Keeper.tells g.K.Keeper.serves g.K.Keeper.holds g.K.Keeper.passes all (g.W.Sink.taken c.args.output.now) (drop at.place all) at.so_far (g.W.Sink.taken at.output) first last
    (drop_all at.place all c.loop-place-test.false) (ap g.W.Sink.taken at.invariant.output) at.invariant.on
