use Rattle.std.proofs.Common.{◌≡◌, ◌+◌, ◌∙◌, ℕ, List, drop, ap, arith, refl, subst, sym}
use Rattle.std.specs.Prelude.{Err, Result}
use Rattle.std.proofs.lemmas.List.{drop_all}
use Rattle.fpl_drafting.specs.Rows.{AreRowsOf}
use Rattle.fpl_drafting.specs.declared.row.DraftRow.{DraftRow}
use Rattle.request_handler.specs.Kept.{Kept}
use Rattle.fpl_drafting.proofs.StepLemmas.{next_of, rose_from, rose_since, underway_end, underway_more, underway_start, underway_stop}
use Rattle.fpl_drafting.proofs.steps.steps_done.Goals as goal

pub loop-place-init : goal.loop-place-init
loop-place-init g c =
    let first : Kept _ = record { host = c.args.host.now; moments = g.C.Clock.left c.args.clock.now; failed = g.K.Keeper.faults c.args.keeper.now; keeper = c.args.keeper.now } in
    record {
      on = underway_start _ g.K.Keeper.tells g.K.Keeper.serves g.K.Keeper.holds g.K.Keeper.passes c.args.rows.now (drop 0 c.args.rows.now) c.args.draft (g.W.Sink.taken c.args.output.now) first refl;
      own = c.requires.own;
      fresh = c.requires.fresh;
      output = refl;
      later = omega arith;
    }

pub step_done-requires-clause-own : goal.step_done-requires-clause-own
step_done-requires-clause-own g c =
    let at = c.loop-place in
    let row = c.index-rows-place.result in
    let next = next_of c.args.rows.now at.place row c.loop-place-test.true c.index-rows-place.is in
    (subst (λ (rows : List DraftRow). AreRowsOf at.draft.members rows) next at.invariant.own).0

pub loop-place-preserved : goal.loop-place-preserved
loop-place-preserved g c =
    let at = c.loop-place in
    let all = c.args.rows.now in
    let row = c.index-rows-place.result in
    let one = c.step_done.new in
    let next = next_of all at.place row c.loop-place-test.true c.index-rows-place.is in
    let own = subst (λ (rows : List DraftRow). AreRowsOf at.draft.members rows) next at.invariant.own in
    let first : Kept _ = record { host = c.args.host.now; moments = g.C.Clock.left c.args.clock.now; failed = g.K.Keeper.faults c.args.keeper.now; keeper = c.args.keeper.now } in
    let mid : Kept _ = record { host = at.host; moments = g.C.Clock.left at.clock; failed = g.K.Keeper.faults at.keeper; keeper = at.keeper } in
    let last : Kept _ = record { host = one.host; moments = g.C.Clock.left one.clock; failed = g.K.Keeper.faults one.keeper; keeper = one.keeper } in
    record {
      on = underway_more _ g.K.Keeper.tells g.K.Keeper.serves g.K.Keeper.holds g.K.Keeper.passes all (drop at.place all) (drop (at.place + 1) all) c.args.draft at.draft c.in-Ok.next (at.place + 1) row
          (g.W.Sink.taken c.args.output.now) (g.W.Sink.taken at.output) (g.W.Sink.taken one.output) first mid last
          next (ap g.W.Sink.taken at.invariant.output) (ap g.W.Sink.taken (c.in-Ok.ensures.output ∙ at.invariant.output)) at.invariant.on c.in-Ok.ensures.done;
      own = subst (λ (members : ℕ). AreRowsOf members (drop (at.place + 1) all)) (sym c.in-Ok.ensures.same) own.1;
      fresh = c.in-Ok.ensures.fresh;
      output = c.in-Ok.ensures.output ∙ at.invariant.output;
      later = omega (arith, at.invariant.later, c.in-Ok.ensures.later);
    }

pub returns-in-Err-clause-done : goal.returns-in-Err-clause-done
returns-in-Err-clause-done g c =
    let at = c.loop-place in
    let all = c.args.rows.now in
    let row = c.index-rows-place.result in
    let one = c.step_done.new in
    let first : Kept _ = record { host = c.args.host.now; moments = g.C.Clock.left c.args.clock.now; failed = g.K.Keeper.faults c.args.keeper.now; keeper = c.args.keeper.now } in
    let mid : Kept _ = record { host = at.host; moments = g.C.Clock.left at.clock; failed = g.K.Keeper.faults at.keeper; keeper = at.keeper } in
    let last : Kept _ = record { host = one.host; moments = g.C.Clock.left one.clock; failed = g.K.Keeper.faults one.keeper; keeper = one.keeper } in
    underway_stop _ g.K.Keeper.tells g.K.Keeper.serves g.K.Keeper.holds g.K.Keeper.passes all (drop at.place all) (drop (at.place + 1) all) c.args.draft at.draft (at.place + 1) c.in-Err.status row
    (g.W.Sink.taken c.args.output.now) (g.W.Sink.taken at.output) (g.W.Sink.taken one.output) first mid last
    (next_of all at.place row c.loop-place-test.true c.index-rows-place.is) (ap g.W.Sink.taken at.invariant.output) at.invariant.on c.in-Err.ensures.done

pub returns-in-Err-clause-keeper : goal.returns-in-Err-clause-keeper
returns-in-Err-clause-keeper g c = λ is. rose_since _ _ _ c.loop-place.invariant.later (c.in-Err.ensures.keeper is)

pub returns-in-Err-clause-write : goal.returns-in-Err-clause-write
returns-in-Err-clause-write g c = λ is. rose_from g.W.Sink.faults _ _ _ c.loop-place.invariant.output (c.in-Err.ensures.write is)

pub returns-clause-done : goal.returns-clause-done
returns-clause-done g c =
    let at = c.loop-place in
    let all = c.args.rows.now in
    let first : Kept _ = record { host = c.args.host.now; moments = g.C.Clock.left c.args.clock.now; failed = g.K.Keeper.faults c.args.keeper.now; keeper = c.args.keeper.now } in
    let last : Kept _ = record { host = at.host; moments = g.C.Clock.left at.clock; failed = g.K.Keeper.faults at.keeper; keeper = at.keeper } in
    underway_end _ g.K.Keeper.tells g.K.Keeper.serves g.K.Keeper.holds g.K.Keeper.passes all (drop at.place all) c.args.draft at.draft (at.place + 1)
    (g.W.Sink.taken c.args.output.now) (g.W.Sink.taken at.output) first last (drop_all at.place all c.loop-place-test.false) (ap g.W.Sink.taken at.invariant.output) at.invariant.on
