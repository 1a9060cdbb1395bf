use Rattle.std.proofs.Common.{◌≡◌, ◌+◌, ◌∙◌, ℕ, List, drop, length, ap, arith, refl, subst, sym}
use Rattle.std.specs.Prelude.{Err, Result}
use Rattle.std.proofs.lemmas.List.{drop_all}
use Rattle.fpl_events.specs.Rows.{AreDoable, IsDoable}
use Rattle.fpl_events.specs.declared.row.EventRow.{EventRow}
use Rattle.match_events.specs.Sheets.{Sheet}
use Rattle.request_handler.specs.Kept.{Kept}
use Rattle.fpl_events.specs.Playing.{bare_sheet}
use Rattle.fpl_events.proofs.PlayingLemmas.{going_end, going_more, going_start, going_stop}
use Rattle.fpl_events.proofs.SendingLemmas.{next_of, rose_from, rose_since}
use Rattle.fpl_events.proofs.playing.played.Goals as goal

err_is : (one other : ℕ) → one ≡ other → ◌≡◌ {A = Result ℕ ℕ} (Err one) (Err other)
err_is one other same = ap (λ (status : ℕ). Err status) same

pub loop-place-init : goal.loop-place-init
loop-place-init g c =
    let first : Kept _ = record { host = c.args.host.now; moments = g.C.Clock.left c.args.clock.now; failed = g.K.Keeper.faults c.args.keeper.now; keeper = c.args.keeper.now } in
    let bare : c.new-events.result ≡ bare_sheet c.args.minutes = c.new-events.ensures in
    record {
      on = going_start _ g.K.Keeper.tells g.K.Keeper.serves g.K.Keeper.holds g.K.Keeper.passes c.args.fixture c.args.minutes c.args.rows.now (drop 0 c.args.rows.now) c.new-events.result (g.W.Sink.taken c.args.output.now) first refl bare;
      fresh = c.requires.fresh;
      minutes = ap (λ (s : Sheet). s.minutes) bare;
      doable = subst (λ (s : Sheet). AreDoable c.args.minutes (length s.events) c.args.rows.now) (sym bare) c.requires.doable;
      few = omega arith;
      output = refl;
      later = omega arith;
    }

pub row_done-requires-clause-doable : goal.row_done-requires-clause-doable
row_done-requires-clause-doable g c =
    let at = c.loop-place in
    let row = c.index-rows-place.result in
    let next = next_of c.args.rows.now at.place row c.loop-place-test.true c.index-rows-place.is in
    let doable = subst (λ (rows : List EventRow). AreDoable c.args.minutes (length at.events.events) rows) next at.invariant.doable in
    subst (λ (minutes : ℕ). IsDoable minutes (length at.events.events) row) (sym at.invariant.minutes) doable.0

pub overflow_add-sent : goal.overflow_add-sent
overflow_add-sent g c = omega (arith, c.loop-place.invariant.few, c.in-Ok.ensures.few, c.loop-place-test.true, c.requires.few)

pub loop-place-preserved : goal.loop-place-preserved
loop-place-preserved g c =
    let at = c.loop-place in
    let all = c.args.rows.now in
    let row = c.index-rows-place.result in
    let one = c.row_done.new in
    let next = next_of all at.place row c.loop-place-test.true c.index-rows-place.is in
    let doable = subst (λ (rows : List EventRow). AreDoable c.args.minutes (length at.events.events) rows) next at.invariant.doable in
    let first : Kept _ = record { host = c.args.host.now; moments = g.C.Clock.left c.args.clock.now; failed = g.K.Keeper.faults c.args.keeper.now; keeper = c.args.keeper.now } in
    let mid : Kept _ = record { host = at.host; moments = g.C.Clock.left at.clock; failed = g.K.Keeper.faults at.keeper; keeper = at.keeper } in
    let last : Kept _ = record { host = one.host; moments = g.C.Clock.left one.clock; failed = g.K.Keeper.faults one.keeper; keeper = one.keeper } in
    record {
      on = going_more _ g.K.Keeper.tells g.K.Keeper.serves g.K.Keeper.holds g.K.Keeper.passes c.args.fixture c.args.minutes (at.place + 1) at.sent c.in-Ok.more all (drop at.place all) (drop (at.place + 1) all) row at.events one.events
          (g.W.Sink.taken c.args.output.now) (g.W.Sink.taken at.output) (g.W.Sink.taken one.output) first mid last
          next (ap g.W.Sink.taken at.invariant.output) (ap g.W.Sink.taken (c.in-Ok.ensures.output ∙ at.invariant.output)) at.invariant.on c.in-Ok.ensures.done;
      fresh = c.in-Ok.ensures.fresh;
      minutes = c.in-Ok.ensures.minutes ∙ at.invariant.minutes;
      doable = subst (λ (count : ℕ). AreDoable c.args.minutes count (drop (at.place + 1) all)) (sym c.in-Ok.ensures.count) doable.1;
      few = omega (arith, at.invariant.few, c.in-Ok.ensures.few);
      output = c.in-Ok.ensures.output ∙ at.invariant.output;
      later = omega (arith, at.invariant.later, c.in-Ok.ensures.later);
    }

pub returns-in-Err-clause-played : goal.returns-in-Err-clause-played
returns-in-Err-clause-played g c =
    let at = c.loop-place in
    let all = c.args.rows.now in
    let row = c.index-rows-place.result in
    let one = c.row_done.new in
    let first : Kept _ = record { host = c.args.host.now; moments = g.C.Clock.left c.args.clock.now; failed = g.K.Keeper.faults c.args.keeper.now; keeper = c.args.keeper.now } in
    let mid : Kept _ = record { host = at.host; moments = g.C.Clock.left at.clock; failed = g.K.Keeper.faults at.keeper; keeper = at.keeper } in
    let last : Kept _ = record { host = one.host; moments = g.C.Clock.left one.clock; failed = g.K.Keeper.faults one.keeper; keeper = one.keeper } in
    going_stop _ g.K.Keeper.tells g.K.Keeper.serves g.K.Keeper.holds g.K.Keeper.passes c.args.fixture c.args.minutes (at.place + 1) at.sent c.in-Err.status all (drop at.place all) (drop (at.place + 1) all) row at.events one.events
    (g.W.Sink.taken c.args.output.now) (g.W.Sink.taken at.output) (g.W.Sink.taken one.output) first mid last
    (next_of all at.place row c.loop-place-test.true c.index-rows-place.is) (ap g.W.Sink.taken at.invariant.output) at.invariant.on c.in-Err.ensures.done

pub returns-in-Err-clause-keeper : goal.returns-in-Err-clause-keeper
returns-in-Err-clause-keeper g c = λ is. rose_since _ _ _ c.loop-place.invariant.later (c.in-Err.ensures.keeper (err_is _ _ is))

pub returns-in-Err-clause-write : goal.returns-in-Err-clause-write
returns-in-Err-clause-write g c = λ is. rose_from g.W.Sink.faults _ _ _ c.loop-place.invariant.output (c.in-Err.ensures.write (err_is _ _ is))

pub returns-clause-played : goal.returns-clause-played
returns-clause-played g c =
    let at = c.loop-place in
    let all = c.args.rows.now in
    let first : Kept _ = record { host = c.args.host.now; moments = g.C.Clock.left c.args.clock.now; failed = g.K.Keeper.faults c.args.keeper.now; keeper = c.args.keeper.now } in
    let mid : Kept _ = record { host = at.host; moments = g.C.Clock.left at.clock; failed = g.K.Keeper.faults at.keeper; keeper = at.keeper } in
    going_end _ g.K.Keeper.tells g.K.Keeper.serves g.K.Keeper.holds g.K.Keeper.passes c.args.fixture c.args.minutes (at.place + 1) at.sent c.tell.result all (drop at.place all) at.events
    (g.W.Sink.taken c.args.output.now) (g.W.Sink.taken at.output) (g.W.Sink.taken c.tell.new.output) first mid
    (drop_all at.place all c.loop-place-test.false) (ap g.W.Sink.taken at.invariant.output) c.tell.ensures.told at.invariant.on

pub returns-clause-write : goal.returns-clause-write
returns-clause-write g c = λ is. rose_from g.W.Sink.faults _ _ _ c.loop-place.invariant.output (c.tell.ensures.write is)
