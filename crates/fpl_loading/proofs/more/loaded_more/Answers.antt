use Rattle.std.proofs.Common.{◌≡◌, ◌+◌, ◌∷◌, ◌∙◌, List, Option, ℕ, length, arith, ap, sym, subst, refl}
use Rattle.std.proofs.lemmas.List.Elements.{All-head, All-rest, All-same}
use Rattle.std.specs.Vec.Iter.{into_iter_items}
use Rattle.fpl_base.specs.Causes.{Rose}
use Rattle.season_book.specs.Commands.{IsCommand}
use Rattle.request_handler.specs.Kept.{Kept}
use Rattle.fpl_loading.specs.More.{StopsBy}
use Rattle.fpl_loading.specs.declared.notes.Place.{Place}
use Rattle.fpl_loading.proofs.LoadingLemmas.{nothing_left, rose_since}
use Rattle.fpl_loading.proofs.AddingLemmas.{adds_end, adds_goes, adds_lack, adds_start, adds_stop, more_is, nothing_is, went_well}
use Rattle.fpl_loading.proofs.more.loaded_more.Goals as goal

pub loop-command-init : goal.loop-command-init
loop-command-init g c =
    let items = c.into_iter-command-iterator.ensures.into_iter_gives.0 in
    record {
      on = adds_start _ g.K.Keeper.tells g.K.Keeper.serves g.K.Keeper.holds g.K.Keeper.passes c.last-number.result (into_iter_items c.into_iter-command-iterator.result) _
          (record { host = c.args.host.now; moments = g.C.Clock.left c.args.clock.now; failed = g.K.Keeper.faults c.args.keeper.now; keeper = c.args.keeper.now })
          (nothing_is _ _ c.new.ensures);
      fresh = c.requires.fresh;
      lawful = All-same IsCommand (into_iter_items c.into_iter-command-iterator.result) c.args.commands.items items c.requires.lawful;
      placed = omega arith;
      unwritten = refl;
      later = omega arith;
    }

pub place_behind-here-requires : goal.place_behind-here-requires
place_behind-here-requires g c =
    let at = c.loop-command in
    let steps : into_iter_items at.command-iterator ≡ c.in-Some.command ∷ into_iter_items c.next.new.self = c.in-Some.ensures.steps.0 in
    let some = ap length steps in
    let placed = at.invariant.placed in
    let all = c.into_iter-command-iterator.result.rest.ok.0 in
    let small = c.into_iter-command-iterator.result.rest.small.0 in
    let within = c.into_iter-command-iterator.result.rest.small.1 in
    record { few = omega arith }

pub step-requires : goal.step-requires
step-requires g c =
    let at = c.loop-command in
    let command = c.in-Some.command in
    let rest = into_iter_items c.next.new.self in
    let steps : into_iter_items at.command-iterator ≡ command ∷ rest = c.in-Some.ensures.steps.0 in
    record { fresh = at.invariant.fresh; lawful = All-head IsCommand command rest (All-same IsCommand (command ∷ rest) (into_iter_items at.command-iterator) (sym steps) at.invariant.lawful) }

pub loop-command-preserved : goal.loop-command-preserved
loop-command-preserved g c =
    let at = c.loop-command in
    let inv = at.invariant in
    let behind = c.place_behind-here in
    let next_row = behind.ensures.next in
    let placed = inv.placed in
    let steps : into_iter_items at.command-iterator ≡ c.in-Some.command ∷ into_iter_items c.next.new.self = c.in-Some.ensures.steps.0 in
    let some = ap length steps in
    let end = c.step.new in
    let first : Kept _ = record { host = c.args.host.now; moments = g.C.Clock.left c.args.clock.now; failed = g.K.Keeper.faults c.args.keeper.now; keeper = c.args.keeper.now } in
    let mid : Kept _ = record { host = at.host; moments = g.C.Clock.left at.clock; failed = g.K.Keeper.faults at.keeper; keeper = at.keeper } in
    let last : Kept _ = record { host = end.host; moments = g.C.Clock.left end.clock; failed = g.K.Keeper.faults end.keeper; keeper = end.keeper } in
    let counts = went_well c.count.result (sym c.is_err.ensures.value ∙ c.if-is_err.false) c.count.ensures in
    record {
      on = adds_goes _ g.K.Keeper.tells g.K.Keeper.serves g.K.Keeper.holds g.K.Keeper.passes c.last-number.result (into_iter_items c.into_iter-command-iterator.result)
          (into_iter_items at.command-iterator) (into_iter_items c.next.new.self) c.in-Some.command at.place behind.result at.tally first mid last
          steps behind.ensures.behind inv.on c.in-Ok.added c.count.new.self counts c.in-Ok.ensures.step;
      fresh = c.in-Ok.ensures.fresh;
      lawful = All-rest IsCommand c.in-Some.command (into_iter_items c.next.new.self) (into_iter_items at.command-iterator) steps inv.lawful;
      placed = omega arith;
      unwritten = inv.unwritten;
      later = omega (arith, inv.later, c.in-Ok.ensures.later);
    }

pub returns-then-is_err-clause-loaded : goal.returns-then-is_err-clause-loaded
returns-then-is_err-clause-loaded g c =
    let at = c.loop-command in
    let inv = at.invariant in
    let behind = c.place_behind-here in
    let steps : into_iter_items at.command-iterator ≡ c.in-Some.command ∷ into_iter_items c.next.new.self = c.in-Some.ensures.steps.0 in
    let all = into_iter_items c.into_iter-command-iterator.result in
    let end = c.step.new in
    let first : Kept _ = record { host = c.args.host.now; moments = g.C.Clock.left c.args.clock.now; failed = g.K.Keeper.faults c.args.keeper.now; keeper = c.args.keeper.now } in
    let mid : Kept _ = record { host = at.host; moments = g.C.Clock.left at.clock; failed = g.K.Keeper.faults at.keeper; keeper = at.keeper } in
    let last : Kept _ = record { host = end.host; moments = g.C.Clock.left end.clock; failed = g.K.Keeper.faults end.keeper; keeper = end.keeper } in
    more_is _ g.K.Keeper.tells g.K.Keeper.serves g.K.Keeper.holds g.K.Keeper.passes c.last-number.result all c.args.commands.items first last
    (g.W.Sink.taken c.args.output.now) (g.W.Sink.taken at.output) (g.W.Sink.taken at.output) c.out_of_memory.result.status c.out_of_memory.result.note
    c.last-number.ensures c.requires.fresh c.into_iter-command-iterator.ensures.into_iter_gives.0 (ap g.W.Sink.taken inv.unwritten)
    (adds_lack _ g.K.Keeper.tells g.K.Keeper.serves g.K.Keeper.holds g.K.Keeper.passes c.last-number.result all (into_iter_items at.command-iterator) (into_iter_items c.next.new.self) c.in-Some.command at.place behind.result at.tally first mid last
    steps behind.ensures.behind inv.on c.in-Ok.added (g.W.Sink.taken at.output) (g.W.Sink.taken at.output) c.out_of_memory.result.status c.out_of_memory.result.note
    refl c.out_of_memory.ensures.0 c.out_of_memory.ensures.1 c.in-Ok.ensures.step)

pub returns-in-Err-clause-loaded : goal.returns-in-Err-clause-loaded
returns-in-Err-clause-loaded g c =
    let at = c.loop-command in
    let inv = at.invariant in
    let behind = c.place_behind-here in
    let steps : into_iter_items at.command-iterator ≡ c.in-Some.command ∷ into_iter_items c.next.new.self = c.in-Some.ensures.steps.0 in
    let all = into_iter_items c.into_iter-command-iterator.result in
    let end = c.step.new in
    let first : Kept _ = record { host = c.args.host.now; moments = g.C.Clock.left c.args.clock.now; failed = g.K.Keeper.faults c.args.keeper.now; keeper = c.args.keeper.now } in
    let mid : Kept _ = record { host = at.host; moments = g.C.Clock.left at.clock; failed = g.K.Keeper.faults at.keeper; keeper = at.keeper } in
    let last : Kept _ = record { host = end.host; moments = g.C.Clock.left end.clock; failed = g.K.Keeper.faults end.keeper; keeper = end.keeper } in
    more_is _ g.K.Keeper.tells g.K.Keeper.serves g.K.Keeper.holds g.K.Keeper.passes c.last-number.result all c.args.commands.items first last
    (g.W.Sink.taken c.args.output.now) (g.W.Sink.taken at.output) (g.W.Sink.taken c.stopped.new.output) c.stopped.result.status c.stopped.result.note
    c.last-number.ensures c.requires.fresh c.into_iter-command-iterator.ensures.into_iter_gives.0 (ap g.W.Sink.taken inv.unwritten)
    (adds_stop _ g.K.Keeper.tells g.K.Keeper.serves g.K.Keeper.holds g.K.Keeper.passes c.last-number.result all (into_iter_items at.command-iterator) (into_iter_items c.next.new.self) c.in-Some.command at.place behind.result at.tally first mid last
    steps behind.ensures.behind inv.on c.in-Err.why (g.W.Sink.taken at.output) (g.W.Sink.taken c.stopped.new.output) c.stopped.result.status c.stopped.result.note
    (subst (λ places. StopsBy behind.result places c.in-Err.why c.stopped.result.status (g.W.Sink.taken at.output) (g.W.Sink.taken c.stopped.new.output) c.stopped.result.note) c.as_slice.ensures c.stopped.ensures.stops)
    c.in-Err.ensures.step)

pub returns-in-Err-clause-keeper : goal.returns-in-Err-clause-keeper
returns-in-Err-clause-keeper g c = λ is.
    rose_since (g.K.Keeper.faults c.args.keeper.now) (g.K.Keeper.faults c.loop-command.keeper) (g.K.Keeper.faults c.step.new.keeper) c.loop-command.invariant.later
    (c.in-Err.ensures.keeper (c.stopped.ensures.keeper is))

pub returns-in-Err-clause-write : goal.returns-in-Err-clause-write
returns-in-Err-clause-write g c = λ is.
    subst (λ (n : ℕ). Rose n (g.W.Sink.faults c.stopped.new.output)) (ap g.W.Sink.faults c.loop-command.invariant.unwritten) (c.stopped.ensures.write is)

pub returns-clause-loaded : goal.returns-clause-loaded
returns-clause-loaded g c =
    let at = c.loop-command in
    let inv = at.invariant in
    let all = into_iter_items c.into_iter-command-iterator.result in
    let first : Kept _ = record { host = c.args.host.now; moments = g.C.Clock.left c.args.clock.now; failed = g.K.Keeper.faults c.args.keeper.now; keeper = c.args.keeper.now } in
    let mid : Kept _ = record { host = at.host; moments = g.C.Clock.left at.clock; failed = g.K.Keeper.faults at.keeper; keeper = at.keeper } in
    more_is _ g.K.Keeper.tells g.K.Keeper.serves g.K.Keeper.holds g.K.Keeper.passes c.last-number.result all c.args.commands.items first mid
    (g.W.Sink.taken c.args.output.now) (g.W.Sink.taken at.output) (g.W.Sink.taken c.counted-status.new.output) c.counted-status.result _
    c.last-number.ensures c.requires.fresh c.into_iter-command-iterator.ensures.into_iter_gives.0 (ap g.W.Sink.taken inv.unwritten)
    (adds_end _ g.K.Keeper.tells g.K.Keeper.serves g.K.Keeper.holds g.K.Keeper.passes c.last-number.result all (into_iter_items at.command-iterator) at.place at.tally first mid
    (g.W.Sink.taken at.output) (g.W.Sink.taken c.counted-status.new.output) c.counted-status.result _
    (nothing_left (into_iter_items at.command-iterator) (sym at.command-iterator.rest.ok.0 ∙ c.in-None.ensures.steps.0)) refl c.counted-status.ensures.counts inv.on)

pub returns-clause-write : goal.returns-clause-write
returns-clause-write g c = λ is.
    subst (λ (n : ℕ). Rose n (g.W.Sink.faults c.counted-status.new.output)) (ap g.W.Sink.faults c.loop-command.invariant.unwritten) (c.counted-status.ensures.write is)
