use Rattle.std.proofs.Common.{◌≡◌, ◌+◌, ◌∷◌, length, ℕ, arith, ap, sym, subst, refl, ◌∙◌}
use Rattle.std.proofs.lemmas.List.Elements.{All-head, All-rest, All-same}
use Rattle.std.specs.Vec.Iter.{into_iter_items}
use Rattle.fpl_base.specs.Causes.{Rose}
use Rattle.season_book.specs.Commands.{IsCommand}
use Rattle.season_book.specs.declared.answer.Answer.{Answer}
use Rattle.request_handler.specs.Kept.{Kept}
use Rattle.local_requests.specs.Printing.{EndsBy}
use Rattle.local_requests.proofs.AskingLemmas.{rose_behind}
use Rattle.fpl_loading.proofs.LoadingLemmas.{fresh_behind, load_ends, load_goes, load_is, load_starts, load_stops, note_is, nothing_left, rose_since}
use Rattle.fpl_loading.proofs.loading.loaded.Goals as goal

pub loop-command-init : goal.loop-command-init
loop-command-init g c =
    let items = c.into_iter-command-iterator.ensures.into_iter_gives.0 in
    record {
      on = load_starts _ g.K.Keeper.tells g.K.Keeper.serves g.K.Keeper.holds g.K.Keeper.passes c.last-last.result (into_iter_items c.into_iter-command-iterator.result)
          (record { host = c.args.host.now; moments = g.C.Clock.left c.args.clock.now; failed = g.K.Keeper.faults c.args.keeper.now; keeper = c.args.keeper.now });
      fresh = c.requires.fresh;
      lawful = All-same IsCommand (into_iter_items c.into_iter-command-iterator.result) c.args.commands.items items c.requires.lawful;
      asked = omega arith;
      placed = omega arith;
      counts = omega arith;
      unwritten = refl;
      later = omega arith;
    }

pub overflow_add-number : goal.overflow_add-number
overflow_add-number g c =
    let at = c.loop-command in
    let steps : into_iter_items at.command-iterator ≡ c.in-Some.command ∷ into_iter_items c.next.new.self = c.in-Some.ensures.steps.0 in
    let some = ap length steps in
    let asked = at.invariant.asked in
    let all = c.into_iter-command-iterator.result.rest.ok.0 in
    let small = c.into_iter-command-iterator.result.rest.small.0 in
    let within = c.into_iter-command-iterator.result.rest.small.1 in
    omega arith

pub place_behind-here-requires : goal.place_behind-here-requires
place_behind-here-requires g c =
    let at = c.loop-command in
    let steps : into_iter_items at.command-iterator ≡ c.in-Some.command ∷ into_iter_items c.next.new.self = c.in-Some.ensures.steps.0 in
    let some = ap length steps in
    let asked = at.invariant.asked in
    let row = at.invariant.placed in
    let all = c.into_iter-command-iterator.result.rest.ok.0 in
    let small = c.into_iter-command-iterator.result.rest.small.0 in
    let within = c.into_iter-command-iterator.result.rest.small.1 in
    record { few = omega arith }

pub ask_command-told-requires-clause-asked : goal.ask_command-told-requires-clause-asked
ask_command-told-requires-clause-asked g c =
    let at = c.loop-command in
    let command = c.in-Some.command in
    let rest = into_iter_items c.next.new.self in
    let steps : into_iter_items at.command-iterator ≡ command ∷ rest = c.in-Some.ensures.steps.0 in
    let some = ap length steps in
    let asked = at.invariant.asked in
    let all = c.into_iter-command-iterator.result.rest.ok.0 in
    let small = c.into_iter-command-iterator.result.rest.small.0 in
    let within = c.into_iter-command-iterator.result.rest.small.1 in
    (omega arith, omega arith, All-head IsCommand command rest (All-same IsCommand (command ∷ rest) (into_iter_items at.command-iterator) (sym steps) at.invariant.lawful))

pub loop-command-preserved : goal.loop-command-preserved
loop-command-preserved g c =
    let at = c.loop-command in
    let behind = c.place_behind-here in
    let row = at.invariant.placed in
    let next_row = behind.ensures.next in
    let told = c.ask_command-told in
    let counts = c.in-Ok.counts in
    let steps : into_iter_items at.command-iterator ≡ c.in-Some.command ∷ into_iter_items c.next.new.self = c.in-Some.ensures.steps.0 in
    let some = ap length steps in
    let asked = at.invariant.asked in
    let so_far = at.invariant.counts in
    let one = c.in-Ok.ensures.one in
    let since = at.invariant.later in
    let later = told.ensures.later in
    let first : Kept _ = record { host = c.args.host.now; moments = g.C.Clock.left c.args.clock.now; failed = g.K.Keeper.faults c.args.keeper.now; keeper = c.args.keeper.now } in
    let mid : Kept _ = record { host = at.host; moments = g.C.Clock.left at.clock; failed = g.K.Keeper.faults at.keeper; keeper = at.keeper } in
    let next : Kept _ = record { host = told.new.host; moments = g.C.Clock.left told.new.clock; failed = g.K.Keeper.faults told.new.keeper; keeper = told.new.keeper } in
    record {
      on = load_goes _ g.K.Keeper.tells g.K.Keeper.serves g.K.Keeper.holds g.K.Keeper.passes c.last-last.result (into_iter_items c.into_iter-command-iterator.result)
          (into_iter_items at.command-iterator) (into_iter_items c.next.new.self) at.number at.place behind.result c.in-Some.command at.loaded at.there told.result counts first mid next
          steps behind.ensures.behind at.invariant.on told.ensures.heard (sym c.in-Ok.ensures.counts);
      fresh = fresh_behind told.new.host.stale c.last-last.result (at.number + 1) told.result counts told.ensures.stale (sym c.in-Ok.ensures.counts);
      lawful = All-rest IsCommand c.in-Some.command (into_iter_items c.next.new.self) (into_iter_items at.command-iterator) steps at.invariant.lawful;
      asked = omega arith;
      placed = omega arith;
      counts = omega arith;
      unwritten = at.invariant.unwritten;
      later = omega arith;
    }

pub returns-in-Err-clause-loaded : goal.returns-in-Err-clause-loaded
returns-in-Err-clause-loaded g c =
    let at = c.loop-command in
    let told = c.ask_command-told in
    let steps : into_iter_items at.command-iterator ≡ c.in-Some.command ∷ into_iter_items c.next.new.self = c.in-Some.ensures.steps.0 in
    let all = into_iter_items c.into_iter-command-iterator.result in
    let first : Kept _ = record { host = c.args.host.now; moments = g.C.Clock.left c.args.clock.now; failed = g.K.Keeper.faults c.args.keeper.now; keeper = c.args.keeper.now } in
    let mid : Kept _ = record { host = at.host; moments = g.C.Clock.left at.clock; failed = g.K.Keeper.faults at.keeper; keeper = at.keeper } in
    let next : Kept _ = record { host = told.new.host; moments = g.C.Clock.left told.new.clock; failed = g.K.Keeper.faults told.new.keeper; keeper = told.new.keeper } in
    load_is _ g.K.Keeper.tells g.K.Keeper.serves g.K.Keeper.holds g.K.Keeper.passes c.last-last.result all c.args.commands.items first next
    (g.W.Sink.taken c.args.output.now) (g.W.Sink.taken at.output) (g.W.Sink.taken c.halted-status.new.output) c.halted-status.result c.cause_of-note.result c.last-last.ensures c.requires.fresh c.into_iter-command-iterator.ensures.into_iter_gives.0
    (ap g.W.Sink.taken at.invariant.unwritten)
    (load_stops _ g.K.Keeper.tells g.K.Keeper.serves g.K.Keeper.holds g.K.Keeper.passes c.last-last.result all (into_iter_items at.command-iterator) (into_iter_items c.next.new.self)
    at.number at.place c.in-Some.command at.loaded at.there told.result first mid next (g.W.Sink.taken at.output) (g.W.Sink.taken c.halted-status.new.output) c.halted-status.result c.cause_of-note.result
    steps (note_is c.cause_of-note.result c.place_behind-here.result c.in-Err.told told.result at.place c.in-Some.command c.cause_of-note.ensures c.place_behind-here.ensures.behind c.in-Err.ensures.ends.0) at.invariant.on told.ensures.heard (sym c.in-Err.ensures.ends.1)
    (subst (λ (a : Answer). EndsBy a c.halted-status.result (g.W.Sink.taken at.output) (g.W.Sink.taken c.halted-status.new.output)) c.in-Err.ensures.ends.0 c.halted-status.ensures.ends))

pub returns-in-Err-clause-keeper : goal.returns-in-Err-clause-keeper
returns-in-Err-clause-keeper g c = λ is.
    rose_since (g.K.Keeper.faults c.args.keeper.now) (g.K.Keeper.faults c.loop-command.keeper) (g.K.Keeper.faults c.ask_command-told.new.keeper) c.loop-command.invariant.later
    (rose_behind (record { before = g.K.Keeper.faults c.loop-command.keeper; behind = g.K.Keeper.faults c.ask_command-told.new.keeper }) c.ask_command-told.result c.ask_command-told.ensures.caused
    (sym c.in-Err.ensures.ends.0 ∙ c.halted-status.ensures.keeper is))

pub returns-in-Err-clause-write : goal.returns-in-Err-clause-write
returns-in-Err-clause-write g c = λ is.
    subst (λ (n : ℕ). Rose n (g.W.Sink.faults c.halted-status.new.output)) (ap g.W.Sink.faults c.loop-command.invariant.unwritten) (c.halted-status.ensures.write is)

pub returns-clause-loaded : goal.returns-clause-loaded
returns-clause-loaded g c =
    let at = c.loop-command in
    let all = into_iter_items c.into_iter-command-iterator.result in
    let first : Kept _ = record { host = c.args.host.now; moments = g.C.Clock.left c.args.clock.now; failed = g.K.Keeper.faults c.args.keeper.now; keeper = c.args.keeper.now } in
    let mid : Kept _ = record { host = at.host; moments = g.C.Clock.left at.clock; failed = g.K.Keeper.faults at.keeper; keeper = at.keeper } in
    load_is _ g.K.Keeper.tells g.K.Keeper.serves g.K.Keeper.holds g.K.Keeper.passes c.last-last.result all c.args.commands.items first mid
    (g.W.Sink.taken c.args.output.now) (g.W.Sink.taken at.output) (g.W.Sink.taken c.tell-status.new.output) c.tell-status.result c.note_passed-note.result c.last-last.ensures c.requires.fresh c.into_iter-command-iterator.ensures.into_iter_gives.0
    (ap g.W.Sink.taken at.invariant.unwritten)
    (load_ends _ g.K.Keeper.tells g.K.Keeper.serves g.K.Keeper.holds g.K.Keeper.passes c.last-last.result all (into_iter_items at.command-iterator)
    at.number at.place at.loaded at.there first mid (g.W.Sink.taken at.output) (g.W.Sink.taken c.tell-status.new.output) c.tell-status.result c.note_passed-note.result
    (nothing_left (into_iter_items at.command-iterator) (sym at.command-iterator.rest.ok.0 ∙ c.in-None.ensures.steps.0)) c.note_passed-note.ensures at.invariant.on c.tell-status.ensures.told)

pub returns-clause-write : goal.returns-clause-write
returns-clause-write g c = λ is.
    subst (λ (n : ℕ). Rose n (g.W.Sink.faults c.tell-status.new.output)) (ap g.W.Sink.faults c.loop-command.invariant.unwritten) (c.tell-status.ensures.write is)
