use Rattle.std.proofs.Common.{List, Option, ap, subst, ℕ}
use Rattle.local_requests.specs.Printing.{PrintsOne}
use Rattle.fpl_base.specs.Causes.{Rose}
use Rattle.request_handler.specs.Kept.{Kept}
use Rattle.fpl_drafting.specs.Totals.{IsTableText}
use Rattle.fpl_drafting.specs.declared.totals.Told.{Told}
use Rattle.fpl_drafting.proofs.StepLemmas.{rose_from}
use Rattle.fpl_drafting.proofs.TellLemmas.{scored_end, scored_stop}
use Rattle.fpl_drafting.proofs.tabling.scored.Goals as goal

pub returns-in-Ok-clause-scored : goal.returns-in-Ok-clause-scored
returns-in-Ok-clause-scored g c =
    let asked = c.points_asked.new in
    let after = g.W.Sink.taken c.write_table.new.output in
    let first : Kept _ = record { host = c.args.host.now; moments = g.C.Clock.left c.args.clock.now; failed = g.K.Keeper.faults c.args.keeper.now; keeper = c.args.keeper.now } in
    let last : Kept _ = record { host = asked.host; moments = g.C.Clock.left asked.clock; failed = g.K.Keeper.faults asked.keeper; keeper = asked.keeper } in
    scored_end _ g.K.Keeper.tells g.K.Keeper.serves g.K.Keeper.holds g.K.Keeper.passes c.args.draft.now c.args.locked c.write_table.result c.args.questions.now c.in-Ok.told
    (g.W.Sink.taken c.args.output.now) (g.W.Sink.taken asked.output) after first last (ap g.W.Sink.taken c.in-Ok.ensures.output) c.in-Ok.ensures.asked
    (subst (λ (told : List Told). PrintsOne (IsTableText c.args.draft.now c.args.locked told) 0 c.write_table.result (g.W.Sink.taken asked.output) after) c.as_slice.ensures c.write_table.ensures.written)

pub returns-in-Ok-clause-write : goal.returns-in-Ok-clause-write
returns-in-Ok-clause-write g c = λ is. rose_from g.W.Sink.faults _ _ _ c.in-Ok.ensures.output (c.write_table.ensures.write is)

pub returns-in-Err-clause-scored : goal.returns-in-Err-clause-scored
returns-in-Err-clause-scored g c =
    let asked = c.points_asked.new in
    let first : Kept _ = record { host = c.args.host.now; moments = g.C.Clock.left c.args.clock.now; failed = g.K.Keeper.faults c.args.keeper.now; keeper = c.args.keeper.now } in
    let last : Kept _ = record { host = asked.host; moments = g.C.Clock.left asked.clock; failed = g.K.Keeper.faults asked.keeper; keeper = asked.keeper } in
    scored_stop _ g.K.Keeper.tells g.K.Keeper.serves g.K.Keeper.holds g.K.Keeper.passes c.args.draft.now c.args.locked c.in-Err.status c.args.questions.now
    (g.W.Sink.taken c.args.output.now) (g.W.Sink.taken asked.output) first last c.in-Err.ensures.asked
