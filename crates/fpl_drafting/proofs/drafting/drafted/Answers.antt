use Rattle.std.proofs.Common.{ap, subst, sym, ℕ}
use Rattle.draft_league.specs.Leagues.{League}
use Rattle.fpl_drafting.specs.Rows.{AreRowsOf}
use Rattle.request_handler.specs.Kept.{Kept}
use Rattle.fpl_drafting.proofs.StepLemmas.{rose_from, rose_since}
use Rattle.fpl_drafting.proofs.TellLemmas.{drafted_end, drafted_stop}
use Rattle.fpl_drafting.proofs.drafting.drafted.Goals as goal

pub steps_done-requires-clause-own : goal.steps_done-requires-clause-own
steps_done-requires-clause-own g c =
    subst (λ (members : ℕ). AreRowsOf members c.args.rows.now) (sym (ap (λ (l : League). l.members) c.new-draft.ensures)) c.requires.own

pub returns-in-Ok-clause-drafted : goal.returns-in-Ok-clause-drafted
returns-in-Ok-clause-drafted g c =
    let done = c.steps_done.new in
    let end = c.told.new in
    let first : Kept _ = record { host = c.args.host.now; moments = g.C.Clock.left c.args.clock.now; failed = g.K.Keeper.faults c.args.keeper.now; keeper = c.args.keeper.now } in
    let mid : Kept _ = record { host = done.host; moments = g.C.Clock.left done.clock; failed = g.K.Keeper.faults done.keeper; keeper = done.keeper } in
    let last : Kept _ = record { host = end.host; moments = g.C.Clock.left end.clock; failed = g.K.Keeper.faults end.keeper; keeper = end.keeper } in
    drafted_end _ g.K.Keeper.tells g.K.Keeper.serves g.K.Keeper.holds g.K.Keeper.passes c.args.members c.told.result c.new-draft.result c.in-Ok.draft c.args.rows.now
    (g.W.Sink.taken c.args.output.now) (g.W.Sink.taken done.output) (g.W.Sink.taken end.output) first mid last
    c.new-draft.ensures (ap g.W.Sink.taken c.in-Ok.ensures.output) c.in-Ok.ensures.done c.told.ensures.told

pub returns-in-Ok-clause-keeper : goal.returns-in-Ok-clause-keeper
returns-in-Ok-clause-keeper g c = λ is. rose_since _ _ _ c.in-Ok.ensures.later (c.told.ensures.keeper is)

pub returns-in-Ok-clause-write : goal.returns-in-Ok-clause-write
returns-in-Ok-clause-write g c = λ is. rose_from g.W.Sink.faults _ _ _ c.in-Ok.ensures.output (c.told.ensures.write is)

pub returns-in-Err-clause-drafted : goal.returns-in-Err-clause-drafted
returns-in-Err-clause-drafted g c =
    let done = c.steps_done.new in
    let first : Kept _ = record { host = c.args.host.now; moments = g.C.Clock.left c.args.clock.now; failed = g.K.Keeper.faults c.args.keeper.now; keeper = c.args.keeper.now } in
    let last : Kept _ = record { host = done.host; moments = g.C.Clock.left done.clock; failed = g.K.Keeper.faults done.keeper; keeper = done.keeper } in
    drafted_stop _ g.K.Keeper.tells g.K.Keeper.serves g.K.Keeper.holds g.K.Keeper.passes c.args.members c.in-Err.status c.new-draft.result c.args.rows.now
    (g.W.Sink.taken c.args.output.now) (g.W.Sink.taken done.output) first last c.new-draft.ensures c.in-Err.ensures.done
