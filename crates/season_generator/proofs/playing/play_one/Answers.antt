use Rattle.std.proofs.Common.{◌∙◌, sym}
use Rattle.request_handler.specs.Kept.{Kept}
use Rattle.season_generator.proofs.CourseLemmas.{step_done, step_ends}
use Rattle.season_generator.proofs.playing.play_one.Goals as goal

pub returns-then-is_done-clause-played : goal.returns-then-is_done-clause-played
returns-then-is_done-clause-played g c moments =
    let asked = c.ask_at-told.new in
    let first : Kept _ = record { host = c.args.host.now; moments = moments; failed = g.K.Keeper.faults c.args.keeper.now; keeper = c.args.keeper.now } in
    let last : Kept _ = record { host = asked.host; moments = moments; failed = g.K.Keeper.faults asked.keeper; keeper = asked.keeper } in
    step_done _ g.K.Keeper.tells g.K.Keeper.serves g.K.Keeper.holds g.K.Keeper.passes c.args.season.now c.args.number c.in-Ok.step c.ask_at-told.result (g.W.Sink.taken c.args.output.now)
    first last c.in-Ok.ensures.step (sym c.is_done.ensures ∙ c.if-is_done.true) (c.ask_at-told.ensures.heard moments)

pub returns-clause-played : goal.returns-clause-played
returns-clause-played g c moments =
    let asked = c.ask_at-told.new in
    let first : Kept _ = record { host = c.args.host.now; moments = moments; failed = g.K.Keeper.faults c.args.keeper.now; keeper = c.args.keeper.now } in
    let last : Kept _ = record { host = asked.host; moments = moments; failed = g.K.Keeper.faults asked.keeper; keeper = asked.keeper } in
    step_ends _ g.K.Keeper.tells g.K.Keeper.serves g.K.Keeper.holds g.K.Keeper.passes c.args.season.now c.args.number c.in-Ok.step c.ask_at-told.result (g.W.Sink.taken c.args.output.now)
    (g.W.Sink.taken c.halted.new.output) c.halted.result first last c.in-Ok.ensures.step (sym c.is_done.ensures ∙ c.if-is_done.false) c.halted.ensures.ends (c.ask_at-told.ensures.heard moments)
