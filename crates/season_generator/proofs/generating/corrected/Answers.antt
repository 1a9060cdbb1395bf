use Rattle.std.proofs.Common.{ap}
use Rattle.request_handler.specs.Kept.{Kept}
use Rattle.season_generator.proofs.CourseLemmas.{corrected_end, corrected_stop, rose_from}
use Rattle.season_generator.proofs.generating.corrected.Goals as goal

pub returns-in-Ok-clause-corrected : goal.returns-in-Ok-clause-corrected
returns-in-Ok-clause-corrected g c moments =
    let told = c.tabled_behind.new in
    let first : Kept _ = record { host = c.args.host.now; moments = moments; failed = g.K.Keeper.faults c.args.keeper.now; keeper = c.args.keeper.now } in
    let last : Kept _ = record { host = told.host; moments = moments; failed = g.K.Keeper.faults told.keeper; keeper = told.keeper } in
    corrected_end _ g.K.Keeper.tells g.K.Keeper.serves g.K.Keeper.holds g.K.Keeper.passes c.args.season.now c.args.first.now c.in-Ok.second
    (g.W.Sink.taken c.args.output.now) (g.W.Sink.taken told.output) (g.W.Sink.taken c.summarised.new.output) c.summarised.result first last
    (ap g.W.Sink.taken c.in-Ok.ensures.output) c.summarised.ensures.printed (c.in-Ok.ensures.tabled moments)

pub returns-in-Ok-clause-write : goal.returns-in-Ok-clause-write
returns-in-Ok-clause-write g c is = rose_from g.W.Sink.faults _ _ _ c.in-Ok.ensures.output (c.summarised.ensures.write is)

pub returns-in-Err-clause-corrected : goal.returns-in-Err-clause-corrected
returns-in-Err-clause-corrected g c moments =
    let told = c.tabled_behind.new in
    let first : Kept _ = record { host = c.args.host.now; moments = moments; failed = g.K.Keeper.faults c.args.keeper.now; keeper = c.args.keeper.now } in
    let last : Kept _ = record { host = told.host; moments = moments; failed = g.K.Keeper.faults told.keeper; keeper = told.keeper } in
    corrected_stop _ g.K.Keeper.tells g.K.Keeper.serves g.K.Keeper.holds g.K.Keeper.passes c.args.season.now c.args.first.now
    (g.W.Sink.taken c.args.output.now) (g.W.Sink.taken told.output) c.in-Err.status first last (c.in-Err.ensures.tabled moments)
