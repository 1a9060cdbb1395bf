use Rattle.std.proofs.Common.{ap}
use Rattle.request_handler.specs.Kept.{Kept}
use Rattle.season_generator.proofs.CourseLemmas.{rose_behind, rose_from, season_end, season_stop}
use Rattle.season_generator.proofs.generating.generated.Goals as goal

pub returns-in-Ok-clause-generated : goal.returns-in-Ok-clause-generated
returns-in-Ok-clause-generated g c moments =
    let told = c.tabled_behind.new in
    let end = c.corrected.new in
    let first : Kept _ = record { host = c.args.host.now; moments = moments; failed = g.K.Keeper.faults c.args.keeper.now; keeper = c.args.keeper.now } in
    let mid : Kept _ = record { host = told.host; moments = moments; failed = g.K.Keeper.faults told.keeper; keeper = told.keeper } in
    let last : Kept _ = record { host = end.host; moments = moments; failed = g.K.Keeper.faults end.keeper; keeper = end.keeper } in
    season_end _ g.K.Keeper.tells g.K.Keeper.serves g.K.Keeper.holds g.K.Keeper.passes c.args.seed c.new-season.result told.season c.in-Ok.first
    (g.W.Sink.taken c.args.output.now) (g.W.Sink.taken told.output) (g.W.Sink.taken end.output) c.corrected.result first mid last
    c.new-season.ensures c.in-Ok.ensures.same (ap g.W.Sink.taken c.in-Ok.ensures.output) (c.in-Ok.ensures.tabled moments) (c.corrected.ensures.corrected moments)

pub returns-in-Ok-clause-keeper : goal.returns-in-Ok-clause-keeper
returns-in-Ok-clause-keeper g c is = rose_behind _ _ _ c.in-Ok.ensures.later (c.corrected.ensures.keeper is)

pub returns-in-Ok-clause-write : goal.returns-in-Ok-clause-write
returns-in-Ok-clause-write g c is = rose_from g.W.Sink.faults _ _ _ c.in-Ok.ensures.output (c.corrected.ensures.write is)

pub returns-in-Err-clause-generated : goal.returns-in-Err-clause-generated
returns-in-Err-clause-generated g c moments =
    let told = c.tabled_behind.new in
    let first : Kept _ = record { host = c.args.host.now; moments = moments; failed = g.K.Keeper.faults c.args.keeper.now; keeper = c.args.keeper.now } in
    let last : Kept _ = record { host = told.host; moments = moments; failed = g.K.Keeper.faults told.keeper; keeper = told.keeper } in
    season_stop _ g.K.Keeper.tells g.K.Keeper.serves g.K.Keeper.holds g.K.Keeper.passes c.args.seed c.new-season.result
    (g.W.Sink.taken c.args.output.now) (g.W.Sink.taken told.output) c.in-Err.status first last c.new-season.ensures (c.in-Err.ensures.tabled moments)
