use Rattle.std.proofs.Common.{sym}
use Rattle.request_handler.specs.Kept.{Kept}
use Rattle.season_generator.proofs.CourseLemmas.{table_ends, table_told}
use Rattle.season_generator.proofs.table.tabled.Goals as goal

pub returns-in-Some-clause-tabled : goal.returns-in-Some-clause-tabled
returns-in-Some-clause-tabled g c moments =
    let asked = c.ask_at-told.new in
    let first : Kept _ = record { host = c.args.host.now; moments = moments; failed = g.K.Keeper.faults c.args.keeper.now; keeper = c.args.keeper.now } in
    let last : Kept _ = record { host = asked.host; moments = moments; failed = g.K.Keeper.faults asked.keeper; keeper = asked.keeper } in
    table_told _ g.K.Keeper.tells g.K.Keeper.serves g.K.Keeper.holds g.K.Keeper.passes c.moment_of_sheets.result c.ask_at-told.result c.in-Some.table (g.W.Sink.taken c.args.output.now)
    first last c.moment_of_sheets.ensures (sym c.in-Some.ensures) (c.ask_at-told.ensures.heard moments)

pub returns-clause-tabled : goal.returns-clause-tabled
returns-clause-tabled g c moments =
    let asked = c.ask_at-told.new in
    let first : Kept _ = record { host = c.args.host.now; moments = moments; failed = g.K.Keeper.faults c.args.keeper.now; keeper = c.args.keeper.now } in
    let last : Kept _ = record { host = asked.host; moments = moments; failed = g.K.Keeper.faults asked.keeper; keeper = asked.keeper } in
    table_ends _ g.K.Keeper.tells g.K.Keeper.serves g.K.Keeper.holds g.K.Keeper.passes c.moment_of_sheets.result c.ask_at-told.result (g.W.Sink.taken c.args.output.now) (g.W.Sink.taken c.halted.new.output)
    c.halted.result first last c.moment_of_sheets.ensures (sym c.in-None.ensures) c.halted.ensures.ends (c.ask_at-told.ensures.heard moments)
