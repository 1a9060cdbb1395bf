use Rattle.std.proofs.Common.{◌∙◌, sym}
use Rattle.request_handler.specs.Kept.{Kept}
use Rattle.fpl_events.proofs.SendingLemmas.{line_done, line_ends}
use Rattle.fpl_events.proofs.sending.send_line.Goals as goal

pub returns-then-is_done-clause-sent : goal.returns-then-is_done-clause-sent
returns-then-is_done-clause-sent g c =
    let told = c.ask_next-told.new in
    let first : Kept _ = record { host = c.args.host.now; moments = g.C.Clock.left c.args.clock.now; failed = g.K.Keeper.faults c.args.keeper.now; keeper = c.args.keeper.now } in
    let last : Kept _ = record { host = told.host; moments = g.C.Clock.left told.clock; failed = g.K.Keeper.faults told.keeper; keeper = told.keeper } in
    line_done _ g.K.Keeper.tells g.K.Keeper.serves g.K.Keeper.holds g.K.Keeper.passes c.args.fixture c.args.events.now c.args.player c.line_command-command.result c.ask_next-told.result
    (g.W.Sink.taken c.args.output.now) first last c.line_command-command.ensures.line (sym c.is_done.ensures ∙ c.if-is_done.true) c.ask_next-told.ensures.heard

pub returns-clause-sent : goal.returns-clause-sent
returns-clause-sent g c =
    let told = c.ask_next-told.new in
    let first : Kept _ = record { host = c.args.host.now; moments = g.C.Clock.left c.args.clock.now; failed = g.K.Keeper.faults c.args.keeper.now; keeper = c.args.keeper.now } in
    let last : Kept _ = record { host = told.host; moments = g.C.Clock.left told.clock; failed = g.K.Keeper.faults told.keeper; keeper = told.keeper } in
    line_ends _ g.K.Keeper.tells g.K.Keeper.serves g.K.Keeper.holds g.K.Keeper.passes c.args.fixture c.args.events.now c.args.player c.line_command-command.result c.ask_next-told.result
    (g.W.Sink.taken c.args.output.now) (g.W.Sink.taken c.halted.new.output) c.halted.result first last c.line_command-command.ensures.line
    (sym c.is_done.ensures ∙ c.if-is_done.false) c.halted.ensures.ends c.ask_next-told.ensures.heard
