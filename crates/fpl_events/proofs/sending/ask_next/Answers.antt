use Rattle.std.proofs.Common.{◌∙◌, ap}
use Rattle.request_handler.specs.Kept.{Kept}
use Rattle.fpl_events.specs.Sending.{next_number}
use Rattle.fpl_events.proofs.SendingLemmas.{heard_next}
use Rattle.fpl_events.proofs.sending.ask_next.Goals as goal

pub returns-clause-heard : goal.returns-clause-heard
returns-clause-heard g c =
    let first : Kept _ = record { host = c.args.host.now; moments = g.C.Clock.left c.args.clock.now; failed = g.K.Keeper.faults c.args.keeper.now; keeper = c.args.keeper.now } in
    let last : Kept _ = record { host = c.ask.new.host; moments = g.C.Clock.left c.ask.new.clock; failed = g.K.Keeper.faults c.ask.new.keeper; keeper = c.ask.new.keeper } in
    heard_next _ g.K.Keeper.tells g.K.Keeper.serves g.K.Keeper.holds g.K.Keeper.passes c.next_number-number.result c.args.command c.ask.result first last
    (c.next_number-number.ensures.next ∙ ap next_number c.last.ensures) c.requires.fresh c.ask.ensures.heard
