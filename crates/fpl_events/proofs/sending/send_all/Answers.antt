use Rattle.std.proofs.Common.{◌≡◌, ℕ, refl}
use Rattle.std.specs.Prelude.{Err, Ok, Result}
use Rattle.request_handler.specs.Kept.{Kept}
use Rattle.fpl_events.proofs.SendingLemmas.{all_sent}
use Rattle.fpl_events.proofs.sending.send_all.Goals as goal

-- the same status, of a part or of the whole
same_status : (one other : ℕ) → ◌≡◌ {A = Result ℕ ℕ} (Err one) (Err other) → ◌≡◌ {A = Result (Unit {0}) ℕ} (Err one) (Err other)
same_status one other is = cc

pub returns-in-Ok-clause-sent : goal.returns-in-Ok-clause-sent
returns-in-Ok-clause-sent g c =
    let first : Kept _ = record { host = c.args.host.now; moments = g.C.Clock.left c.args.clock.now; failed = g.K.Keeper.faults c.args.keeper.now; keeper = c.args.keeper.now } in
    let last : Kept _ = record { host = c.send_lines.new.host; moments = g.C.Clock.left c.send_lines.new.clock; failed = g.K.Keeper.faults c.send_lines.new.keeper; keeper = c.send_lines.new.keeper } in
    all_sent _ g.K.Keeper.tells g.K.Keeper.serves g.K.Keeper.holds g.K.Keeper.passes c.args.fixture c.args.events.now c.args.players.now (g.W.Sink.taken c.args.output.now) (g.W.Sink.taken c.send_lines.new.output) (Ok tt) _ first last refl c.in-Ok.ensures.sent

pub returns-in-Err-clause-sent : goal.returns-in-Err-clause-sent
returns-in-Err-clause-sent g c =
    let first : Kept _ = record { host = c.args.host.now; moments = g.C.Clock.left c.args.clock.now; failed = g.K.Keeper.faults c.args.keeper.now; keeper = c.args.keeper.now } in
    let last : Kept _ = record { host = c.send_lines.new.host; moments = g.C.Clock.left c.send_lines.new.clock; failed = g.K.Keeper.faults c.send_lines.new.keeper; keeper = c.send_lines.new.keeper } in
    all_sent _ g.K.Keeper.tells g.K.Keeper.serves g.K.Keeper.holds g.K.Keeper.passes c.args.fixture c.args.events.now c.args.players.now (g.W.Sink.taken c.args.output.now) (g.W.Sink.taken c.send_lines.new.output) (Err c.in-Err.status) _ first last refl c.in-Err.ensures.sent

pub returns-in-Err-clause-keeper : goal.returns-in-Err-clause-keeper
returns-in-Err-clause-keeper g c = λ is. c.in-Err.ensures.keeper (same_status _ _ is)

pub returns-in-Err-clause-write : goal.returns-in-Err-clause-write
returns-in-Err-clause-write g c = λ is. c.in-Err.ensures.write (same_status _ _ is)
