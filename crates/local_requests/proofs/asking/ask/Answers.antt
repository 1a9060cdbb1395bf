use Rattle.local_requests.proofs.AskingLemmas.{heard_told, leads_moments}
use Rattle.local_requests.proofs.asking.ask.Goals as goal

pub returns-clause-heard : goal.returns-clause-heard
returns-clause-heard g c =
    leads_moments _ g.K.Keeper.tells g.K.Keeper.serves g.K.Keeper.holds g.K.Keeper.passes
    (record { host = c.args.host.now; moments = g.C.Clock.left c.args.clock.now; failed = g.K.Keeper.faults c.args.keeper.now; keeper = c.args.keeper.now })
    (record { host = c.ask_at.new.host; moments = g.C.Clock.left c.now-now.new.self; failed = g.K.Keeper.faults c.ask_at.new.keeper; keeper = c.ask_at.new.keeper })
    (g.C.Clock.left c.now-now.new.self) _ _
    (λ served behind is heard. heard_told served behind (g.C.Clock.left c.args.clock.now) (g.C.Clock.left c.now-now.new.self) c.now-now.result c.args.caller c.args.request.now c.ask_at.result
    c.now-now.ensures.told is heard)
    (c.ask_at.ensures.heard (g.C.Clock.left c.now-now.new.self))
