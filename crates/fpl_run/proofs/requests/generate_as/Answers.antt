use Rattle.std.proofs.Common.{inl, inr, refl}
use Rattle.request_handler.specs.Kept.{Kept}
use Rattle.season_generator.specs.Generating.{IsGenerated}
use Rattle.fpl_run.proofs.RequestLemmas.{asked_runs}
use Rattle.fpl_run.proofs.requests.generate_as.Goals as goal

pub returns-in-Ok-clause-generates : goal.returns-in-Ok-clause-generates
returns-in-Ok-clause-generates g c = λ moments.
    let first : Kept _ = record { host = c.in-Ok.host; moments = moments; failed = g.K.Keeper.faults c.open.new.keeper; keeper = c.open.new.keeper } in
    let last : Kept _ = record { host = c.generated.new.host; moments = moments; failed = g.K.Keeper.faults c.generated.new.keeper; keeper = c.generated.new.keeper } in
    inl (asked_runs _ g.K.Keeper.tells g.K.Keeper.serves g.K.Keeper.holds g.K.Keeper.passes c.args.keeper.now first last c.args.key.now (g.K.Keeper.faults c.args.keeper.now)
    c.in-Ok.ensures.opened c.in-Ok.ensures.operator c.in-Ok.ensures.reread (c.in-Ok.ensures.counts (λ is. cc))
    (IsGenerated c.args.seed (g.W.Sink.taken c.args.output.now) (g.W.Sink.taken c.generated.new.output) c.generated.result) (c.generated.ensures.generated moments))

pub returns-in-Err-clause-generates : goal.returns-in-Err-clause-generates
returns-in-Err-clause-generates g c = λ moments. inr (refl, (c.in-Err.fault, c.in-Err.ensures.opened, c.in-Err.ensures.holds, c.unopened.ensures.told))
