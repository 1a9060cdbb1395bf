use Rattle.std.proofs.Common.{List, ℕ, inr, refl, subst}
use Rattle.season_opening.specs.declared.loading.OpenFault.TheVariants as fault
use Rattle.season_generator.specs.Generating.{IsGenerated}
use Rattle.fpl_run.proofs.PipeLemmas.{holds_still}
use Rattle.fpl_run.specs.Requests.{RunsThrough}
use Rattle.fpl_run.proofs.requests.generate.Goals as goal

pub returns-in-Ok-clause-generates : goal.returns-in-Ok-clause-generates
returns-in-Ok-clause-generates g c = λ moments.
    let before = g.W.Sink.taken c.args.output.now in
    let after = g.W.Sink.taken c.generate_as.new.output in
    subst (λ (k : List ℕ). RunsThrough g.K.Keeper.tells g.K.Keeper.serves g.K.Keeper.holds g.K.Keeper.passes g.K.Keeper.faults c.args.keeper.now c.generate_as.new.keeper k moments moments before after c.generate_as.result
    (IsGenerated c.args.seed before after c.generate_as.result)) c.in-Ok.ensures (c.generate_as.ensures.generates moments)

pub returns-in-Err-clause-generates : goal.returns-in-Err-clause-generates
returns-in-Err-clause-generates g c = λ moments. inr (refl, (fault.Memory, refl, holds_still _ g.K.Keeper.tells g.K.Keeper.serves g.K.Keeper.holds g.K.Keeper.passes c.args.keeper.now, (refl, refl)))
