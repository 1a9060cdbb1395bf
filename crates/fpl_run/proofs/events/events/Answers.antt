use Rattle.std.proofs.Common.{List, ap, inl, inr, refl, subst, ℕ}
use Rattle.std.specs.Prelude.{Err}
use Rattle.fpl_run.specs.Requests.{Plays}
use Rattle.fpl_run.specs.declared.input.InputFault.{InputFault}
use Rattle.fpl_run.proofs.events.events.Goals as goal

pub returns-in-Ok-clause-recorded : goal.returns-in-Ok-clause-recorded
returns-in-Ok-clause-recorded g c =
    let all = c.in-Ok.ensures.all in
    inl (
      c.in-Ok.bytes.items,
      all.0,
      all.1,
      c.in-Ok.ensures.few,
      subst (λ (bytes : List ℕ). Plays g.K.Keeper.tells g.K.Keeper.serves g.K.Keeper.holds g.K.Keeper.passes g.K.Keeper.faults c.args.keeper.now c.play.new.keeper
          c.args.key.now c.args.fixture c.args.minutes bytes (g.C.Clock.left c.args.clock.now) (g.C.Clock.left c.play.new.clock) (g.W.Sink.taken c.args.output.now) (g.W.Sink.taken c.play.new.output) c.play.result)
          c.as_slice.ensures.value c.play.ensures.plays,
    )

pub returns-in-Err-Read-clause-recorded : goal.returns-in-Err-Read-clause-recorded
returns-in-Err-Read-clause-recorded g c = inr (inr (inl refl), refl, refl, refl)

pub returns-in-Err-Long-clause-recorded : goal.returns-in-Err-Long-clause-recorded
returns-in-Err-Long-clause-recorded g c = inr (inl (refl, c.in-Err-Long.ensures.long (ap (λ (fault : InputFault). Err fault) c.in-Err-Long.field-0-is)), refl, refl, refl)

pub returns-in-Err-Memory-clause-recorded : goal.returns-in-Err-Memory-clause-recorded
returns-in-Err-Memory-clause-recorded g c = inr (inr (inr refl), refl, refl, refl)
