use Rattle.std.proofs.Common.{List, ap, inl, inr, refl, subst, ℕ}
use Rattle.std.specs.Prelude.{Err}
use Rattle.fpl_run.specs.Requests.{Drafts}
use Rattle.fpl_run.specs.declared.input.InputFault.{InputFault}
use Rattle.fpl_run.proofs.drafts.draft.Goals as goal

pub returns-in-Ok-clause-drafted : goal.returns-in-Ok-clause-drafted
returns-in-Ok-clause-drafted g c =
    let all = c.in-Ok.ensures.all in
    inl (
      c.in-Ok.bytes.items,
      all.0,
      all.1,
      c.in-Ok.ensures.few,
      subst (λ (bytes : List ℕ). Drafts g.K.Keeper.tells g.K.Keeper.serves g.K.Keeper.holds g.K.Keeper.passes g.K.Keeper.faults c.args.keeper.now c.draft.new.keeper
          c.args.key.now c.args.members bytes (g.C.Clock.left c.args.clock.now) (g.C.Clock.left c.draft.new.clock) (g.W.Sink.taken c.args.output.now) (g.W.Sink.taken c.draft.new.output) c.draft.result)
          c.as_slice.ensures.value c.draft.ensures.drafts,
    )

pub returns-in-Err-Read-clause-drafted : goal.returns-in-Err-Read-clause-drafted
returns-in-Err-Read-clause-drafted g c = inr (inr (inl refl), refl, refl, refl)

pub returns-in-Err-Long-clause-drafted : goal.returns-in-Err-Long-clause-drafted
returns-in-Err-Long-clause-drafted g c = inr (inl (refl, c.in-Err-Long.ensures.long (ap (λ (fault : InputFault). Err fault) c.in-Err-Long.field-0-is)), refl, refl, refl)

pub returns-in-Err-Memory-clause-drafted : goal.returns-in-Err-Memory-clause-drafted
returns-in-Err-Memory-clause-drafted g c = inr (inr (inr refl), refl, refl, refl)
