use Rattle.std.proofs.Common.{List, inl, inr, refl, subst, sym}
use Rattle.fpl_drafting.specs.Rows.{AreRowsOf}
use Rattle.fpl_drafting.specs.declared.row.DraftRow.{DraftRow}
use Rattle.fpl_drafting.specs.Drafting.{IsDrafted}
use Rattle.fpl_run.specs.Requests.{RunsThrough}
use Rattle.fpl_run.proofs.draft_request.draft.Goals as goal

pub draft_all-requires-clause-own : goal.draft_all-requires-clause-own
draft_all-requires-clause-own g c = subst (λ (rows : List DraftRow). AreRowsOf c.args.members rows) (sym c.as_slice.ensures.value) c.in-Ok.ensures.own

pub returns-in-Ok-clause-drafts : goal.returns-in-Ok-clause-drafts
returns-in-Ok-clause-drafts g c =
    let before = g.W.Sink.taken c.args.output.now in
    let after = g.W.Sink.taken c.draft_all.new.output in
    inr (
      c.in-Ok.rows.items,
      c.in-Ok.ensures.rows,
      subst (λ (rows : List DraftRow). RunsThrough g.K.Keeper.tells g.K.Keeper.serves g.K.Keeper.holds g.K.Keeper.passes g.K.Keeper.faults c.args.keeper.now c.draft_all.new.keeper
          c.args.key.now (g.C.Clock.left c.args.clock.now) (g.C.Clock.left c.draft_all.new.clock) before after c.draft_all.result
          (IsDrafted c.args.members rows before after c.draft_all.result)) c.as_slice.ensures.value c.draft_all.ensures.drafts,
    )

pub returns-in-Err-clause-drafts : goal.returns-in-Err-clause-drafts
returns-in-Err-clause-drafts g c = inl (c.in-Err.fault, c.in-Err.ensures.fault, c.unread_rows.ensures.told, refl, refl)
