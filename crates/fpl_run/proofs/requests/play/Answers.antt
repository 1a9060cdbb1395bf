use Rattle.std.proofs.Common.{◌<◌, ◌^◌, List, inl, inr, length, refl, subst, sym}
use Rattle.fpl_events.specs.Rows.{AreDoable}
use Rattle.fpl_events.specs.declared.row.EventRow.{EventRow}
use Rattle.fpl_events.specs.Playing.{IsPlayed}
use Rattle.fpl_run.specs.Requests.{RunsThrough}
use Rattle.fpl_run.proofs.requests.play.Goals as goal

pub play_all-requires-clause-doable : goal.play_all-requires-clause-doable
play_all-requires-clause-doable g c = subst (λ (rows : List EventRow). AreDoable c.args.minutes 0 rows) (sym c.as_slice.ensures.value) c.in-Ok.ensures.doable

pub play_all-requires-clause-few : goal.play_all-requires-clause-few
play_all-requires-clause-few g c = subst (λ (rows : List EventRow). length rows < 2 ^ 32) (sym c.as_slice.ensures.value) c.in-Ok.ensures.few

pub returns-in-Ok-clause-plays : goal.returns-in-Ok-clause-plays
returns-in-Ok-clause-plays g c =
    let before = g.W.Sink.taken c.args.output.now in
    let after = g.W.Sink.taken c.play_all.new.output in
    inr (
      c.in-Ok.rows.items,
      c.in-Ok.ensures.rows,
      subst (λ (rows : List EventRow). RunsThrough g.K.Keeper.tells g.K.Keeper.serves g.K.Keeper.holds g.K.Keeper.passes g.K.Keeper.faults c.args.keeper.now c.play_all.new.keeper
          c.args.key.now (g.C.Clock.left c.args.clock.now) (g.C.Clock.left c.play_all.new.clock) before after c.play_all.result
          (IsPlayed c.args.fixture c.args.minutes rows before after c.play_all.result)) c.as_slice.ensures.value c.play_all.ensures.plays,
    )

pub returns-in-Err-clause-plays : goal.returns-in-Err-clause-plays
returns-in-Err-clause-plays g c = inl (c.in-Err.fault, c.in-Err.ensures.fault, c.unread_rows.ensures.told, refl, refl)
