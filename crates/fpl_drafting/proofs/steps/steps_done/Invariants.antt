use Rattle.std.proofs.Common.{◌≡◌, ◌+◌, ◌≤◌, drop, false}
use Rattle.fpl_drafting.specs.Rows.{AreRowsOf}
use Rattle.request_handler.specs.Kept.{Leads}
use Rattle.fpl_drafting.proofs.StepLemmas.{IsUnderway}
use Rattle.fpl_drafting.proofs.steps.steps_done.Given as goal

-- the rows before this one were done, and nothing was written
abbrev pub invariant-loop-place : goal.invariant-loop-place
invariant-loop-place g l = record {
  on : Leads g.K.Keeper.tells g.K.Keeper.serves g.K.Keeper.holds g.K.Keeper.passes
      (record { host = l.fn.host; moments = g.C.Clock.left l.fn.clock; failed = g.K.Keeper.faults l.fn.keeper; keeper = l.fn.keeper })
      (record { host = l.host; moments = g.C.Clock.left l.clock; failed = g.K.Keeper.faults l.keeper; keeper = l.keeper })
      (IsUnderway l.fn.rows l.fn.draft (g.W.Sink.taken l.fn.output) (l.place + 1) (drop l.place l.fn.rows) l.draft);
  own : AreRowsOf l.draft.members (drop l.place l.fn.rows);
  fresh : l.host.stale ≡ false;
  output : l.output ≡ l.fn.output;
  later : g.K.Keeper.faults l.fn.keeper ≤ g.K.Keeper.faults l.keeper;
}
