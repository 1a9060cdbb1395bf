use Rattle.std.proofs.Common.{◌≡◌, ◌≤◌, drop, false}
use Rattle.request_handler.specs.Kept.{Leads}
use Rattle.fpl_drafting.proofs.TellLemmas.{IsAsked}
use Rattle.fpl_drafting.proofs.tabling.points_asked.Given as goal

-- the questions before this one were asked, and nothing was written
abbrev pub invariant-loop-place : goal.invariant-loop-place
invariant-loop-place g l = record {
  on : Leads g.K.Keeper.tells g.K.Keeper.serves g.K.Keeper.holds g.K.Keeper.passes
      (record { host = l.fn.host; moments = g.C.Clock.left l.fn.clock; failed = g.K.Keeper.faults l.fn.keeper; keeper = l.fn.keeper })
      (record { host = l.host; moments = g.C.Clock.left l.clock; failed = g.K.Keeper.faults l.keeper; keeper = l.keeper })
      (IsAsked l.fn.questions (drop l.place l.fn.questions) l.so_far (g.W.Sink.taken l.fn.output));
  fresh : l.host.stale ≡ false;
  output : l.output ≡ l.fn.output;
  later : g.K.Keeper.faults l.fn.keeper ≤ g.K.Keeper.faults l.keeper;
}
