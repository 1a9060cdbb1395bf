use Rattle.std.proofs.Common.{◌≡◌, ◌≤◌, drop, false}
use Rattle.request_handler.specs.Kept.{Leads}
use Rattle.fpl_events.proofs.SendingLemmas.{IsSending}
use Rattle.fpl_events.proofs.sending.send_lines.Given as goal

-- the lines of the players before this one were sent, and nothing was written
abbrev pub invariant-loop-place : goal.invariant-loop-place
invariant-loop-place g l = record {
  on : Leads g.K.Keeper.tells g.K.Keeper.serves g.K.Keeper.holds g.K.Keeper.passes
      (record { host = l.fn.host; moments = g.C.Clock.left l.fn.clock; failed = g.K.Keeper.faults l.fn.keeper; keeper = l.fn.keeper })
      (record { host = l.host; moments = g.C.Clock.left l.clock; failed = g.K.Keeper.faults l.keeper; keeper = l.keeper })
      (IsSending l.fn.fixture l.fn.events l.fn.players (drop l.place l.fn.players) (g.W.Sink.taken l.fn.output));
  fresh : l.host.stale ≡ false;
  output : l.output ≡ l.fn.output;
  later : g.K.Keeper.faults l.fn.keeper ≤ g.K.Keeper.faults l.keeper;
}
