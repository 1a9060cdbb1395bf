use Rattle.std.proofs.Common.{◌≡◌, ◌≤◌, ◌+◌, ◌*◌, drop, false, length}
use Rattle.fpl_events.specs.Rows.{AreDoable}
use Rattle.request_handler.specs.Kept.{Leads}
use Rattle.fpl_events.proofs.PlayingLemmas.{IsGoing}
use Rattle.fpl_events.proofs.playing.played.Given as goal

-- the rows before this one were done, and nothing was written
abbrev pub invariant-loop-place : goal.invariant-loop-place
invariant-loop-place g l = record {
  on : Leads g.K.Keeper.tells g.K.Keeper.serves g.K.Keeper.holds g.K.Keeper.passes
      (record { host = l.fn.host; moments = g.C.Clock.left l.fn.clock; failed = g.K.Keeper.faults l.fn.keeper; keeper = l.fn.keeper })
      (record { host = l.host; moments = g.C.Clock.left l.clock; failed = g.K.Keeper.faults l.keeper; keeper = l.keeper })
      (IsGoing l.fn.fixture l.fn.minutes l.fn.rows (l.place + 1) l.events (drop l.place l.fn.rows) l.sent (g.W.Sink.taken l.fn.output));
  fresh : l.host.stale ≡ false;
  minutes : l.events.minutes ≡ l.fn.minutes;
  doable : AreDoable l.fn.minutes (length l.events.events) (drop l.place l.fn.rows);
  few : l.sent ≤ 400 * l.place;
  output : l.output ≡ l.fn.output;
  later : g.K.Keeper.faults l.fn.keeper ≤ g.K.Keeper.faults l.keeper;
}
