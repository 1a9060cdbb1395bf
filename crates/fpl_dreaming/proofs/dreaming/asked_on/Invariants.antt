use Rattle.std.proofs.Common.{◌≡◌, ◌≤◌, drop, false}
use Rattle.request_handler.specs.Kept.{Leads}
use Rattle.fpl_dreaming.proofs.AskedLemmas.{On}
use Rattle.fpl_dreaming.proofs.RowLists.{AreRowsOf}
use Rattle.fpl_dreaming.proofs.dreaming.asked_on.Given as goal

-- so many players were asked for, and the others are left
abbrev pub invariant-loop-player : goal.invariant-loop-player
invariant-loop-player g l = record {
  on : Leads g.K.Keeper.tells g.K.Keeper.serves g.K.Keeper.holds g.K.Keeper.passes
      (record { host = l.fn.host; moments = g.C.Clock.left l.fn.clock; failed = g.K.Keeper.faults l.fn.keeper; keeper = l.fn.keeper })
      (record { host = l.host; moments = g.C.Clock.left l.clock; failed = g.K.Keeper.faults l.keeper; keeper = l.keeper })
      (On l.gameweek l.players (drop l.player-index l.players) l.rows.items (g.W.Sink.taken l.fn.output));
  fresh : l.host.stale ≡ false;
  rows : AreRowsOf l.players l.player-index l.rows.items;
  unwritten : l.output ≡ l.fn.output;
  later : g.K.Keeper.faults l.fn.keeper ≤ g.K.Keeper.faults l.keeper;
}
