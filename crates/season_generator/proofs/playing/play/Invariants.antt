use Rattle.std.proofs.Common.{◌≡◌, ◌≤◌, ◌-◌, false, Option}
use Rattle.fpl_base.specs.Moments.{Moments}
use Rattle.request_handler.specs.Kept.{Leads}
use Rattle.season_generator.proofs.CourseLemmas.{IsUnderway}
use Rattle.season_generator.proofs.playing.play.Given as goal

-- the steps before this one were played, and nothing was written
abbrev pub invariant-loop-number : goal.invariant-loop-number
invariant-loop-number g l = record {
  underway : (moments : Option Moments) → Leads g.K.Keeper.tells g.K.Keeper.serves g.K.Keeper.holds g.K.Keeper.passes
      (record { host = l.fn.host; moments = moments; failed = g.K.Keeper.faults l.fn.keeper; keeper = l.fn.keeper })
      (record { host = l.host; moments = moments; failed = g.K.Keeper.faults l.keeper; keeper = l.keeper })
      (IsUnderway l.fn.season l.fn.from (l.fn.to - l.fn.from) l.number (l.fn.to - l.number) (g.W.Sink.taken l.fn.output));
  fresh : l.host.stale ≡ false;
  season : l.season ≡ l.fn.season;
  output : l.output ≡ l.fn.output;
  later : g.K.Keeper.faults l.fn.keeper ≤ g.K.Keeper.faults l.keeper;
}
