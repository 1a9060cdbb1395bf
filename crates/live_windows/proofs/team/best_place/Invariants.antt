use Rattle.std.proofs.Common.{◌<◌, get_or, length, pos}
use Rattle.fpl_base.specs.declared.kinds.Position.TheVariants.{Keeper}
use Rattle.live_windows.proofs.Tops.{IsBestOf}
use Rattle.live_windows.proofs.team.best_place.Given as goal

abbrev pub invariant-loop-place : goal.invariant-loop-place
invariant-loop-place l = record {
  within : l.best < length l.rows;
  best : IsBestOf l.rows l.place (get_or l.rows l.best (0, Keeper, pos 0));
}
