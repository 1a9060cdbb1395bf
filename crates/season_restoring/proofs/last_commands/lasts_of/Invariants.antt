use Rattle.std.proofs.Common.{take}
use Rattle.fpl_base.specs.Keeping.{map_of}
use Rattle.season_restoring.specs.LastCommands.{AreLasts}
use Rattle.season_restoring.proofs.last_commands.lasts_of.Given as goal

abbrev pub invariant-loop-row : goal.invariant-loop-row
invariant-loop-row l = AreLasts (map_of (take l.row-index l.row-items)) l.lasts
