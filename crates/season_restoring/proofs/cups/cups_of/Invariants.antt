use Rattle.std.proofs.Common.{◌≡◌, length, take}
use Rattle.fpl_base.specs.Keeping.{map_of}
use Rattle.season_restoring.specs.CupRows.{TellsCups}
use Rattle.season_restoring.proofs.cups.cups_of.Given as goal

abbrev pub invariant-loop-row : goal.invariant-loop-row
invariant-loop-row l = record {
  told : TellsCups (map_of (take l.row-index l.row-items)) l.cups;
  count : length l.cups ≡ l.row-index;
}
