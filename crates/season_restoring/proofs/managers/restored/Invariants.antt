use Rattle.std.proofs.Common.{◌≡◌, length}
use Rattle.fpl_base.specs.Keeping.{map_of}
use Rattle.season_restoring.specs.Restoring.{AreRestored}
use Rattle.season_restoring.proofs.managers.restored.Given as goal

abbrev pub invariant-entries : goal.invariant-entries
invariant-entries l =
    AreRestored (map_of l.stored) l.players l.book.managers × (l.book.profile ≡ l.fn.profile) × (length l.book.managers ≡ l.counter)
