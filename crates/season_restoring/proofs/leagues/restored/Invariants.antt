use Rattle.std.proofs.Common.{◌≡◌, length}
use Rattle.season_restoring.specs.LeagueRestoring.{AreLeaguesRestored}
use Rattle.season_restoring.proofs.leagues.restored.Given as goal

abbrev pub invariant-leagues : goal.invariant-leagues
invariant-leagues l = AreLeaguesRestored l.stored l.book × (length l.book ≡ l.counter)
