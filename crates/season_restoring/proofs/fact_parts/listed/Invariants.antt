use Rattle.std.proofs.Common.{◌≡◌}
use Rattle.season_restoring.proofs.fact_parts.listed.Given as goal

abbrev pub invariant-clubs : goal.invariant-clubs
invariant-clubs l = l.clubs ≡ l.yielded
