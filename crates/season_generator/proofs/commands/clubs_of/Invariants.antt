use Rattle.std.proofs.Common.{◌≡◌}
use Rattle.season_generator.specs.Made.{clubs}
use Rattle.season_generator.proofs.commands.clubs_of.Given as goal

abbrev pub invariant-loop-before : goal.invariant-loop-before
invariant-loop-before l = l.list ≡ clubs l.before
