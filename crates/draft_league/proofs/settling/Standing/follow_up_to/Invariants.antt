use Rattle.std.proofs.Common.{◌≡◌, drop}
use Rattle.draft_league.specs.Leagues.{table_by}
use Rattle.draft_league.proofs.settling.Standing.follow_up_to.Given as goal

abbrev pub invariant-loop-outcome : goal.invariant-loop-outcome
invariant-loop-outcome l = table_by l.g l.self (drop l.outcome-index l.outcomes) ≡ table_by l.g l.fn.self l.outcomes
