use Rattle.std.proofs.Common.{◌≡◌, drop}
use Rattle.draft_league.specs.Waivers.{after_all}
use Rattle.draft_league.proofs.settling.Standing.follow_all.Given as goal

abbrev pub invariant-loop-outcome : goal.invariant-loop-outcome
invariant-loop-outcome l = after_all l.self (drop l.outcome-index l.outcomes) ≡ after_all l.fn.self l.outcomes
