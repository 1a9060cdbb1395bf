use Rattle.std.proofs.Common.{◌≡◌, drop}
use Rattle.draft_league.specs.Waivers.{first_with}
use Rattle.draft_league.proofs.settling.first_with.Given as goal

abbrev pub invariant-loop-member : goal.invariant-loop-member
invariant-loop-member l = first_with l.bids (drop l.member-index l.order) ≡ first_with l.bids l.order
