use Rattle.std.proofs.Common.{◌≡◌, length}
use Rattle.std.specs.List.{AllByRecursion as Each}
use Rattle.draft_league.specs.Settling.{HasTurn}
use Rattle.draft_league.specs.Waivers.{after_all}
use Rattle.draft_league.specs.declared.kinds.Bid.{Bid}
use Rattle.draft_league.proofs.Settlings.{IsUnderway}
use Rattle.draft_league.proofs.settling.Standing.settle.Given as goal

-- so many bids were settled, and the others are left
abbrev pub invariant-loop-place : goal.invariant-loop-place
invariant-loop-place l = record {
  on : IsUnderway l.fn.self l.fn.bids.items l.outcomes.items l.self l.left.items;
  now : l.self ≡ after_all l.fn.self l.outcomes.items;
  turns : Each (λ (bid : Bid). HasTurn l.self.order bid.member) l.left.items;
}

abbrev pub decreases-loop-place : goal.decreases-loop-place
decreases-loop-place l = length l.left.items
