use Rattle.std.proofs.Common.{◌≡◌, ltb, take}
use Rattle.std.specs.List.{filter}
use Rattle.draft_league.specs.declared.kinds.Bid.{Bid}
use Rattle.draft_league.proofs.draft.bids_after.Given as goal

abbrev pub invariant-loop-bid : goal.invariant-loop-bid
invariant-loop-bid l = l.found.items ≡ filter (λ (bid : Bid). ltb l.g bid.gw) (take l.bid-index l.bids)
