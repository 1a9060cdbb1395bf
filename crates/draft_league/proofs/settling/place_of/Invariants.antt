use Rattle.std.proofs.Common.{◌≡◌, false, take}
use Rattle.draft_league.specs.Waivers.{has_bid}
use Rattle.draft_league.proofs.settling.place_of.Given as goal

abbrev pub invariant-loop-place : goal.invariant-loop-place
invariant-loop-place l = has_bid (take l.place l.bids) l.member ≡ false
