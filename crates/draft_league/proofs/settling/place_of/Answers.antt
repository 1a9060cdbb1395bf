use Rattle.draft_league.proofs.Settlings.{first_at}
use Rattle.draft_league.proofs.settling.place_of.Goals as goal

pub returns-then-bid-member : goal.returns-then-bid-member
returns-then-bid-member c =
    first_at c.args.bids.now c.args.member c.loop-place.place c.index-bids-place.result c.loop-place-test.true c.index-bids-place.is c.if-bid-member.true c.loop-place.invariant
