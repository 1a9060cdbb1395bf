use Rattle.draft_league.proofs.Keeping.{owners_apart, squads_full}
use Rattle.draft_league.proofs.draft.Draft.bid.Goals as goal

-- a bid changes neither the picks nor the outcomes

pub returns-in_err-push_bid-clause-squads : goal.returns-in_err-push_bid-clause-squads
returns-in_err-push_bid-clause-squads c = squads_full _ c.self.inside.held.items c.self.invariant

pub returns-clause-owners : goal.returns-clause-owners
returns-clause-owners c = let apart = owners_apart _ c.self.inside.held.items c.self.invariant in record { now = apart.now; at = apart.at }

pub returns-clause-squads : goal.returns-clause-squads
returns-clause-squads c = squads_full _ c.self.inside.held.items c.self.invariant
