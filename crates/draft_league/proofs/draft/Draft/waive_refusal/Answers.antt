use Rattle.draft_league.proofs.Keeping.{owners_apart, squads_full}
use Rattle.draft_league.proofs.draft.Draft.waive_refusal.Goals as goal

pub returns-clause-owners : goal.returns-clause-owners
returns-clause-owners c = rw (← c.self.view_is) (owners_apart _ c.self.inside.held.items c.self.invariant)

pub returns-clause-squads : goal.returns-clause-squads
returns-clause-squads c = rw (← c.self.view_is) (squads_full _ c.self.inside.held.items c.self.invariant)
