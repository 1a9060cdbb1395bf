use Rattle.draft_league.proofs.Keeping.{owners_apart}
use Rattle.draft_league.proofs.draft.Draft.owner.Goals as goal

pub returns-clause-owners : goal.returns-clause-owners
returns-clause-owners c = rw (← c.self.view_is) (owners_apart _ c.self.inside.held.items c.self.invariant)
