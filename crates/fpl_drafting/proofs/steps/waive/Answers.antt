use Rattle.fpl_drafting.proofs.steps.waive.Goals as goal

pub returns-clause-waived : goal.returns-clause-waived
returns-clause-waived c = (c.in_ok-_outcomes._outcomes.items, c.in_ok-_outcomes.ensures.outcomes, c.in_ok-_outcomes.ensures.ok)
