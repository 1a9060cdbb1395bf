use Rattle.season_running.proofs.accepting.change.Goals as goal

pub returns-in-Ok-clause-taken : goal.returns-in-Ok-clause-taken
returns-in-Ok-clause-taken c = (c.made_by-made.ensures, c.in-Ok.ensures.done, c.in_ok-before.ensures.0)
