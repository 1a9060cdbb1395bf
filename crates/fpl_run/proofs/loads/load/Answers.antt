use Rattle.fpl_run.proofs.loads.load.Goals as goal

pub returns-clause-loaded : goal.returns-clause-loaded
returns-clause-loaded g c = (c.load-end.result.note, c.load-end.ensures.loads, c.put.ensures)
