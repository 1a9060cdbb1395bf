use Rattle.record_keepers.proofs.over.work_over.Goals as goal

pub returns : goal.returns
returns g c = (_, c.with.ensures)
