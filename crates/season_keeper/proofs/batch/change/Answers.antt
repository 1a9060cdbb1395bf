use Rattle.season_keeper.proofs.batch.change.Goals as goal

pub returns-in-Put-clause-made : goal.returns-in-Put-clause-made
returns-in-Put-clause-made g c clean mode = rw c.in-Put.is (rw c.as_slice.ensures at (c.put.ensures.made clean mode))

pub returns-in-Delete-clause-made : goal.returns-in-Delete-clause-made
returns-in-Delete-clause-made g c clean mode = rw c.in-Delete.is (c.delete.ensures.made clean mode)
