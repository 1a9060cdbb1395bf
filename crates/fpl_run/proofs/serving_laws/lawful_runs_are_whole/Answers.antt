use Rattle.fpl_run.proofs.WholeLemmas.{pipes_are_whole, serves_are_whole}
use Rattle.fpl_run.proofs.serving_laws.lawful_runs_are_whole.Goals as goal

pub returns-clause-pipe : goal.returns-clause-pipe
returns-clause-pipe g c =
    pipes_are_whole c.replies_are_whole.ensures.session _ g.K.Keeper.tells g.K.Keeper.serves g.K.Keeper.holds g.K.Keeper.passes g.K.Keeper.faults
    c.lawful_books_are_whole.ensures

pub returns-clause-serve : goal.returns-clause-serve
returns-clause-serve g c =
    serves_are_whole c.replies_are_whole.ensures.session _ g.K.Keeper.tells g.K.Keeper.serves g.K.Keeper.holds g.K.Keeper.passes g.K.Keeper.faults
    c.lawful_books_are_whole.ensures
