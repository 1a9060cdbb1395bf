use Rattle.file_keeper.proofs.opening.begun.Goals as goal

pub returns-clause-settled : goal.returns-clause-settled
returns-clause-settled g c is_open m left = (left.0, g.met.F.Store.settled c.args.connection.store left.0.trees is_open left.1, left.2)
