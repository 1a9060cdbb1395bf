use Rattle.file_keeper.proofs.Finding.{begun_alone, begun_holds}
use Rattle.file_keeper.proofs.keeper.file_at.Goals as goal

pub returns-clause-holds : goal.returns-clause-holds
returns-clause-holds g c tells m tell = begun_holds _ _ _ _ _ c.at.result.stored c.at.ensures.begins tells m tell

pub returns-clause-passes : goal.returns-clause-passes
returns-clause-passes g c tells m tell x left = begun_alone _ _ _ _ _ c.at.result.stored c.at.ensures.begins tells m tell x left
