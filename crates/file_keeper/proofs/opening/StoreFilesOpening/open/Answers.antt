use Rattle.sqlite.specs.Files.{file_state}
use Rattle.file_keeper.proofs.Finding.{not_err, opened_over}
use Rattle.file_keeper.proofs.opening.StoreFilesOpening.open.Goals as goal

pub returns-in-Ok-clause-opened : goal.returns-in-Ok-clause-opened
returns-in-Ok-clause-opened g c =
    opened_over file_state c.args.path.now c.over.result.conn c.in-Ok.connection c.over.ensures.0 (record { named = λ is. not_err _ _ (c.in-Ok.ensures.memory is); opened = c.in-Ok.ensures.opened })
