use Rattle.sqlite_wal.specs.Files.{image_at}
use Rattle.sqlite.specs.Files.{file_state}
use Rattle.file_keeper.proofs.Finding.{begun_over}
use Rattle.file_keeper.proofs.opening.StoreFilesOpening.begin.Goals as goal

pub returns-in-Ok-clause-begun : goal.returns-in-Ok-clause-begun
returns-in-Ok-clause-begun g c =
    let kept = c.begun.ensures.same in
    begun_over file_state (image_at g.S.Start) c.args.path.now c.begun.result.conn c.in-Ok.connection c.begun.result.ready kept.0 kept.2 c.in-Ok.ensures.memory c.in-Ok.ensures.opened c.in-Ok.ensures.found c.begun.ensures.settled
