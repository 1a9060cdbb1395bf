use Rattle.fpl_reports.proofs.FolderFacts.{all_late}
use Rattle.fpl_reports.proofs.folder.fixtures_of.Goals as goal

pub deadlines_of-requires : goal.deadlines_of-requires
deadlines_of-requires c = rw c.as_slice.ensures.value (all_late c.args.bytes.now c.in-Ok.rows.items c.in-Ok.ensures.rows)
