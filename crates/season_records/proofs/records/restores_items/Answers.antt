use Rattle.season_records.proofs.ReadFacts.{rows_tell_items}
use Rattle.season_records.proofs.records.restores_items.Goals as goal

pub returns : goal.returns
returns c book = rows_tell_items c.args.records.now book c.have_bytes.ensures
