use Rattle.season_records.proofs.ReadFacts.{bytes_tell_items, rows_tell_items}
use Rattle.season_records.proofs.ranges.restored_items.Goals as goal

pub returns-clause-bytes : goal.returns-clause-bytes
returns-clause-bytes c = bytes_tell_items

pub returns-clause-rows : goal.returns-clause-rows
returns-clause-rows c = rows_tell_items
