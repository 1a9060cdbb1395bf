use Rattle.season_records.proofs.StayFacts.{items_among, items_of_among, looks_tell_items, told_is_item}
use Rattle.season_records.proofs.ranges.slots_tell_items.Goals as goal

pub returns-clause-among : goal.returns-clause-among
returns-clause-among c = items_among

pub returns-clause-each : goal.returns-clause-each
returns-clause-each c = items_of_among

pub returns-clause-told : goal.returns-clause-told
returns-clause-told c = told_is_item

pub returns-clause-look : goal.returns-clause-look
returns-clause-look c = looks_tell_items
