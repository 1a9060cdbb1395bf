use Rattle.season_records.proofs.LockFacts.{locked_items_stay}
use Rattle.season_records.proofs.StayFacts.{empty_tells_items, items_stay, rests_tell_items, verdicts_tell_items}
use Rattle.season_records.proofs.ranges.items_stay.Goals as goal

pub returns-clause-rest : goal.returns-clause-rest
returns-clause-rest c = rests_tell_items

pub returns-clause-command : goal.returns-clause-command
returns-clause-command c = items_stay

pub returns-clause-verdict : goal.returns-clause-verdict
returns-clause-verdict c = verdicts_tell_items

pub returns-clause-lock : goal.returns-clause-lock
returns-clause-lock c = locked_items_stay

pub returns-clause-empty : goal.returns-clause-empty
returns-clause-empty c = empty_tells_items
