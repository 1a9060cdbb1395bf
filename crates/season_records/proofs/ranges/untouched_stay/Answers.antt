use Rattle.season_records.proofs.StayFacts.{locks_stay, unasked_stay, untouched_stay}
use Rattle.season_records.proofs.ranges.untouched_stay.Goals as goal

pub returns-clause-command : goal.returns-clause-command
returns-clause-command c = untouched_stay

pub returns-clause-lock : goal.returns-clause-lock
returns-clause-lock c = locks_stay

pub returns-clause-verdict : goal.returns-clause-verdict
returns-clause-verdict c = unasked_stay
