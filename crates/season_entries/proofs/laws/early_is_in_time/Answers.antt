use Rattle.season_entries.proofs.Stay.{early_in_time, in_time_early}
use Rattle.season_entries.proofs.laws.early_is_in_time.Goals as goal

pub returns-clause-in_time : goal.returns-clause-in_time
returns-clause-in_time c = early_in_time

pub returns-clause-early : goal.returns-clause-early
returns-clause-early c = in_time_early
