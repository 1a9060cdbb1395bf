use Rattle.season_records.proofs.Slots.{empty_tells_nothing, slots_tell_of_themselves}
use Rattle.season_records.proofs.laws.slots_tell_of_themselves.Goals as goal

pub returns-clause-own : goal.returns-clause-own
returns-clause-own c = slots_tell_of_themselves

pub returns-clause-empty : goal.returns-clause-empty
returns-clause-empty c = empty_tells_nothing
