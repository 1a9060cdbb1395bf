use Rattle.season_records.proofs.KeyLaws.{named, own_slot}
use Rattle.season_records.proofs.codec_laws.keys_are_of_slots.Goals as goal

pub returns-clause-named : goal.returns-clause-named
returns-clause-named c = named

pub returns-clause-own : goal.returns-clause-own
returns-clause-own c = own_slot
