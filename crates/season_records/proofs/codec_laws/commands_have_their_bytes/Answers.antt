use Rattle.season_records.proofs.CommandLaws.{command_back, command_found, commands_differ}
use Rattle.season_records.proofs.codec_laws.commands_have_their_bytes.Goals as goal

pub returns-clause-differ : goal.returns-clause-differ
returns-clause-differ c = commands_differ

pub returns-clause-again : goal.returns-clause-again
returns-clause-again c = command_back

pub returns-clause-read : goal.returns-clause-read
returns-clause-read c = command_found
