use Rattle.season_records.proofs.ItemLaws.{item_back, item_found}
use Rattle.season_records.proofs.codec_laws.records_have_one_spelling.Goals as goal

pub returns-clause-again : goal.returns-clause-again
returns-clause-again c = item_back

pub returns-clause-read : goal.returns-clause-read
returns-clause-read c = item_found
