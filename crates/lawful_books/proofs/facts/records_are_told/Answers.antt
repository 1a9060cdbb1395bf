use Rattle.lawful_books.proofs.Telling.{records_are_there, records_are_told}
use Rattle.lawful_books.proofs.facts.records_are_told.Goals as goal

pub returns-clause-told : goal.returns-clause-told
returns-clause-told c = records_are_told

pub returns-clause-there : goal.returns-clause-there
returns-clause-there c = records_are_there
