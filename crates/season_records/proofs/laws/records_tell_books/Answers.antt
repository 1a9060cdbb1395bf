use Rattle.season_records.proofs.BooksTold.{records_tell_books, records_tell_facts}
use Rattle.season_records.proofs.Slots.{records_tell_slots}
use Rattle.season_records.proofs.laws.records_tell_books.Goals as goal

pub returns-clause-slots : goal.returns-clause-slots
returns-clause-slots c = records_tell_slots

pub returns-clause-facts : goal.returns-clause-facts
returns-clause-facts c = records_tell_facts

pub returns-clause-books : goal.returns-clause-books
returns-clause-books c = records_tell_books
