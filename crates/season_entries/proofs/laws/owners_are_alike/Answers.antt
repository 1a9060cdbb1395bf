use Rattle.season_entries.proofs.Keyed.{owners_alike, owners_of_books}
use Rattle.season_entries.proofs.laws.owners_are_alike.Goals as goal

pub returns-clause-books : goal.returns-clause-books
returns-clause-books c = owners_of_books

pub returns-clause-rows : goal.returns-clause-rows
returns-clause-rows c = owners_alike
