use Rattle.lawful_books.proofs.BookKept.{empty_is_lawful, moments_keep_laws, verdicts_keep_laws}
use Rattle.lawful_books.proofs.leagues.books_keep_leagues.Goals as goal

pub returns-clause-empty : goal.returns-clause-empty
returns-clause-empty c = empty_is_lawful

pub returns-clause-moment : goal.returns-clause-moment
returns-clause-moment c = moments_keep_laws

pub returns-clause-verdict : goal.returns-clause-verdict
returns-clause-verdict c = verdicts_keep_laws
