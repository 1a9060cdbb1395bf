use Rattle.lawful_books.proofs.Kept.{empty_book_is_lawful, runs_keep_lawful, verdicts_keep_lawful}
use Rattle.lawful_books.proofs.books.books_are_lawful.Goals as goal

pub returns-clause-empty : goal.returns-clause-empty
returns-clause-empty c = empty_book_is_lawful

pub returns-clause-verdict : goal.returns-clause-verdict
returns-clause-verdict c = verdicts_keep_lawful

pub returns-clause-run : goal.returns-clause-run
returns-clause-run c = runs_keep_lawful
