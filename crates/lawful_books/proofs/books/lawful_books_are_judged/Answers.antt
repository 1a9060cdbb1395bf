use Rattle.lawful_books.proofs.Judged.{lawful_books_are_judged}
use Rattle.lawful_books.proofs.books.lawful_books_are_judged.Goals as goal

pub returns : goal.returns
returns c = lawful_books_are_judged
