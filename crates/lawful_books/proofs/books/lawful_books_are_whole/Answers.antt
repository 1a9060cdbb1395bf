use Rattle.lawful_books.proofs.Judged.{lawful_books_are_whole}
use Rattle.lawful_books.proofs.books.lawful_books_are_whole.Goals as goal

pub returns : goal.returns
returns g c old new =
    lawful_books_are_whole (g.K.Keeper.tells new) (g.K.Keeper.holds old) (g.K.Keeper.holds new) (g.K.Keeper.passes new)
