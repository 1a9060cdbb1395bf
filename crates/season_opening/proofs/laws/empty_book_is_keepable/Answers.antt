use Rattle.std.specs.Prelude.{[]}
use Rattle.std.proofs.Common.{refl}
use Rattle.season_book.specs.Book.{empty_book}
use Rattle.season_running.specs.Standing.{StandsIn, empty_rows}
use Rattle.season_opening.proofs.laws.empty_book_is_keepable.Goals as goal

-- a host without a season stands for it
empty_stands : StandsIn (empty_rows []) empty_book
empty_stands = record { facts = refl; entries = tt; leagues = refl; cups = refl; lasts = refl }

pub returns : goal.returns
returns c = record {
  rows = empty_rows [];
  stood = empty_stands;
  early = c.books_are_early.ensures.empty;
  order = c.books_are_in_order.ensures.empty;
  items = c.items_stay.ensures.empty;
}
