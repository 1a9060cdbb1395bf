-- The records of a lawful book are lawful, so that a host which is made anew of them finds none that is not.
use Rattle.std.specs.Prelude.{◌≡◌, None, Option}
use Rattle.fpl_base.specs.Keeping.{Map}
use Rattle.fpl_base.specs.declared.records.RecordKey.{RecordKey}
use Rattle.season_book.specs.Book.{Book}
use Rattle.season_opening.specs.Opening.{IsDamaged, IsJudgedAs, IsKeepable}
use Rattle.season_records.specs.Records.{records}
use Rattle.lawful_books.specs.Books.{IsLawful}

-- none of its records is named as one that is not lawful
abbrev pub LawfulBooksAreJudged : Type 0
LawfulBooksAreJudged = (book : Book) (key : Option RecordKey) → IsKeepable book → IsLawful book → IsJudgedAs (records book) key → key ≡ None

-- A keeper that tells, and held the records of such a book, gives none that is not lawful. The four say of a keeper
-- whether it tells, which map it held before and holds after, and which a stop may leave.
abbrev pub LawfulBooksAreWhole : Type 0 → (Map → Type 0) → (Map → Type 0) → (Map → Type 0) → Type 0
LawfulBooksAreWhole tells before after passes =
    (book : Book) (key : RecordKey)
    → tells → IsKeepable book → IsLawful book → before (records book) → IsDamaged tells before after passes key → ⊥
