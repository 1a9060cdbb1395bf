-- The facts of a season are lawful when it begins, and stay so.
use Rattle.std.specs.Prelude.{◌≡◌, ℕ, Some, None}
use Rattle.rule_book.specs.Calendar.{deadlines_order}
use Rattle.season_book.specs.Book.{Facts}
use Rattle.season_book.specs.Commands.{IsCommand, begun_by, changed_by}
use Rattle.season_book.specs.Doing.{IsGranted}
use Rattle.season_book.specs.PlayerCommands.{Amendment, facts_amended}
use Rattle.season_book.specs.Verdict.{locked_at}
use Rattle.season_book.specs.declared.command.Command.{Command}
use Rattle.season_records.specs.Ranges.{HasRanges}
use Rattle.season_records.specs.Told.{AreInOrder}
use Rattle.lawful_books.specs.Facts.{AreLawful}

-- those that a season begins with, where its deadlines rise
abbrev pub NewSeasonsAreLawful : Type 0
NewSeasonsAreLawful = (command : Command) (facts : Facts) → IsCommand command → begun_by command ≡ Some facts
    → deadlines_order facts.calendar.deadlines ≡ None → AreLawful facts

-- those behind a command that nothing refuses; the ranges of its members are those of their types
abbrev pub GrantedAreLawful : Type 0
GrantedAreLawful = (facts : Facts) (now : ℕ) (command : Command) → AreInOrder facts → AreLawful facts
    → IsCommand command → HasRanges command → IsGranted facts now command → AreLawful (changed_by facts command)

-- those in which a player has another name and another position
abbrev pub AmendmentsAreLawful : Type 0
AmendmentsAreLawful = (facts : Facts) (given : Amendment) → AreLawful facts → AreLawful (facts_amended facts given)

-- those behind a moment
abbrev pub MomentsAreLawful : Type 0
MomentsAreLawful = (facts : Facts) (now : ℕ) → AreLawful facts → AreLawful (locked_at now facts)
