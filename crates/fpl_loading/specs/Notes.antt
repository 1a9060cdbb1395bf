-- What is noted of a load beside its output.
use Rattle.std.specs.Prelude.{ℕ, ◌+◌, ◌==◌, nat_lt, if◌then◌else◌, Option, Some, None}
use Rattle.season_book.specs.declared.answer.Answer.{Answer}
use Rattle.season_book.specs.declared.answer.Answer.TheVariants as answer
use Rattle.season_book.specs.declared.command.Command.{Command}
use Rattle.season_book.specs.declared.command.Command.TheVariants as command
use Rattle.fpl_loading.specs.declared.notes.Place.{Place}
use Rattle.fpl_loading.specs.declared.notes.Note.{Note}
use Rattle.fpl_loading.specs.declared.notes.Note.TheVariants as note

-- the number of the file in which a command stands
abbrev pub file_of : Command → ℕ
file_of (command.Season profile deadlines split clubs) = 1
file_of (command.Player id name position club price) = 2
file_of command = 3

-- before the first row
abbrev pub no_place : Place
no_place = record { file = 0; row = 0 }

-- where a command stands, behind the one of a place: in the next row of the same file, or in the first of another
abbrev pub place_behind : Place → Command → Place
place_behind place command = if file_of command == place.file then record { file = file_of command; row = place.row + 1 } else record { file = file_of command; row = 1 }

-- what is noted of an answer that ends a load at a command: the rule that refused it, or that it names what is not there
abbrev pub cause_of : Place → Answer → Option Note
cause_of place (answer.Rule rule) = Some (note.Refused place rule)
cause_of place answer.Unknown = Some (note.Unknown place)
cause_of place told = None

-- what is noted behind so many commands: that they were passed over for the operator's last number alone, where it is greater
abbrev pub note_passed : ℕ → ℕ → Option Note
note_passed last commands = if nat_lt commands last then Some (note.Passed last) else None

-- what is noted where something was noted before: the new note, if there is one
abbrev pub noted_behind : Option Note → Option Note → Option Note
noted_behind before None = before
noted_behind before (Some note) = Some note
