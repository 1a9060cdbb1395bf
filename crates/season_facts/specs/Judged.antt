-- How many reads are counted as a command is judged.
use Rattle.std.specs.Prelude.{◌≡◌, ◌≤◌, ◌+◌, ℕ, Result, Ok, Err, ⊤}
use Rattle.season_book.specs.declared.answer.Answer.{Answer}
use Rattle.season_book.specs.declared.command.Command.{Command}
use Rattle.season_book.specs.declared.command.Command.TheVariants as command

-- the line that a command takes away is one read, and where it is answered that a line is not there it is one at most; no
-- other command reads
abbrev pub CountsJudged : Command → Result ⊤ Answer → ℕ → ℕ → Type 0
CountsJudged (command.Drop fixture player) (Ok done) old new = new ≡ old + 1
CountsJudged (command.Drop fixture player) (Err why) old new = new ≤ old + 1
CountsJudged other result old new = new ≡ old
