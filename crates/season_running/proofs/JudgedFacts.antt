-- No command but those on the facts reads anything as it is judged.
use Rattle.std.proofs.Common.{◌≡◌, ℕ}
use Rattle.std.specs.Prelude.{⊤}
use Rattle.season_book.specs.declared.command.Command.{Command}
use Rattle.season_book.specs.declared.command.Command.TheVariants as command
use Rattle.season_book.specs.declared.part.Part.{Part}
use Rattle.season_book.specs.declared.part.Part.TheVariants as part
