-- That bytes are those of one command, and of one record.
use Rattle.std.specs.Prelude.{◌≡◌, ℕ, ◌<◌, List, Some, get_or}
use Rattle.fpl_base.specs.declared.records.RecordKey.{RecordKey}
use Rattle.season_book.specs.declared.command.Command.{Command}
use Rattle.season_records.specs.CommandReading.{command_of}
use Rattle.season_records.specs.Commands.{bytes_of_command}
use Rattle.season_records.specs.ItemReading.{item_of}
use Rattle.season_records.specs.Items.{body_of, key_of_item}
use Rattle.season_records.specs.Ranges.{IsCommand, IsItem}
use Rattle.season_records.specs.declared.item.Item.{Item}

-- each is below 256
abbrev pub IsBytes : List ℕ → Type 0
IsBytes bytes = (i : ℕ) → get_or bytes i 0 < 256

abbrev pub CommandsDiffer : Type 0
CommandsDiffer = (a b : Command) → IsCommand a → IsCommand b → bytes_of_command a ≡ bytes_of_command b → a ≡ b

abbrev pub CommandsAreRead : Type 0
CommandsAreRead = (c : Command) → IsCommand c → command_of (bytes_of_command c) ≡ Some c

abbrev pub ReadCommandsCanBe : Type 0
ReadCommandsCanBe = (bytes : List ℕ) (c : Command) → IsBytes bytes → command_of bytes ≡ Some c → IsCommand c × (bytes ≡ bytes_of_command c)

-- an item that can be is read of its key and body, and what is read is such an item with this key and body
abbrev pub ItemsAreRead : Type 0
ItemsAreRead = (i : Item) → IsItem i → item_of (key_of_item i) (body_of i) ≡ Some i

abbrev pub ReadItemsCanBe : Type 0
ReadItemsCanBe =
    (k : RecordKey) (body : List ℕ) (i : Item) → IsBytes body → item_of k body ≡ Some i
    → IsItem i × (k ≡ key_of_item i) × (body ≡ body_of i)
