-- Last commands, as records tell of them.
use Rattle.std.specs.Prelude.{◌≡◌, ◌≤◌, ℕ, ⊤, List, Some}
use Rattle.std.specs.Option.{option_map}
use Rattle.fpl_base.specs.Keeping.{Map}
use Rattle.fpl_base.specs.declared.records.RecordKey.{RecordKey}
use Rattle.season_records.specs.ItemReading.{item_of}
use Rattle.season_records.specs.Keys.{key_of}
use Rattle.season_records.specs.declared.item.Item.TheVariants as item
use Rattle.season_records.specs.declared.slot.Slot.TheVariants as slot
use Rattle.rule_book.specs.ById.{AreSorted, at_id}
use Rattle.season_book.specs.Book.{Last}
use Rattle.season_book.specs.Commands.{IsCommand}
use Rattle.season_book.specs.declared.command.Command.{Command}
use Rattle.season_book.specs.declared.command.Command.TheVariants as command
use Rattle.stored_records.specs.Stored.{told}
use Rattle.season_records.specs.Records.{last_item, made_id, status_of}
use Rattle.season_records.specs.Told.{made_by}

-- a command makes an entry, a league or a cup only under an id that can be
abbrev pub CanMake : Command → ℕ → Type 0
CanMake (command.Key key name) id = 1 ≤ id
CanMake (command.League kind name code start) id = 1 ≤ id
CanMake (command.Cup start slots coins) id = 1 ≤ id
CanMake other id = ⊤

-- a last command is one that can be read, and made what such a one makes
pub record IsLast (last : Last) : Type 0 where
  pub read : IsCommand last.command
  pub makes : last.made ≡ made_by last.command (made_id last.made)

-- last commands by ascending caller that tell what the records of a map tell of such
pub record AreLasts (m : Map) (lasts : List (ℕ × Last)) : Type 0 where
  pub sorted : AreSorted lasts
  pub told : (c : ℕ) → option_map (last_item c) (at_id lasts c) ≡ told m (slot.Last c)
  pub each : (c : ℕ) (last : Last) → at_id lasts c ≡ Some last → IsLast last

-- a key and a body tell of a last command, with an answer that is one of its
pub record IsLastRow (key : RecordKey) (body : List ℕ) : Type 0 where
  pub caller : ℕ
  pub number : ℕ
  pub status : ℕ
  pub made : ℕ
  pub command : Command
  pub key_is : key ≡ key_of (slot.Last caller)
  pub is : item_of key body ≡ Some (item.Last caller number status made command)
  pub can : CanMake command made
  pub status_is : status_of (made_by command made) ≡ status
  pub made_is : made_id (made_by command made) ≡ made
  pub read : IsCommand command
