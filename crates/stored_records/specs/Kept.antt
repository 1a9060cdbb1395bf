-- The records of a store, each kept as what it tells.
use Rattle.std.specs.Prelude.{◌≡◌, ◌==◌, ℕ, false, List, Option, Some, None}
use Rattle.fpl_base.specs.declared.records.RecordKey.{RecordKey}
use Rattle.season_records.specs.ItemReading.{item_of}
use Rattle.season_records.specs.Items.{body_of}
use Rattle.season_records.specs.declared.item.Item.{Item}
use Rattle.season_records.specs.declared.item.Item.TheVariants as item
use Rattle.stored_records.specs.declared.kept.Told.{Told}
use Rattle.stored_records.specs.declared.kept.Transfer.{Transfer}
use Rattle.stored_records.specs.declared.kept.Told.TheVariants as told

-- a transfer as an item
abbrev pub transfer_item : Transfer → Item
transfer_item t = item.Transfer t.entry t.gameweek t.number t.out t.into t.sold t.bought

-- an item, if it is that of a transfer
abbrev pub transfer_in : Option Item → Option Item
transfer_in (Some (item.Transfer entry gameweek number out into sold bought)) = Some (item.Transfer entry gameweek number out into sold bought)
transfer_in other = None

-- an item, unless it is that of a transfer
abbrev pub other_in : Option Item → Option Item
other_in (Some (item.Transfer entry gameweek number out into sold bought)) = None
other_in other = other

-- what is kept of a record tells this
abbrev pub item_kept : Told → Option Item
item_kept (told.Transfer t) = Some (transfer_item t)
item_kept (told.Other i) = Some i.value
item_kept (told.Unread body) = None

-- an item with a place of its own
abbrev pub other_kept : Told → Option Item
other_kept (told.Other i) = Some i.value
other_kept other = None

-- the body that the record has
abbrev pub body_kept : Told → List ℕ
body_kept (told.Transfer t) = body_of (transfer_item t)
body_kept (told.Other i) = body_of i.value
body_kept (told.Unread body) = body.value

-- this is kept of an item, or of none
pub record AreTold (i : Option Item) (t : Told) : Type 0 where
  pub item : item_kept t ≡ i
  pub other : other_kept t ≡ other_in i

-- this is kept of the record of a key
pub record IsKept (key : RecordKey) (t : Told) : Type 0 where
  pub told : AreTold (item_of key (body_kept t)) t
  pub apart : (key.kind == 8) ≡ false → other_kept t ≡ item_kept t

-- this is kept of the record of a key and a body
pub record IsRead (key : RecordKey) (body : List ℕ) (t : Told) : Type 0 where
  pub kept : IsKept key t
  pub same : body_kept t ≡ body
