-- What the records of a store tell, and how many of them stand between two keys.
use Rattle.std.specs.Prelude.{◌≡◌, ◌≤◌, ◌<◌, ℕ, Bool, true, false, not, ◌&&◌, ◌||◌, ◌==◌, List, [], Option, Some, None, is_some, nat_lt, count_by, length}
use Rattle.std.specs.Option.{option_and_then}
use Rattle.fpl_base.specs.Keeping.{Map, precedes}
use Rattle.fpl_base.specs.declared.records.RecordKey.{RecordKey}
use Rattle.record_fields.specs.Ranges.{is_between}
use Rattle.season_records.specs.ItemReading.{item_of}
use Rattle.season_records.specs.Keys.{key_of}
use Rattle.season_records.specs.declared.item.Item.{Item}
use Rattle.season_records.specs.declared.item.Item.TheVariants as item
use Rattle.season_records.specs.declared.slot.Slot.{Slot}
use Rattle.season_records.specs.declared.slot.Slot.TheVariants as slot

-- records, in the order of their keys
abbrev pub Rows : Type 0
Rows = List (RecordKey × List ℕ)

-- the body of the record of a slot as an item, where there is one that is spelled so
abbrev pub told : Map → Slot → Option Item
told m s = option_and_then (item_of (key_of s)) (m (key_of s))

-- a slot of a transfer
abbrev pub is_sale : Slot → Bool
is_sale (slot.Transfer e g n) = true
is_sale other = false

-- whether there is a record of a slot
abbrev pub is_there : Map → Slot → Bool
is_there m s = is_some (m (key_of s))

-- a key is not before the one, and before the other
abbrev pub is_within : RecordKey → RecordKey → RecordKey → Bool
is_within low high key = not (precedes key low) && precedes key high

-- how many records have a key not before the one, and before the other
abbrev pub between : Rows → RecordKey → RecordKey → ℕ
between rows low high = count_by (λ row. is_within low high row.0) rows

-- a key of a transfer of an entry in a gameweek
abbrev pub is_sale_of : ℕ → ℕ → RecordKey → Bool
is_sale_of e g k = k.kind == 8 && (k.a == e && k.b == g)

-- under the numbers from one on and before another there is no record of such a transfer
abbrev pub NoneUnder : Map → ℕ → ℕ → ℕ → ℕ → Type 0
NoneUnder m e g from end = (n : ℕ) → from ≤ n → n < end → m (key_of (slot.Transfer e g n)) ≡ None

-- a record of a member of a league
abbrev pub is_member_of : ℕ → RecordKey × List ℕ → Bool
is_member_of league row = row.0.kind == 10 && row.0.a == league

-- a key stands before those of all its members
abbrev pub stands_before : ℕ → RecordKey → Bool
stands_before league key = nat_lt key.kind 10 || key.kind == 10 && nat_lt key.a league

-- What the season's record tells; without one there are no gameweeks.

abbrev pub deadlines_in : Option Item → List ℕ
deadlines_in (Some (item.Season profile split locked deadlines)) = deadlines
deadlines_in other = []

abbrev pub split_in : Option Item → ℕ
split_in (Some (item.Season profile split locked deadlines)) = split
split_in other = 0

abbrev pub locked_in : Option Item → ℕ
locked_in (Some (item.Season profile split locked deadlines)) = locked
locked_in other = 0

-- the deadline of each gameweek
abbrev pub deadlines_told : Map → List ℕ
deadlines_told m = deadlines_in (told m slot.Season)

-- the last gameweek of the first half
abbrev pub split_told : Map → ℕ
split_told m = split_in (told m slot.Season)

-- how many gameweeks are locked
abbrev pub locked_told : Map → ℕ
locked_told m = locked_in (told m slot.Season)

-- whether the season has a gameweek
abbrev pub has_gameweek : Map → ℕ → Bool
has_gameweek m g = is_between 1 (length (deadlines_told m)) g
