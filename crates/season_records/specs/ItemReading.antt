-- Records of keys and bodies.
use Rattle.std.specs.Prelude.{ℕ, ◌-◌, ◌&&◌, if◌then◌else◌, List, length, Option, None}
use Rattle.std.specs.Int.{w16, w32, w64}
use Rattle.fpl_base.specs.Texts.{is_name, is_key, is_code}
use Rattle.fpl_base.specs.declared.records.RecordKey.{RecordKey}
use Rattle.record_fields.specs.FieldReading.{flag_at, position_at, chip_at, kind_at, moment_at, byte_in, long_in, byte_place_at, short_text_at, profile_at}
use Rattle.record_fields.specs.ListReading.{pick_at}
use Rattle.record_fields.specs.Ranges.{is_club, is_player, is_id, is_gameweek}
use Rattle.record_fields.specs.Reading.{Reader, ◌>>=◌, byte_at, number_at, nothing_at, both_at, ◌then◌, many_at, counted, kept, whole_of}
use Rattle.season_records.specs.CommandReading.{command_at}
use Rattle.season_records.specs.Items.{is_item}
use Rattle.season_records.specs.Keys.{slot_of}
use Rattle.season_records.specs.declared.item.Item.{Item}
use Rattle.season_records.specs.declared.item.Item.TheVariants as item
use Rattle.season_records.specs.declared.slot.Slot.{Slot}
use Rattle.season_records.specs.declared.slot.Slot.TheVariants as slot

-- Bodies.

-- the item of these fields, if it can be
abbrev pub made_item : {A : Type 0} → (A → Item) → Reader A → List ℕ → Option Item
made_item item_of r body = whole_of r body >>= λ a. kept is_item (item_of a)

unfoldable pub season_in : List ℕ → Option Item
season_in =
    made_item (λ x. item.Season x.0 x.1.1.0 x.1.1.1.0 x.1.1.1.1)
    (both_at profile_at (λ p. both_at byte_at (λ n. byte_at then byte_at then many_at moment_at n)))

unfoldable pub club_in : ℕ → List ℕ → Option Item
club_in club = made_item (λ name. item.Club club name) (short_text_at is_name)

unfoldable pub player_in : ℕ → List ℕ → Option Item
player_in player =
    made_item (λ x. item.Player player x.0 x.1.0 x.1.1.0 x.1.1.1.0 x.1.1.1.1)
    (position_at then byte_in 1 255 then number_at w16 then flag_at then short_text_at is_name)

unfoldable pub fixture_in : ℕ → List ℕ → Option Item
fixture_in fixture =
    made_item (λ x. item.Fixture fixture x.0 x.1.0 x.1.1.0 x.1.1.1.0 x.1.1.1.1)
    (byte_in 1 255 then byte_in 1 255 then byte_place_at then moment_at then flag_at)

unfoldable pub line_in : ℕ → ℕ → List ℕ → Option Item
line_in fixture player = made_item (λ figures. item.Line fixture player (record { figures = figures })) (many_at (number_at w16) 28)

unfoldable pub entry_in : ℕ → List ℕ → Option Item
entry_in entry =
    made_item (λ x. item.Entry entry x.0 x.1.0 x.1.1) (byte_place_at then short_text_at is_key then short_text_at is_name)

unfoldable pub team_in : ℕ → ℕ → List ℕ → Option Item
team_in entry gameweek =
    made_item (λ x. item.Team entry gameweek x.0 x.1.0 x.1.1.0 x.1.1.1.0 x.1.1.1.1)
    (many_at pick_at 15 then byte_at then byte_at then number_at w32 then chip_at)

unfoldable pub transfer_in : ℕ → ℕ → ℕ → List ℕ → Option Item
transfer_in entry gameweek n =
    made_item (λ x. item.Transfer entry gameweek n x.0 x.1.0 x.1.1.0 x.1.1.1)
    (long_in 1 999999 then long_in 1 999999 then number_at w16 then number_at w16)

unfoldable pub league_in : ℕ → List ℕ → Option Item
league_in league =
    made_item (λ x. item.League league x.0 x.1.0 x.1.1.0 x.1.1.1.0 x.1.1.1.1.0 x.1.1.1.1.1)
    (kind_at then byte_in 1 38 then long_in 1 4294967295 then counted byte_at (long_in 1 4294967295) then short_text_at is_code
    then short_text_at is_name)

unfoldable pub member_in : ℕ → ℕ → List ℕ → Option Item
member_in league entry = made_item (λ x. item.Member league entry) nothing_at

unfoldable pub cup_in : ℕ → List ℕ → Option Item
cup_in cup =
    made_item (λ x. item.Cup cup x.0 x.1.0 x.1.1)
    (byte_in 1 38 then both_at (counted (number_at w16) (number_at w32)) (λ slots. many_at byte_at (length slots - 1)))

unfoldable pub last_in : ℕ → List ℕ → Option Item
last_in caller =
    made_item (λ x. item.Last caller x.0 x.1.0 x.1.1.0 x.1.1.1) (number_at w64 then number_at w16 then number_at w32 then command_at)

abbrev pub item_in : Slot → List ℕ → Option Item
item_in slot.Season body = season_in body
item_in (slot.Club club) body = if is_club club then club_in club body else None
item_in (slot.Player player) body = if is_player player then player_in player body else None
item_in (slot.Fixture fixture) body = if is_player fixture then fixture_in fixture body else None
item_in (slot.Line fixture player) body = if is_player fixture && is_player player then line_in fixture player body else None
item_in (slot.Entry entry) body = if is_id entry then entry_in entry body else None
item_in (slot.Team entry gameweek) body = if is_id entry && is_gameweek gameweek then team_in entry gameweek body else None
item_in (slot.Transfer entry gameweek n) body = if is_id entry && is_gameweek gameweek then transfer_in entry gameweek n body else None
item_in (slot.League league) body = if is_id league then league_in league body else None
item_in (slot.Member league entry) body = if is_id league && is_id entry then member_in league entry body else None
item_in (slot.Cup cup) body = if is_id cup then cup_in cup body else None
item_in (slot.Last caller) body = last_in caller body

-- the record that has this key and this body, if one has
abbrev pub item_of : RecordKey → List ℕ → Option Item
item_of k body = slot_of k >>= λ s. item_in s body
