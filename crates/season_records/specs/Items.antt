-- Records as items: the key and the body of each.
use Rattle.std.specs.Prelude.{ℕ, ◌+◌, Bool, true, ◌&&◌, ◌==◌, nat_le, List, [], ◌++◌, length, flat_map, Option}
use Rattle.std.specs.Int.{w16, w32, w64}
use Rattle.fpl_base.specs.declared.kinds.Chip.{Chip}
use Rattle.fpl_base.specs.declared.kinds.Position.{Position}
use Rattle.fpl_base.specs.declared.kinds.Profile.{Profile}
use Rattle.fpl_base.specs.declared.records.RecordKey.{RecordKey}
use Rattle.rule_book.specs.declared.league.LeagueKind.{LeagueKind}
use Rattle.rule_book.specs.declared.line.Line.{Line}
use Rattle.season_book.specs.declared.command.Command.{Command}
use Rattle.record_fields.specs.Fields.{byte, number, or_zero, short_text, listed, flag, profile_number, position_number, chip_number, kind_number}
use Rattle.record_fields.specs.Lists.{pick_bytes}
use Rattle.season_records.specs.Commands.{bytes_of_command, is_command}
use Rattle.season_records.specs.Keys.{key_of}
use Rattle.season_records.specs.declared.item.Item.{Item}
use Rattle.season_records.specs.declared.item.Item.TheVariants as item
use Rattle.season_records.specs.declared.slot.Slot.{Slot}
use Rattle.season_records.specs.declared.slot.Slot.TheVariants as slot

-- what an item tells of
abbrev pub slot_of_item : Item → Slot
slot_of_item (item.Season profile split locked deadlines) = slot.Season
slot_of_item (item.Club club name) = slot.Club club
slot_of_item (item.Player player position club price gone name) = slot.Player player
slot_of_item (item.Fixture fixture home away gameweek kickoff finished) = slot.Fixture fixture
slot_of_item (item.Line fixture player line) = slot.Line fixture player
slot_of_item (item.Entry entry first key name) = slot.Entry entry
slot_of_item (item.Team entry gameweek picks captain vice bank chip) = slot.Team entry gameweek
slot_of_item (item.Transfer entry gameweek number out into sold bought) = slot.Transfer entry gameweek number
slot_of_item (item.League league kind start creator order code name) = slot.League league
slot_of_item (item.Member league entry) = slot.Member league entry
slot_of_item (item.Cup cup start slots coins) = slot.Cup cup
slot_of_item (item.Last caller number status made command) = slot.Last caller

-- its key
abbrev pub key_of_item : Item → RecordKey
key_of_item i = key_of (slot_of_item i)

-- its body: the fields one after another
abbrev pub season_body : Profile → ℕ → ℕ → List ℕ → List ℕ
season_body profile split locked deadlines =
    byte (profile_number profile) ++ byte (length deadlines) ++ byte split ++ byte locked ++ flat_map (number w64) deadlines

abbrev pub player_body : Position → ℕ → ℕ → Bool → List ℕ → List ℕ
player_body position club price gone name =
    byte (position_number position) ++ byte club ++ number w16 price ++ byte (flag gone) ++ short_text name

abbrev pub fixture_body : ℕ → ℕ → Option ℕ → ℕ → Bool → List ℕ
fixture_body home away gameweek kickoff finished =
    byte home ++ byte away ++ byte (or_zero gameweek) ++ number w64 kickoff ++ byte (flag finished)

abbrev pub line_body : Line → List ℕ
line_body line = flat_map (number w16) line.figures

abbrev pub entry_body : Option ℕ → List ℕ → List ℕ → List ℕ
entry_body first key name = byte (or_zero first) ++ short_text key ++ short_text name

abbrev pub team_body : List (ℕ × ℕ) → ℕ → ℕ → ℕ → Chip → List ℕ
team_body picks captain vice bank chip =
    flat_map pick_bytes picks ++ byte captain ++ byte vice ++ number w32 bank ++ byte (chip_number chip)

abbrev pub transfer_body : ℕ → ℕ → ℕ → ℕ → List ℕ
transfer_body out into sold bought = number w32 out ++ number w32 into ++ number w16 sold ++ number w16 bought

abbrev pub league_body : LeagueKind → ℕ → ℕ → List ℕ → List ℕ → List ℕ → List ℕ
league_body kind start creator order code name =
    byte (kind_number kind) ++ byte start ++ number w32 creator ++ byte (length order) ++ flat_map (number w32) order
    ++ short_text code ++ short_text name

abbrev pub cup_body : ℕ → List ℕ → List ℕ → List ℕ
cup_body start slots coins = byte start ++ listed (number w32) slots ++ flat_map byte coins

abbrev pub last_body : ℕ → ℕ → ℕ → Command → List ℕ
last_body n status made command = number w64 n ++ number w16 status ++ number w32 made ++ bytes_of_command command

abbrev pub body_of : Item → List ℕ
body_of (item.Season profile split locked deadlines) = season_body profile split locked deadlines
body_of (item.Club club name) = short_text name
body_of (item.Player player position club price gone name) = player_body position club price gone name
body_of (item.Fixture fixture home away gameweek kickoff finished) = fixture_body home away gameweek kickoff finished
body_of (item.Line fixture player line) = line_body line
body_of (item.Entry entry first key name) = entry_body first key name
body_of (item.Team entry gameweek picks captain vice bank chip) = team_body picks captain vice bank chip
body_of (item.Transfer entry gameweek n out into sold bought) = transfer_body out into sold bought
body_of (item.League league kind start creator order code name) = league_body kind start creator order code name
body_of (item.Member league entry) = []
body_of (item.Cup cup start slots coins) = cup_body start slots coins
body_of (item.Last caller n status made command) = last_body n status made command

-- whether its lists have lengths that its body tells, and its command can be ordered
abbrev pub is_item : Item → Bool
is_item (item.Season profile split locked deadlines) = nat_le (length deadlines) 255
is_item (item.Club club name) = true
is_item (item.Player player position club price gone name) = true
is_item (item.Fixture fixture home away gameweek kickoff finished) = true
is_item (item.Line fixture player line) = true
is_item (item.Entry entry first key name) = true
is_item (item.Team entry gameweek picks captain vice bank chip) = true
is_item (item.Transfer entry gameweek n out into sold bought) = nat_le 1 n
is_item (item.League league kind start creator order code name) = nat_le (length order) 255
is_item (item.Member league entry) = true
is_item (item.Cup cup start slots coins) = nat_le (length slots) 65535 && length coins + 1 == length slots
is_item (item.Last caller n status made command) = is_command command
