-- The ranges of the values that have types of their own.
use Rattle.std.specs.Prelude.{◌≡◌, ◌<◌, ◌^◌, IsTrue, length, ⊤}
use Rattle.std.specs.List.{AllByRecursion}
use Rattle.fpl_base.specs.Texts.{is_name, is_key, is_code}
use Rattle.season_book.specs.declared.command.Command.{Command}
use Rattle.season_book.specs.declared.command.Command.TheVariants as command
use Rattle.record_fields.specs.Ranges.{is_between, IsClub, IsPlayer, IsId, IsGameweek, is_place, IsMoment, IsFigure, IsWide}
use Rattle.season_records.specs.Commands.{is_command}
use Rattle.season_records.specs.declared.item.Item.{Item}
use Rattle.season_records.specs.declared.item.Item.TheVariants as item
use Rattle.season_records.specs.Items.{is_item}

-- what the types of a command's members say of them
abbrev pub HasRanges : Command → Type 0
HasRanges (command.Season profile deadlines split clubs) =
    AllByRecursion IsMoment deadlines × IsTrue (is_between 0 255 split) × AllByRecursion (λ club. IsClub club.0 × IsTrue (is_name club.1)) clubs
HasRanges (command.Deadline gameweek deadline) = IsGameweek gameweek × IsMoment deadline
HasRanges (command.Player id name position club price) = IsPlayer id × IsTrue (is_name name) × IsClub club × IsFigure price
HasRanges (command.Price player price) = IsPlayer player × IsFigure price
HasRanges (command.AmendPlayer player name position) = (player < 2 ^ 32) × IsTrue (is_name name)
HasRanges (command.Club player club) = IsPlayer player × IsClub club
HasRanges (command.Gone player gone) = IsPlayer player
HasRanges (command.Fixture id home away gameweek kickoff) =
    IsPlayer id × IsClub home × IsClub away × IsTrue (is_place gameweek) × IsMoment kickoff
HasRanges (command.Move fixture gameweek kickoff) = (fixture < 2 ^ 32) × IsTrue (is_place gameweek) × IsMoment kickoff
HasRanges (command.AmendFixture fixture home away) = (fixture < 2 ^ 32) × IsClub home × IsClub away
HasRanges (command.Sheet fixture lines finished) = (fixture < 2 ^ 32) × AllByRecursion (λ row. IsPlayer row.0 × IsWide row.1) lines
HasRanges (command.Line fixture player line) = (fixture < 2 ^ 32) × IsPlayer player × IsWide line
HasRanges (command.Drop fixture player) = (fixture < 2 ^ 32) × IsPlayer player
HasRanges (command.Finished fixture finished) = fixture < 2 ^ 32
HasRanges (command.Key key name) = IsTrue (is_key key) × IsTrue (is_name name)
HasRanges (command.Rekey entry key name) = (entry < 2 ^ 32) × IsTrue (is_key key) × IsTrue (is_name name)
HasRanges (command.Squad players captain vice) = (length players ≡ 15) × AllByRecursion IsPlayer players × IsPlayer captain × IsPlayer vice
HasRanges (command.Transfers swaps) = AllByRecursion (λ swap. IsPlayer swap.out × IsPlayer swap.into) swaps
HasRanges (command.Lineup players captain vice) = (length players ≡ 15) × AllByRecursion IsPlayer players × IsPlayer captain × IsPlayer vice
HasRanges (command.Chip chip) = ⊤
HasRanges command.CancelChip = ⊤
HasRanges (command.League kind name code start) = IsTrue (is_name name) × IsTrue (is_code code) × IsGameweek start
HasRanges (command.Join league code) = (league < 2 ^ 32) × IsTrue (is_code code)
HasRanges (command.Draw league order) = (league < 2 ^ 32) × AllByRecursion IsId order
HasRanges (command.Cup start slots coins) =
    IsGameweek start × AllByRecursion (λ n. IsTrue (is_between 0 4294967295 n)) slots × AllByRecursion (λ n. IsTrue (is_between 0 255 n)) coins

-- a command that can be ordered
abbrev pub IsCommand : Command → Type 0
IsCommand c = HasRanges c × IsTrue (is_command c)

-- what the types of an item's fields say of them
abbrev pub HasFieldRanges : Item → Type 0
HasFieldRanges (item.Season profile split locked deadlines) = (split < 256) × (locked < 256) × AllByRecursion IsMoment deadlines
HasFieldRanges (item.Club club name) = IsClub club × IsTrue (is_name name)
HasFieldRanges (item.Player player position club price gone name) =
    IsPlayer player × IsClub club × (price < 2 ^ 16) × IsTrue (is_name name)
HasFieldRanges (item.Fixture fixture home away gameweek kickoff finished) =
    IsPlayer fixture × IsClub home × IsClub away × IsTrue (is_place gameweek) × IsMoment kickoff
HasFieldRanges (item.Line fixture player line) = IsPlayer fixture × IsPlayer player × IsWide line
HasFieldRanges (item.Entry entry first key name) = IsId entry × IsTrue (is_place first) × IsTrue (is_key key) × IsTrue (is_name name)
HasFieldRanges (item.Team entry gameweek picks captain vice bank chip) =
    IsId entry × IsGameweek gameweek × (length picks ≡ 15) × AllByRecursion (λ pick. IsPlayer pick.0 × (pick.1 < 2 ^ 16)) picks
    × (captain < 256) × (vice < 256) × (bank < 2 ^ 32)
HasFieldRanges (item.Transfer entry gameweek n out into sold bought) =
    IsId entry × IsGameweek gameweek × IsPlayer out × IsPlayer into × (sold < 2 ^ 16) × (bought < 2 ^ 16)
HasFieldRanges (item.League league kind start creator order code name) =
    IsId league × IsGameweek start × IsId creator × AllByRecursion IsId order × IsTrue (is_code code) × IsTrue (is_name name)
HasFieldRanges (item.Member league entry) = IsId league × IsId entry
HasFieldRanges (item.Cup cup start slots coins) =
    IsId cup × IsGameweek start × AllByRecursion (λ n. n < 2 ^ 32) slots × AllByRecursion (λ n. n < 256) coins
HasFieldRanges (item.Last caller n status made command) = (n < 2 ^ 64) × (status < 2 ^ 16) × (made < 2 ^ 32) × HasRanges command

-- a record that can be
abbrev pub IsItem : Item → Type 0
IsItem i = HasFieldRanges i × IsTrue (is_item i)
