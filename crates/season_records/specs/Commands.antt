-- The commands as bytes: the number of a command, the ids of its target, and its members in order.
use Rattle.std.specs.Prelude.{ℕ, Bool, true, not, ◌&&◌, ◌==◌, nat_le, List, [], ◌∷◌, ◌++◌, length, map}
use Rattle.std.specs.List.{list_all, list_any}
use Rattle.std.specs.Int.{w32}
use Rattle.season_book.specs.declared.command.Command.{Command}
use Rattle.season_book.specs.declared.command.Command.TheVariants as command
use Rattle.record_fields.specs.Fields.{byte, number, whole, or_zero, long_text, listed, flag, profile_end, position_number, chip_number, kind_number}
use Rattle.record_fields.specs.Lists.{club_bytes, line_bytes, row_bytes, swap_bytes}
use Rattle.record_fields.specs.Ranges.{is_between}

-- an id of a target
abbrev pub target : ℕ → List ℕ
target id = number w32 id

abbrev pub bytes_of_command : Command → List ℕ
bytes_of_command (command.Season profile deadlines split clubs) =
    byte 1 ++ listed whole deadlines ++ whole split ++ listed club_bytes clubs ++ profile_end profile
bytes_of_command (command.Deadline gameweek deadline) = byte 2 ++ whole gameweek ++ whole deadline
bytes_of_command (command.Player id name position club price) =
    byte 3 ++ whole id ++ long_text name ++ byte (position_number position) ++ whole club ++ whole price
bytes_of_command (command.Price player price) = byte 4 ++ whole player ++ whole price
bytes_of_command (command.AmendPlayer player name position) = byte 24 ++ target player ++ long_text name ++ byte (position_number position)
bytes_of_command (command.Club player club) = byte 5 ++ whole player ++ whole club
bytes_of_command (command.Gone player gone) = byte 6 ++ whole player ++ byte (flag gone)
bytes_of_command (command.Fixture id home away gameweek kickoff) =
    byte 7 ++ whole id ++ whole home ++ whole away ++ whole (or_zero gameweek) ++ whole kickoff
bytes_of_command (command.Move fixture gameweek kickoff) = byte 8 ++ target fixture ++ whole (or_zero gameweek) ++ whole kickoff
bytes_of_command (command.AmendFixture fixture home away) = byte 25 ++ target fixture ++ whole home ++ whole away
bytes_of_command (command.Sheet fixture lines finished) = byte 9 ++ target fixture ++ listed row_bytes lines ++ byte (flag finished)
bytes_of_command (command.Line fixture player line) = byte 10 ++ target fixture ++ whole player ++ line_bytes line
bytes_of_command (command.Drop fixture player) = byte 11 ++ target fixture ++ whole player
bytes_of_command (command.Finished fixture finished) = byte 12 ++ target fixture ++ byte (flag finished)
bytes_of_command (command.Key key name) = byte 13 ++ long_text key ++ long_text name
bytes_of_command (command.Rekey entry key name) = byte 23 ++ target entry ++ long_text key ++ long_text name
bytes_of_command (command.Squad players captain vice) = byte 14 ++ listed whole players ++ whole captain ++ whole vice
bytes_of_command (command.Transfers swaps) = byte 15 ++ listed swap_bytes swaps
bytes_of_command (command.Lineup players captain vice) = byte 16 ++ listed whole players ++ whole captain ++ whole vice
bytes_of_command (command.Chip chip) = byte 17 ++ byte (chip_number chip)
bytes_of_command command.CancelChip = byte 18
bytes_of_command (command.League kind name code start) =
    byte 19 ++ byte (kind_number kind) ++ long_text name ++ long_text code ++ whole start
bytes_of_command (command.Join league code) = byte 20 ++ target league ++ long_text code
bytes_of_command (command.Draw league order) = byte 21 ++ target league ++ listed whole order
bytes_of_command (command.Cup start slots coins) = byte 22 ++ whole start ++ listed whole slots ++ listed whole coins

-- Which commands can be ordered. What a member's type says of it is not said again.

-- no id stands twice
abbrev pub differ : List ℕ → Bool
differ [] = true
differ (x ∷ xs) = not (list_any (λ y. y == x) xs) && differ xs

abbrev pub club_ids : List (ℕ × List ℕ) → List ℕ
club_ids clubs = map (λ club. club.0) clubs

abbrev pub is_command : Command → Bool
is_command (command.Season profile deadlines split clubs) =
    is_between 1 38 (length deadlines) && nat_le split (length deadlines) && is_between 1 20 (length clubs) && differ (club_ids clubs)
is_command (command.Deadline gameweek deadline) = true
is_command (command.Player id name position club price) = true
is_command (command.Price player price) = true
is_command (command.AmendPlayer player name position) = true
is_command (command.Club player club) = true
is_command (command.Gone player gone) = true
is_command (command.Fixture id home away gameweek kickoff) = not (home == away)
is_command (command.Move fixture gameweek kickoff) = true
is_command (command.AmendFixture fixture home away) = not (home == away)
is_command (command.Sheet fixture lines finished) = nat_le (length lines) 100
is_command (command.Line fixture player line) = true
is_command (command.Drop fixture player) = true
is_command (command.Finished fixture finished) = true
is_command (command.Key key name) = true
is_command (command.Rekey entry key name) = true
is_command (command.Squad players captain vice) = true
is_command (command.Transfers swaps) = is_between 1 15 (length swaps)
is_command (command.Lineup players captain vice) = true
is_command (command.Chip chip) = not (chip_number chip == 0)
is_command command.CancelChip = true
is_command (command.League kind name code start) = true
is_command (command.Join league code) = true
is_command (command.Draw league order) = nat_le (length order) 64
is_command (command.Cup start slots coins) = nat_le (length slots) 1024 && nat_le (length coins) 1024 && list_all (λ coin. nat_le coin 1) coins
