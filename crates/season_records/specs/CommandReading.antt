-- Commands of bytes.
use Rattle.std.specs.Prelude.{ℕ, ◌==◌, if◌then◌else◌, List, Option, Some, None}
use Rattle.std.specs.Int.{w32}
use Rattle.fpl_base.specs.Texts.{is_name, is_key, is_code}
use Rattle.season_book.specs.declared.command.Command.{Command}
use Rattle.season_book.specs.declared.command.Command.TheVariants as command
use Rattle.record_fields.specs.FieldReading.{whole_in, place_at, player_at, club_at, gameweek_at, moment_at, id_at, long_text_at, flag_at, profile_end_at, position_at, chip_at, kind_at}
use Rattle.record_fields.specs.ListReading.{list_at, line_at, row_at, swap_at, club_row_at, fifteen_at}
use Rattle.record_fields.specs.Reading.{Reader, ◌>>=◌, byte_at, number_at, meant, ◌then◌, kept, whole_of}
use Rattle.season_records.specs.Commands.{is_command}

abbrev pub target_at : Reader ℕ
target_at = number_at w32

-- Commands, behind their numbers.

-- the command of these members, if it can be ordered
abbrev pub made : {A : Type 0} → (A → Command) → Reader A → Reader Command
made command_of r = meant (λ a. kept is_command (command_of a)) r

unfoldable pub season_at : Reader Command
season_at =
    made (λ x. command.Season x.1.1.1 x.0 x.1.0 x.1.1.0)
    (list_at moment_at then whole_in 0 255 then list_at club_row_at then profile_end_at)

unfoldable pub deadline_at : Reader Command
deadline_at = made (λ x. command.Deadline x.0 x.1) (gameweek_at then moment_at)

unfoldable pub new_player_at : Reader Command
new_player_at =
    made (λ x. command.Player x.0 x.1.0 x.1.1.0 x.1.1.1.0 x.1.1.1.1)
    (player_at then long_text_at is_name then position_at then club_at then whole_in 0 65535)

unfoldable pub amend_player_at : Reader Command
amend_player_at = made (λ x. command.AmendPlayer x.0 x.1.0 x.1.1) (target_at then long_text_at is_name then position_at)

unfoldable pub price_at : Reader Command
price_at = made (λ x. command.Price x.0 x.1) (player_at then whole_in 0 65535)

unfoldable pub new_club_at : Reader Command
new_club_at = made (λ x. command.Club x.0 x.1) (player_at then club_at)

unfoldable pub gone_at : Reader Command
gone_at = made (λ x. command.Gone x.0 x.1) (player_at then flag_at)

unfoldable pub new_fixture_at : Reader Command
new_fixture_at =
    made (λ x. command.Fixture x.0 x.1.0 x.1.1.0 x.1.1.1.0 x.1.1.1.1) (player_at then club_at then club_at then place_at then moment_at)

unfoldable pub move_at : Reader Command
move_at = made (λ x. command.Move x.0 x.1.0 x.1.1) (target_at then place_at then moment_at)

unfoldable pub amend_fixture_at : Reader Command
amend_fixture_at = made (λ x. command.AmendFixture x.0 x.1.0 x.1.1) (target_at then club_at then club_at)

unfoldable pub sheet_at : Reader Command
sheet_at = made (λ x. command.Sheet x.0 x.1.0 x.1.1) (target_at then list_at row_at then flag_at)

unfoldable pub one_line_at : Reader Command
one_line_at = made (λ x. command.Line x.0 x.1.0 x.1.1) (target_at then player_at then line_at)

unfoldable pub drop_at : Reader Command
drop_at = made (λ x. command.Drop x.0 x.1) (target_at then player_at)

unfoldable pub finished_at : Reader Command
finished_at = made (λ x. command.Finished x.0 x.1) (target_at then flag_at)

unfoldable pub new_key_at : Reader Command
new_key_at = made (λ x. command.Key x.0 x.1) (long_text_at is_key then long_text_at is_name)

unfoldable pub rekey_at : Reader Command
rekey_at = made (λ x. command.Rekey x.0 x.1.0 x.1.1) (target_at then long_text_at is_key then long_text_at is_name)

unfoldable pub squad_at : Reader Command
squad_at = made (λ x. command.Squad x.0 x.1.0 x.1.1) (fifteen_at then player_at then player_at)

unfoldable pub transfers_at : Reader Command
transfers_at = made (λ x. command.Transfers x) (list_at swap_at)

unfoldable pub lineup_at : Reader Command
lineup_at = made (λ x. command.Lineup x.0 x.1.0 x.1.1) (fifteen_at then player_at then player_at)

unfoldable pub new_chip_at : Reader Command
new_chip_at = made (λ x. command.Chip x) chip_at

unfoldable pub cancel_at : Reader Command
cancel_at bytes = Some (command.CancelChip, bytes)

unfoldable pub new_league_at : Reader Command
new_league_at =
    made (λ x. command.League x.0 x.1.0 x.1.1.0 x.1.1.1) (kind_at then long_text_at is_name then long_text_at is_code then gameweek_at)

unfoldable pub join_at : Reader Command
join_at = made (λ x. command.Join x.0 x.1) (target_at then long_text_at is_code)

unfoldable pub draw_at : Reader Command
draw_at = made (λ x. command.Draw x.0 x.1) (target_at then list_at id_at)

unfoldable pub new_cup_at : Reader Command
new_cup_at =
    made (λ x. command.Cup x.0 x.1.0 x.1.1) (gameweek_at then list_at (whole_in 0 4294967295) then list_at (whole_in 0 255))

-- by the number of the command
abbrev pub numbered_at : ℕ → Reader Command
numbered_at n bytes =
    if n == 1 then season_at bytes
    else if n == 2 then deadline_at bytes
    else if n == 3 then new_player_at bytes
    else if n == 4 then price_at bytes
    else if n == 5 then new_club_at bytes
    else if n == 6 then gone_at bytes
    else if n == 7 then new_fixture_at bytes
    else if n == 8 then move_at bytes
    else if n == 9 then sheet_at bytes
    else if n == 10 then one_line_at bytes
    else if n == 11 then drop_at bytes
    else if n == 12 then finished_at bytes
    else if n == 13 then new_key_at bytes
    else if n == 14 then squad_at bytes
    else if n == 15 then transfers_at bytes
    else if n == 16 then lineup_at bytes
    else if n == 17 then new_chip_at bytes
    else if n == 18 then cancel_at bytes
    else if n == 19 then new_league_at bytes
    else if n == 20 then join_at bytes
    else if n == 21 then draw_at bytes
    else if n == 22 then new_cup_at bytes
    else if n == 23 then rekey_at bytes
    else if n == 24 then amend_player_at bytes
    else if n == 25 then amend_fixture_at bytes
    else None

unfoldable pub command_at : Reader Command
command_at bytes = byte_at bytes >>= λ n. numbered_at n.0 n.1

-- the command that has these bytes, if one has
abbrev pub command_of : List ℕ → Option Command
command_of bytes = whole_of command_at bytes
