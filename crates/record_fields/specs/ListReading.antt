-- What stands in the lists of records and commands, of bytes.
use Rattle.std.specs.Prelude.{ℕ, ◌==◌, if◌then◌else◌, List, length, Option, Some, None}
use Rattle.std.specs.Int.{w16}
use Rattle.fpl_base.specs.Texts.{is_name}
use Rattle.rule_book.specs.declared.line.Line.{Line}
use Rattle.rule_book.specs.declared.transfers.Swap.{Swap}
use Rattle.record_fields.specs.FieldReading.{whole_in, player_at, club_at, long_text_at, long_in}
use Rattle.record_fields.specs.Reading.{Reader, number_at, meant, ◌then◌, counted, kept}

abbrev pub pick_at : Reader (ℕ × ℕ)
pick_at = long_in 1 999999 then number_at w16

unfoldable pub list_at : {A : Type 0} → Reader A → Reader (List A)
list_at each = counted (number_at w16) each

-- a line has 28 figures
abbrev pub line_of : List ℕ → Option Line
line_of figures = if length figures == 28 then Some (record { figures = figures }) else None

unfoldable pub line_at : Reader Line
line_at = meant line_of (list_at (whole_in 0 65535))

abbrev pub row_at : Reader (ℕ × Line)
row_at = player_at then line_at

abbrev pub swap_of : ℕ × ℕ → Option Swap
swap_of pair = Some (record { out = pair.0; into = pair.1 })

unfoldable pub swap_at : Reader Swap
swap_at = meant swap_of (player_at then player_at)

abbrev pub club_row_at : Reader (ℕ × List ℕ)
club_row_at = club_at then long_text_at is_name

-- a squad has fifteen players
unfoldable pub fifteen_at : Reader (List ℕ)
fifteen_at = meant (kept (λ players. length players == 15)) (list_at player_at)
