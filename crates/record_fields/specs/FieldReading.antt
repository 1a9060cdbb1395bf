-- Fields of bytes.
use Rattle.std.specs.Prelude.{ℕ, Bool, true, false, ◌==◌, if◌then◌else◌, List, [], ◌∷◌, Option, Some, None}
use Rattle.std.specs.Int.{w16, w32, w64}
use Rattle.fpl_base.specs.declared.kinds.Chip.{Chip}
use Rattle.fpl_base.specs.declared.kinds.Chip.TheVariants as chip
use Rattle.fpl_base.specs.declared.kinds.Position.{Position}
use Rattle.fpl_base.specs.declared.kinds.Position.TheVariants as position
use Rattle.fpl_base.specs.declared.kinds.Profile.{Profile}
use Rattle.fpl_base.specs.declared.kinds.Profile.TheVariants as profile
use Rattle.rule_book.specs.declared.league.LeagueKind.{LeagueKind}
use Rattle.rule_book.specs.declared.league.LeagueKind.TheVariants as kind
use Rattle.record_fields.specs.Fields.{flag, profile_number, position_number, chip_number, kind_number}
use Rattle.record_fields.specs.Reading.{Reader, byte_at, number_at, meant, within, text_at, numbered, gameweek_of}

-- The members of commands: numbers in eight bytes, and texts behind two.

unfoldable pub whole_in : ℕ → ℕ → Reader ℕ
whole_in least most = within least most (number_at w64)

unfoldable pub place_at : Reader (Option ℕ)
place_at = meant gameweek_of (number_at w64)

abbrev pub player_at : Reader ℕ
player_at = whole_in 1 999999

abbrev pub club_at : Reader ℕ
club_at = whole_in 1 255

abbrev pub gameweek_at : Reader ℕ
gameweek_at = whole_in 1 38

abbrev pub moment_at : Reader ℕ
moment_at = whole_in 0 253402300799

abbrev pub id_at : Reader ℕ
id_at = whole_in 1 4294967295

unfoldable pub long_text_at : (List ℕ → Bool) → Reader (List ℕ)
long_text_at test = text_at (number_at w16) test

-- The fields of records: numbers in one byte or four, and texts behind one.

unfoldable pub byte_in : ℕ → ℕ → Reader ℕ
byte_in least most = within least most byte_at

unfoldable pub long_in : ℕ → ℕ → Reader ℕ
long_in least most = within least most (number_at w32)

unfoldable pub byte_place_at : Reader (Option ℕ)
byte_place_at = meant gameweek_of byte_at

unfoldable pub short_text_at : (List ℕ → Bool) → Reader (List ℕ)
short_text_at test = text_at byte_at test

-- Numbers of what is no number.

unfoldable pub flag_at : Reader Bool
flag_at = meant (numbered flag (false ∷ true ∷ [])) byte_at

unfoldable pub profile_at : Reader Profile
profile_at = meant (numbered profile_number (profile.A ∷ profile.B ∷ [])) byte_at

-- what a season command ends with
unfoldable pub profile_end_at : Reader Profile
profile_end_at [] = Some (profile.A, [])
profile_end_at (n ∷ rest) = if n == profile_number profile.B then Some (profile.B, rest) else None

unfoldable pub position_at : Reader Position
position_at = meant (numbered position_number (position.Keeper ∷ position.Defender ∷ position.Midfielder ∷ position.Forward ∷ [])) byte_at

unfoldable pub chip_at : Reader Chip
chip_at = meant (numbered chip_number (chip.None ∷ chip.Wildcard ∷ chip.FreeHit ∷ chip.BenchBoost ∷ chip.TripleCaptain ∷ [])) byte_at

unfoldable pub kind_at : Reader LeagueKind
kind_at = meant (numbered kind_number (kind.Classic ∷ kind.Head ∷ [])) byte_at
