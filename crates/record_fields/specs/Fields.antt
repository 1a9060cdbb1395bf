-- The fields of records and commands, as bytes.
use Rattle.std.specs.Prelude.{ℕ, Bool, true, false, List, [], ◌∷◌, ◌++◌, length, Option, Some, None, flat_map}
use Rattle.std.specs.Int.{Width, w16, w64, to_be_bytes}
use Rattle.fpl_base.specs.declared.kinds.Chip.{Chip}
use Rattle.fpl_base.specs.declared.kinds.Chip.TheVariants as chip
use Rattle.fpl_base.specs.declared.kinds.Position.{Position}
use Rattle.fpl_base.specs.declared.kinds.Position.TheVariants as position
use Rattle.fpl_base.specs.declared.kinds.Profile.{Profile}
use Rattle.fpl_base.specs.declared.kinds.Profile.TheVariants as profile
use Rattle.rule_book.specs.declared.league.LeagueKind.{LeagueKind}
use Rattle.rule_book.specs.declared.league.LeagueKind.TheVariants as kind

-- a number below 256 in one byte, and a number in the bytes of its width, the highest first
abbrev pub byte : ℕ → List ℕ
byte n = n ∷ []

unfoldable pub number : Width → ℕ → List ℕ
number w n = to_be_bytes w n

-- a whole number of a command
abbrev pub whole : ℕ → List ℕ
whole n = number w64 n

-- no gameweek is 0
abbrev pub or_zero : Option ℕ → ℕ
or_zero None = 0
or_zero (Some g) = g

-- a text behind its length in one byte, and in two
abbrev pub short_text : List ℕ → List ℕ
short_text text = byte (length text) ++ text

abbrev pub long_text : List ℕ → List ℕ
long_text text = number w16 (length text) ++ text

-- a list behind its count in two bytes
abbrev pub listed : {X : Type 0} → (X → List ℕ) → List X → List ℕ
listed each xs = number w16 (length xs) ++ flat_map each xs

-- Numbers of what is no number.

abbrev pub flag : Bool → ℕ
flag false = 0
flag true = 1

abbrev pub profile_number : Profile → ℕ
profile_number profile.A = 1
profile_number profile.B = 2

-- what a season command ends with: nothing under profile A, and the number of B
abbrev pub profile_end : Profile → List ℕ
profile_end profile.A = []
profile_end profile.B = byte (profile_number profile.B)

abbrev pub position_number : Position → ℕ
position_number position.Keeper = 0
position_number position.Defender = 1
position_number position.Midfielder = 2
position_number position.Forward = 3

abbrev pub chip_number : Chip → ℕ
chip_number chip.None = 0
chip_number chip.Wildcard = 1
chip_number chip.FreeHit = 2
chip_number chip.BenchBoost = 3
chip_number chip.TripleCaptain = 4

abbrev pub kind_number : LeagueKind → ℕ
kind_number kind.Classic = 1
kind_number kind.Head = 2
