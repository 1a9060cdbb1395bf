-- The ranges of the values that have types of their own.
use Rattle.std.specs.Prelude.{◌≡◌, ◌<◌, ◌^◌, ℕ, Bool, true, ◌&&◌, nat_le, IsTrue, List, length, Option, Some, None}
use Rattle.std.specs.List.{AllByRecursion}
use Rattle.fpl_base.specs.Texts.{is_name}
use Rattle.rule_book.specs.declared.line.Line.{Line}
use Rattle.rule_book.specs.declared.transfers.Swap.{Swap}

-- at least this and at most that
abbrev pub is_between : ℕ → ℕ → ℕ → Bool
is_between least most n = nat_le least n && nat_le n most

-- whether the ids of a slot are in their ranges
abbrev pub is_club : ℕ → Bool
is_club n = is_between 1 255 n

abbrev pub is_player : ℕ → Bool
is_player n = is_between 1 999999 n

abbrev pub is_id : ℕ → Bool
is_id n = is_between 1 4294967295 n

abbrev pub is_gameweek : ℕ → Bool
is_gameweek n = is_between 1 38 n

-- a club; a player or a fixture; an entry, a league or a cup; a gameweek, and one or none; a moment
abbrev pub IsClub : ℕ → Type 0
IsClub n = IsTrue (is_between 1 255 n)

abbrev pub IsPlayer : ℕ → Type 0
IsPlayer n = IsTrue (is_between 1 999999 n)

abbrev pub IsId : ℕ → Type 0
IsId n = IsTrue (is_between 1 4294967295 n)

abbrev pub IsGameweek : ℕ → Type 0
IsGameweek n = IsTrue (is_between 1 38 n)

abbrev pub is_place : Option ℕ → Bool
is_place None = true
is_place (Some g) = is_between 1 38 g

abbrev pub IsMoment : ℕ → Type 0
IsMoment n = IsTrue (is_between 0 253402300799 n)

-- a figure or a price; a line: 28 figures
abbrev pub IsFigure : ℕ → Type 0
IsFigure n = IsTrue (is_between 0 65535 n)

abbrev pub IsWide : Line → Type 0
IsWide line = (length line.figures ≡ 28) × AllByRecursion IsFigure line.figures

-- a club with its name
abbrev pub IsClubNamed : ℕ × List ℕ → Type 0
IsClubNamed club = IsClub club.0 × IsTrue (is_name club.1)

-- a player with his line in a fixture
abbrev pub IsRow : ℕ × Line → Type 0
IsRow row = IsPlayer row.0 × IsWide row.1

-- a transfer that is asked for
abbrev pub IsSwap : Swap → Type 0
IsSwap swap = IsPlayer swap.out × IsPlayer swap.into

-- a player of a team with the price at which he was bought
abbrev pub IsPick : ℕ × ℕ → Type 0
IsPick pick = IsPlayer pick.0 × (pick.1 < 2 ^ 16)

-- a slot of a cup, and a coin
abbrev pub IsBelow32 : ℕ → Type 0
IsBelow32 n = n < 2 ^ 32

abbrev pub IsByte : ℕ → Type 0
IsByte n = n < 256

-- a number of a command's list that is written in eight bytes: of a slot of a cup, of a coin
abbrev pub IsSlotNumber : ℕ → Type 0
IsSlotNumber n = IsTrue (is_between 0 4294967295 n)

abbrev pub IsCoinNumber : ℕ → Type 0
IsCoinNumber n = IsTrue (is_between 0 255 n)
