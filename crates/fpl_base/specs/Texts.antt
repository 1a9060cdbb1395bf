-- The short texts of the season: names, keys and codes.
use Rattle.std.specs.Prelude.{ℕ, List, length, Bool, not, ◌&&◌, ◌||◌, ◌==◌, nat_le}
use Rattle.std.specs.List.{list_all}
use Rattle.std.specs.Str.{is_utf8}

-- there are at least this many bytes and at most that many
abbrev pub has_length : ℕ → ℕ → List ℕ → Bool
has_length least most bytes = nat_le least (length bytes) && nat_le (length bytes) most

-- a byte that is no control character
abbrev pub is_shown : ℕ → Bool
is_shown b = nat_le 32 b && not (b == 127)

-- a small letter of the alphabet, or a digit
abbrev pub is_letter_or_digit : ℕ → Bool
is_letter_or_digit b = (nat_le 97 b && nat_le b 122) || (nat_le 48 b && nat_le b 57)

-- a name: UTF-8 text of 1 to 64 bytes without control characters
abbrev pub is_name : List ℕ → Bool
is_name bytes = (has_length 1 64 bytes && list_all is_shown bytes) && is_utf8 bytes

-- a key: 8 to 64 small letters and digits
abbrev pub is_key : List ℕ → Bool
is_key bytes = has_length 8 64 bytes && list_all is_letter_or_digit bytes

-- a league's code: 4 to 16 small letters and digits
abbrev pub is_code : List ℕ → Bool
is_code bytes = has_length 4 16 bytes && list_all is_letter_or_digit bytes
