-- the lines of a stream: the empty ones in front of a message, and where a head ends
use Rattle.std.specs.Prelude.{ℕ, ◌+◌, ◌≤◌, ◌&&◌, ◌==◌, nat_le, nat_lt, Bool, List, [], ◌∷◌, length, take, drop, if◌then◌else◌, Option, Some, None, option_map, count_by, ⊤}
use Rattle.fpl_http.specs.declared.lines.HeadEnd.{HeadEnd}
use Rattle.fpl_http.specs.declared.lines.HeadEnd.TheVariants.{Missing, TooLarge, At}

-- the length of an empty line at the front, LF or CR LF
abbrev pub empty_line : List ℕ → Option ℕ
empty_line [] = None
empty_line (b ∷ []) = if b == 10 then Some 1 else None
empty_line (b ∷ c ∷ rest) = if b == 10 then Some 1 else (if (b == 13) && (c == 10) then Some 2 else None)

-- the bytes from the first that is not of an empty line
abbrev pub strip : List ℕ → List ℕ
strip [] = []
strip (b ∷ []) = if b == 10 then [] else b ∷ []
strip (b ∷ c ∷ rest) = if b == 10 then strip (c ∷ rest) else (if (b == 13) && (c == 10) then strip rest else b ∷ c ∷ rest)

-- the first of two
abbrev pub or_else : Option ℕ → Option ℕ → Option ℕ
or_else None other = other
or_else (Some n) other = Some n

-- the length of what ends with the first LF that an empty line follows, and with that line
abbrev pub head_len : List ℕ → Option ℕ
head_len [] = None
head_len (b ∷ rest) = option_map (λ n. 1 + n) (or_else (if b == 10 then empty_line rest else None) (head_len rest))

-- the same, where the first line has n bytes with its LF
abbrev pub head_len_behind : ℕ → List ℕ → Option ℕ
head_len_behind n bytes = option_map (λ k. n + k) (or_else (empty_line (drop n bytes)) (head_len (drop n bytes)))

-- how many lines end in these bytes
abbrev pub line_count : List ℕ → ℕ
line_count bytes = count_by (λ b. b == 10) bytes

-- a head has at most 64 lines between the first and the empty one; one that did not end is too large once full
abbrev pub head_end_of : Option ℕ → Bool → List ℕ → HeadEnd
head_end_of None full bytes = if full then TooLarge else Missing
head_end_of (Some n) full bytes = if nat_lt 66 (line_count (take n bytes)) then TooLarge else At n

-- of a head of so many bytes at most
abbrev pub head_end_in : ℕ → List ℕ → HeadEnd
head_end_in most bytes = head_end_of (head_len (take most bytes)) (nat_le most (length bytes)) bytes

-- where the head at the front ends
unfoldable pub head_end : List ℕ → HeadEnd
head_end bytes = head_end_in 8192 bytes

-- the end of a head lies within n bytes
abbrev pub EndWithin : ℕ → HeadEnd → Type 0
EndWithin n Missing = ⊤
EndWithin n TooLarge = ⊤
EndWithin n (At k) = (1 ≤ k) × (k ≤ n)
