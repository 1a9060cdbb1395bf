-- A quotient as text, with one digit behind the point.
use Rattle.std.specs.Prelude.{ℕ, ◌+◌, ◌*◌, ◌/◌, ◌%◌, ◌==◌, Bool, ◌&&◌, ℤ, pos, List, ◌++◌, codes, int_lt, nat_lt, unsigned_abs, if◌then◌else◌}
use Rattle.std.specs.Fmt.{decimal}

-- the tenths in a quotient, rounded, a half up
abbrev pub rounded_tenths : ℕ → ℕ → ℕ
rounded_tenths above below = (20 * above + below) / (2 * below)

-- so many tenths, with the point
abbrev pub tenths_text : ℕ → List ℕ
tenths_text tenths = decimal (tenths / 10) ++ (codes "." ++ decimal (tenths % 10))

-- tenths on the other side of zero; there is none of nothing
abbrev pub signed_tenths_text : Bool → ℕ → List ℕ
signed_tenths_text is_below tenths = if is_below && nat_lt 0 tenths then codes "-" ++ tenths_text tenths else tenths_text tenths

-- a quotient on this side of zero, rounded half away from it; nothing where it is of nothing
abbrev pub quotient_text : Bool → ℕ → ℕ → List ℕ
quotient_text is_below above below =
    if below == 0 then codes "0.0" else signed_tenths_text is_below (rounded_tenths above below)

abbrev pub decimal_text : ℤ → ℕ → List ℕ
decimal_text above below = quotient_text (int_lt above (pos 0)) (unsigned_abs above) below
