-- Tests of a table of patterns: each id takes a whole segment, and no target fits two patterns.
use Rattle.std.specs.Prelude.{ℕ, List, [], ◌∷◌, Bool, true, false, ◌==◌, ◌&&◌, ◌||◌, not, nat_lt, if◌then◌else◌}

-- nothing or a slash follows each parameter, and there is no catch-all
abbrev pub begins_well : List ℕ → Bool
begins_well [] = true
begins_well (y ∷ p) = y == 47

abbrev pub is_whole : List ℕ → Bool
is_whole [] = true
is_whole (x ∷ p) = nat_lt x 257 && ((not (x == 256) || begins_well p) && is_whole p)

-- each pattern of a table has this form
abbrev pub all_whole : {K : Type 0} → List (List ℕ × K) → Bool
all_whole [] = true
all_whole (r ∷ rest) = is_whole r.0 && all_whole rest

-- the patterns part at two bytes, or where one of them ends
abbrev pub differ : List ℕ → List ℕ → Bool
differ [] [] = false
differ [] (y ∷ q) = true
differ (x ∷ p) [] = true
differ (x ∷ p) (y ∷ q) = if x == y then differ p q else nat_lt x 256 && nat_lt y 256

abbrev pub differs_from_all : {K : Type 0} → List ℕ → List (List ℕ × K) → Bool
differs_from_all p [] = true
differs_from_all p (r ∷ rest) = differ p r.0 && differs_from_all p rest

abbrev pub all_differ : {K : Type 0} → List (List ℕ × K) → Bool
all_differ [] = true
all_differ (r ∷ rest) = differs_from_all r.0 rest && all_differ rest
