-- The bonus of a match by the greatest numbers of those who took part.
use Rattle.std.specs.Prelude.{ℕ, ℤ, negsuc, ◌-◌, List, [], ◌∷◌, count_by, filter, int_lt, if◌then◌else◌}

-- the numbers at three levels: at each stands somebody, or nobody where it is below all numbers of 32 bits
abbrev pub numbers_at : ℤ → ℤ → ℤ → List ℤ
numbers_at first second third = filter (int_lt (negsuc 2147483648)) (first ∷ second ∷ third ∷ [])

-- how many of some numbers are greater than one
abbrev pub greater : List ℤ → ℤ → ℕ
greater numbers own = count_by (λ other. int_lt own other) numbers

-- the bonus of who has a number: 3, 2 and 1 for nobody, one and two above
abbrev pub bonus_by : List ℤ → ℤ → ℕ
bonus_by numbers own = 3 - greater numbers own

-- what one more who stands above takes away
abbrev pub above : ℤ → ℤ → ℕ
above own other = if int_lt own other then 1 else 0
