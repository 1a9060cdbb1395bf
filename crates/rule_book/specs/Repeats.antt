-- Numbers that stand twice in a list.
use Rattle.std.specs.Prelude.{ℕ, Bool, List, Option, ◌==◌, take, length, find, slice_index}
use Rattle.std.specs.List.{list_any, range_with_len}
use Rattle.std.specs.Option.{option_map}

-- the number at this place stands at an earlier one too
abbrev pub is_repeat : List ℕ → ℕ → Bool
is_repeat numbers place = list_any (λ number. number == slice_index numbers place) (take place numbers)

-- the first number that repeats an earlier one of the list
abbrev pub first_repeat : List ℕ → Option ℕ
first_repeat numbers = option_map (slice_index numbers) (find (is_repeat numbers) (range_with_len 0 (length numbers)))
