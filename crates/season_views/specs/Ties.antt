-- The ties of a cup that are shown.
use Rattle.std.specs.Prelude.{ℕ, List, Option, length}
use Rattle.std.specs.List.{sum_by}
use Rattle.std.specs.Option.{option_map_or}

-- the ties of a cup that are shown: those of its rounds in locked gameweeks
abbrev pub ties_of : List (Option (List ℕ)) → ℕ
ties_of rounds = sum_by (λ winners. option_map_or length winners 0) rounds
