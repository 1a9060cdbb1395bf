-- Positions.
use Rattle.std.specs.Prelude.{ℕ, Bool, true, false, List, count_by}
use Rattle.fpl_base.specs.declared.kinds.Position.{Position}
use Rattle.fpl_base.specs.declared.kinds.Position.TheVariants.{Keeper, Defender, Midfielder, Forward}

-- the position is that of a goalkeeper, a defender, a midfielder, a forward
abbrev pub is_keeper : Position → Bool
is_keeper Keeper = true
is_keeper Defender = false
is_keeper Midfielder = false
is_keeper Forward = false

abbrev pub is_defender : Position → Bool
is_defender Keeper = false
is_defender Defender = true
is_defender Midfielder = false
is_defender Forward = false

abbrev pub is_midfielder : Position → Bool
is_midfielder Keeper = false
is_midfielder Defender = false
is_midfielder Midfielder = true
is_midfielder Forward = false

abbrev pub is_forward : Position → Bool
is_forward Keeper = false
is_forward Defender = false
is_forward Midfielder = false
is_forward Forward = true

-- how many of the positions are those of goalkeepers, defenders, midfielders, forwards
abbrev pub keepers : List Position → ℕ
keepers positions = count_by is_keeper positions

abbrev pub defenders : List Position → ℕ
defenders positions = count_by is_defender positions

abbrev pub midfielders : List Position → ℕ
midfielders positions = count_by is_midfielder positions

abbrev pub forwards : List Position → ℕ
forwards positions = count_by is_forward positions
