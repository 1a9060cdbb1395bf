-- The words and numbers by which answers name what is no number.
use Rattle.std.specs.Prelude.{ℕ, List, codes}
use Rattle.fpl_base.specs.declared.kinds.Chip.{Chip}
use Rattle.fpl_base.specs.declared.kinds.Chip.TheVariants as chip
use Rattle.fpl_base.specs.declared.kinds.Profile.{Profile}
use Rattle.fpl_base.specs.declared.kinds.Profile.TheVariants as profile

-- the word of a chip
abbrev pub chip_word : Chip → List ℕ
chip_word chip.None = codes "none"
chip_word chip.Wildcard = codes "wildcard"
chip_word chip.FreeHit = codes "free_hit"
chip_word chip.BenchBoost = codes "bench_boost"
chip_word chip.TripleCaptain = codes "triple_captain"

-- the number of a profile
abbrev pub profile_number : Profile → ℕ
profile_number profile.A = 1
profile_number profile.B = 2
