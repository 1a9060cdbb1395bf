-- Free transfers from one gameweek to the next, and what the others cost.
use Rattle.std.specs.Prelude.{ℕ, ◌+◌, ◌-◌, ◌*◌, min}
use Rattle.fpl_base.specs.declared.kinds.Chip.{Chip}
use Rattle.fpl_base.specs.declared.kinds.Chip.TheVariants as chip
use Rattle.fpl_base.specs.declared.kinds.Profile.{Profile}
use Rattle.fpl_base.specs.declared.kinds.Profile.TheVariants as profile

-- a manager keeps at most so many free transfers
abbrev pub most_free : Profile → ℕ
most_free profile.A = 2
most_free profile.B = 5

-- the free transfers of the gameweek after a wildcard or a free hit, where so many were free in it
abbrev pub free_after_rebuild : Profile → ℕ → ℕ
free_after_rebuild profile.A free = 1
free_after_rebuild profile.B free = free

-- the free transfers of the next gameweek, after one with so many free, so many used and this chip
abbrev pub free_next : Profile → ℕ → ℕ → Chip → ℕ
free_next p free used chip.Wildcard = free_after_rebuild p free
free_next p free used chip.FreeHit = free_after_rebuild p free
free_next p free used chip.None = min (most_free p) ((free - used) + 1)
free_next p free used chip.BenchBoost = min (most_free p) ((free - used) + 1)
free_next p free used chip.TripleCaptain = min (most_free p) ((free - used) + 1)

-- the points that the transfers of a gameweek cost, where it is not the entry's first
abbrev pub transfer_cost : ℕ → ℕ → Chip → ℕ
transfer_cost free used chip.Wildcard = 0
transfer_cost free used chip.FreeHit = 0
transfer_cost free used chip.None = 4 * (used - free)
transfer_cost free used chip.BenchBoost = 4 * (used - free)
transfer_cost free used chip.TripleCaptain = 4 * (used - free)
