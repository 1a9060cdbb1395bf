-- Free transfers over a season, what the others cost, the transfers that a table counts, and where a chip was played.
use Rattle.std.specs.Prelude.{◌≡◌, ◌+◌, ◌-◌, ℕ, zero, suc, Bool, true, false, ◌&&◌, ◌||◌, List, [], ◌∷◌, Option, Some, None, ◌==◌, if◌then◌else◌, nat_lt}
use Rattle.fpl_base.specs.declared.kinds.Chip.{Chip}
use Rattle.fpl_base.specs.declared.kinds.Chip.TheVariants.{None as NoChip, Wildcard, FreeHit, BenchBoost, TripleCaptain}
use Rattle.fpl_base.specs.declared.kinds.Profile.{Profile}
use Rattle.rule_book.specs.FreeTransfers.{free_next, transfer_cost}
use Rattle.rule_book.specs.History.{Deed, Event, chip_at}
use Rattle.rule_book.specs.History.Deed.{First, Swap, Lineup, Play, Cancel}
use Rattle.rule_book.specs.HistoryRules.{first_gw}

-- wildcard and free hit make a gameweek's transfers free
abbrev pub makes_free : Chip → Bool
makes_free NoChip = false
makes_free Wildcard = true
makes_free FreeHit = true
makes_free BenchBoost = false
makes_free TripleCaptain = false

abbrev pub is_swap : Deed → Bool
is_swap (First squad captain vice) = false
is_swap (Swap sale) = true
is_swap (Lineup players captain vice) = false
is_swap (Play chip) = false
is_swap Cancel = false

-- how many swaps a gameweek has
abbrev pub swaps_in : List Event → ℕ → ℕ
swaps_in [] g = 0
swaps_in (e ∷ h) g = if (e.gw == g) && is_swap e.deed then suc (swaps_in h g) else swaps_in h g

-- free transfers by what each gameweek used and which chip it had: one in the gameweek after s, then step by step
abbrev pub free_from : Profile → (ℕ → ℕ) → (ℕ → Chip) → ℕ → ℕ → ℕ
free_from profile used chip s zero = 1
free_from profile used chip s (suc k) = free_next profile (free_from profile used chip s k) (used ((s + 1) + k)) (chip ((s + 1) + k))

-- the free transfers of a gameweek after the first
abbrev pub free_at : Profile → List Event → ℕ → ℕ
free_at profile h g = free_from profile (swaps_in h) (chip_at h) (first_gw h) (g - (first_gw h + 1))

-- g is after the first gameweek
abbrev pub is_past_first : List Event → ℕ → Bool
is_past_first [] g = false
is_past_first (e ∷ h) g = nat_lt e.gw g

-- what a history says of the free transfers: there are none exactly up to the first gameweek
abbrev pub FreeTold : Profile → List Event → ℕ → Option ℕ → Type 0
FreeTold profile h g None = is_past_first h g ≡ false
FreeTold profile h g (Some n) = (is_past_first h g ≡ true) × (n ≡ free_at profile h g)

-- the points that the transfers of a gameweek cost: none up to the first gameweek
abbrev pub cost_at : Profile → List Event → ℕ → ℕ
cost_at profile h g = if is_past_first h g then transfer_cost (free_at profile h g) (swaps_in h g) (chip_at h g) else 0

-- the transfers of gameweeks 1 to g, without those of gameweek s and those under a wildcard or a free hit
abbrev pub counted_from : (ℕ → ℕ) → (ℕ → Chip) → ℕ → ℕ → ℕ
counted_from used chip s zero = 0
counted_from used chip s (suc g) = counted_from used chip s g + (if (suc g == s) || makes_free (chip (suc g)) then 0 else used (suc g))

-- the transfers that a table counts through gameweek g
abbrev pub counted_through : List Event → ℕ → ℕ
counted_through h g = counted_from (swaps_in h) (chip_at h) (first_gw h) g

abbrev pub is_same_chip : Chip → Chip → Bool
is_same_chip NoChip NoChip = true
is_same_chip Wildcard Wildcard = true
is_same_chip FreeHit FreeHit = true
is_same_chip BenchBoost BenchBoost = true
is_same_chip TripleCaptain TripleCaptain = true
is_same_chip one other = false

abbrev pub earlier_of : Option ℕ → Option ℕ → Option ℕ
earlier_of None later = later
earlier_of (Some g) later = Some g

-- the first of so many gameweeks, from a gameweek on, that has a chip
abbrev pub chip_among : (ℕ → Chip) → Chip → ℕ → ℕ → Option ℕ
chip_among chips chip from zero = None
chip_among chips chip from (suc k) = earlier_of (chip_among chips chip from k) (if is_same_chip chip (chips (from + k)) then Some (from + k) else None)

-- the gameweek from which on a chip is played once: a wildcard after `split` is another one
abbrev pub half_of : ℕ → Chip → ℕ → ℕ
half_of split NoChip g = 1
half_of split Wildcard g = if nat_lt split g then split + 1 else 1
half_of split FreeHit g = 1
half_of split BenchBoost g = 1
half_of split TripleCaptain g = 1

-- the earlier gameweek in which a chip was played, in the same half for a wildcard
abbrev pub used_before : ℕ → (ℕ → Chip) → Chip → ℕ → Option ℕ
used_before split chips chip g = chip_among chips chip (half_of split chip g) (g - half_of split chip g)
