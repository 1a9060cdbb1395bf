-- What makes a list of events a history: each deed was in order after those before it.
use Rattle.std.specs.Prelude.{◌≡◌, ◌<◌, ◌≤◌, ◌+◌, ℕ, Bool, true, false, not, List, [], ◌∷◌, ◌++◌, map, ◌==◌, if◌then◌else◌, Option, Some, None, ⊤}
use Rattle.fpl_base.specs.declared.kinds.Chip.{Chip}
use Rattle.fpl_base.specs.declared.kinds.Chip.TheVariants.{None as NoChip, Wildcard, FreeHit, BenchBoost, TripleCaptain}
use Rattle.rule_book.specs.History.{Deed, Event, chip_at, is_free_hit, kept}
use Rattle.rule_book.specs.History.Deed.{First, Swap, Lineup, Play, Cancel}
use Rattle.rule_book.specs.HistorySquad.{in_squad}

-- how often a player stands in a list
abbrev pub times : ℕ → List ℕ → ℕ
times p [] = 0
times p (q ∷ ps) = (if q == p then 1 else 0) + times p ps

-- a deed fits what counts so far
abbrev pub FitsKept : List Event → Deed → Type 0
-- nothing was done before, and no player stands twice
FitsKept es (First squad captain vice) = (es ≡ []) × ((p : ℕ) → times p (map (λ k. k.player) squad) ≤ 1)
-- who goes is in the squad, and who comes is not
FitsKept es (Swap sale) = (in_squad es sale.out ≡ true) × (in_squad es sale.into ≡ false)
-- each player of the squad stands once, and no other
FitsKept es (Lineup players captain vice) = (p : ℕ) → times p players ≡ (if in_squad es p then 1 else 0)
FitsKept es (Play chip) = ⊤
FitsKept es Cancel = ⊤

-- bench boost and triple captain can be taken back
abbrev pub can_cancel : Chip → Bool
can_cancel NoChip = false
can_cancel Wildcard = false
can_cancel FreeHit = false
can_cancel BenchBoost = true
can_cancel TripleCaptain = true

-- the gameweek of the first event
abbrev pub first_gw : List Event → ℕ
first_gw [] = 0
first_gw (e ∷ h) = e.gw

-- a chip is played where none stands, and a free hit not in the first gameweek; one of the two that can be cancelled is
abbrev pub ChipFits : List Event → ℕ → Deed → Type 0
ChipFits h g (First squad captain vice) = ⊤
ChipFits h g (Swap sale) = ⊤
ChipFits h g (Lineup players captain vice) = ⊤
ChipFits h g (Play chip) = (chip_at h g ≡ NoChip) × (is_free_hit chip ≡ true → first_gw h < g)
ChipFits h g Cancel = can_cancel (chip_at h g) ≡ true

-- no event is of a later gameweek
abbrev pub NoneAfter : ℕ → List Event → Type 0
NoneAfter g [] = ⊤
NoneAfter g (e ∷ es) = (e.gw ≤ g) × NoneAfter g es

-- First comes first, and nothing else does
abbrev pub is_started : List Event → Bool
is_started [] = false
is_started (e ∷ h) = true

abbrev pub is_first : Deed → Bool
is_first (First squad captain vice) = true
is_first (Swap sale) = false
is_first (Lineup players captain vice) = false
is_first (Play chip) = false
is_first Cancel = false

-- a deed of gameweek g is in order after the events h
abbrev pub Fits : List Event → ℕ → Deed → Type 0
Fits h g d = NoneAfter g h × FitsKept (kept h g) d × ChipFits h g d × (is_started h ≡ not (is_first d))

-- events go on from those before them, each in order
abbrev pub GoesOn : List Event → List Event → Type 0
GoesOn h [] = ⊤
GoesOn h (e ∷ es) = Fits h e.gw e.deed × GoesOn (h ++ e ∷ []) es

abbrev pub IsHistory : List Event → Type 0
IsHistory h = GoesOn [] h

-- what a history says of the first gameweek: there is none exactly where nothing was done
abbrev pub FirstTold : List Event → Option ℕ → Type 0
FirstTold h None = is_started h ≡ false
FirstTold h (Some g) = (is_started h ≡ true) × (g ≡ first_gw h)
