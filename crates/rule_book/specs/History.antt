-- A manager's history: what he did, in order, and which of it counts in a gameweek.
use Rattle.std.specs.Prelude.{ℕ, Bool, true, false, not, ◌&&◌, ◌||◌, List, [], ◌∷◌, map, filter, ◌==◌, if◌then◌else◌, nat_lt}
use Rattle.std.specs.List.{flat_map}
use Rattle.fpl_base.specs.declared.kinds.Chip.{Chip}
use Rattle.fpl_base.specs.declared.kinds.Chip.TheVariants.{None as NoChip, Wildcard, FreeHit, BenchBoost, TripleCaptain}
use Rattle.rule_book.specs.declared.transfers.Sale.{Sale}

-- a player of a squad, and the price at which he was bought
pub record Holding : Type 0 where
  pub player : ℕ
  pub bought : ℕ

-- what a manager does: his first squad by slot, a swap, an order of the fifteen, a chip, or the chip taken back;
-- captain and vice are slots
pub data Deed : Type 0 where
  First : (squad : List Holding) → (captain vice : ℕ) → Deed
  Swap : (sale : Sale) → Deed
  Lineup : (players : List ℕ) → (captain vice : ℕ) → Deed
  Play : (chip : Chip) → Deed
  Cancel : Deed

-- a deed, and the gameweek that was next as it was done; a history is a list of these, oldest first
pub record Event : Type 0 where
  pub gw : ℕ
  pub deed : Deed

-- the last of a list, and d of an empty one
abbrev pub last_of : {A : Type 0} → A → List A → A
last_of d [] = d
last_of d (x ∷ xs) = last_of x xs

-- what a deed says of the chip
abbrev pub chip_said : Deed → List Chip
chip_said (First squad captain vice) = []
chip_said (Swap sale) = []
chip_said (Lineup players captain vice) = []
chip_said (Play chip) = chip ∷ []
chip_said Cancel = NoChip ∷ []

abbrev pub chip_said_in : ℕ → Event → List Chip
chip_said_in g e = if e.gw == g then chip_said e.deed else []

-- the chip of a gameweek: that of its last Play or Cancel
abbrev pub chip_at : List Event → ℕ → Chip
chip_at h g = last_of NoChip (flat_map (chip_said_in g) h)

abbrev pub is_free_hit : Chip → Bool
is_free_hit FreeHit = true
is_free_hit NoChip = false
is_free_hit Wildcard = false
is_free_hit BenchBoost = false
is_free_hit TripleCaptain = false

-- what was done in gameweek w counts in g: w is g, or is before g and has no free hit
abbrev pub counts_in : List Event → ℕ → ℕ → Bool
counts_in h g w = (w == g) || (nat_lt w g && not (is_free_hit (chip_at h w)))

-- the events that count in a gameweek
abbrev pub kept : List Event → ℕ → List Event
kept h g = filter (λ e. counts_in h g e.gw) h

-- something was done in the gameweek
abbrev pub is_touched : List Event → ℕ → Bool
is_touched [] g = false
is_touched (e ∷ h) g = (e.gw == g) || is_touched h g

-- several deeds of one gameweek
abbrev pub in_gameweek : ℕ → List Deed → List Event
in_gameweek g ds = map (λ d. record { gw = g; deed = d }) ds
