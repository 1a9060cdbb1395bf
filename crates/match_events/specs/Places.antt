-- Where a player stands in an ascending list, or would go.
use Rattle.std.specs.Prelude.{◌≡◌, ◌<◌, ◌≤◌, ◌⊎◌, ℕ, List, insert, length, slice_index}

-- he stands at a place
pub record IsPlace (players : List ℕ) (player place : ℕ) : Type 0 where
  pub within : place < length players
  pub here : slice_index players place ≡ player

-- he does not stand there, and would go to a place
pub record IsGap (players : List ℕ) (player place : ℕ) : Type 0 where
  pub within : place ≤ length players
  pub smaller : (k : ℕ) → k < place → slice_index players k < player
  pub greater : (k : ℕ) → place ≤ k → k < length players → player < slice_index players k

-- the others are as they were, with him among them or put between them
abbrev pub IsPut : List ℕ → ℕ → List ℕ → Type 0
IsPut players player more = (more ≡ players) ⊎ ((place : ℕ) × (more ≡ insert players place player))
