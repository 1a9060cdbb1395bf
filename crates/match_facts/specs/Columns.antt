-- A sheet's lines in two columns.
use Rattle.std.specs.Prelude.{◌≡◌, ◌<◌, ◌≤◌, ℕ, List, length, slice_index, MatchResult, Result}
use Rattle.rule_book.specs.declared.line.Line.{Line}

-- each is smaller than those after it
abbrev pub IsAscending : List ℕ → Type 0
IsAscending players = (i j : ℕ) → i < j → j < length players → slice_index players i < slice_index players j

-- ascending players, at most 64, and a line for each
pub record AreColumns (players : List ℕ) (lines : List Line) : Type 0 where
  pub ascending : IsAscending players
  pub paired : length lines ≡ length players
  pub few : length players ≤ 64

-- a player stands at a place
pub record IsPlace (players : List ℕ) (player place : ℕ) : Type 0 where
  pub within : place < length players
  pub here : slice_index players place ≡ player

-- a player does not stand there, and would go to a place
pub record IsGap (players : List ℕ) (player place : ℕ) : Type 0 where
  pub within : place ≤ length players
  pub smaller : (k : ℕ) → k < place → slice_index players k < player
  pub greater : (k : ℕ) → place ≤ k → k < length players → player < slice_index players k

-- where a player stands, or would go
abbrev pub IsSought : List ℕ → ℕ → Result ℕ ℕ → Type 0
IsSought players player found = MatchResult found (IsPlace players player) (IsGap players player)
