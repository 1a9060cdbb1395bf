-- Where a player stands among players.
use Rattle.std.specs.Prelude.{◌≡◌, ℕ, ◌<◌, ◌≤◌, List, length}
use Rattle.std.specs.List.{HoldsAt, AllWithin}
use Rattle.rule_book.specs.declared.player.Player.{Player}

-- the player of an id stands at a place
pub record StandsAt (players : List Player) (id at : ℕ) : Type 0 where
  pub within : at < length players
  pub has_id : HoldsAt (λ p. p.id ≡ id) players at

-- no player has an id, and a place is between the smaller ids and the greater ones
pub record IsPlaceFor (players : List Player) (id at : ℕ) : Type 0 where
  pub within : at ≤ length players
  pub smaller : AllWithin (λ p. p.id < id) players 0 at
  pub greater : AllWithin (λ p. id < p.id) players at (length players)
