-- The players of a season, as a list by ascending id.
use Rattle.std.specs.Prelude.{ℕ, ◌<◌, ◌≤◌, Bool, ◌||◌, List, ◌∷◌, ◌++◌, length, map, filter, find, Option, Some, None, is_some, nat_lt, nat_le, ◌==◌, if◌then◌else◌, All, AllPairs}
use Rattle.fpl_base.specs.declared.kinds.Position.{Position}
use Rattle.fpl_base.specs.declared.rule.Rule.{Rule}
use Rattle.fpl_base.specs.declared.rule.Rule.TheVariants as rule
use Rattle.rule_book.specs.declared.player.Player.{Player}

-- what a player can cost
abbrev pub IsPrice : ℕ → Type 0
IsPrice price = (30 ≤ price) × (price ≤ 200)

-- so many players are in a season at most
abbrev pub most_players : ℕ
most_players = 1200

-- players of a season: the ids rise, so no two players have the same, and each price is one that a player can have
pub record ArePlayers (players : List Player) : Type 0 where
  pub ascending : AllPairs (λ p q. p.id < q.id) players
  pub priced : All (λ p. IsPrice p.price) players
  pub few : length players ≤ most_players

-- the player of an id, if there is one
abbrev pub player_of : List Player → ℕ → Option Player
player_of players id = find (λ p. p.id == id) players

-- the players and a new one, in his place
abbrev pub with_player : List Player → Player → List Player
with_player players new = filter (λ p. nat_lt p.id new.id) players ++ new ∷ filter (λ p. nat_lt new.id p.id) players

-- the players, the one of an id changed
abbrev pub with_change : (Player → Player) → List Player → ℕ → List Player
with_change change players id = map (λ p. if p.id == id then change p else p) players

-- the players, the one of an id at another price
abbrev pub with_price : List Player → ℕ → ℕ → List Player
with_price players id price = with_change (λ p. record p { price = price }) players id

-- the players, the one of an id at another club
abbrev pub with_club : List Player → ℕ → ℕ → List Player
with_club players id club = with_change (λ p. record p { club = club }) players id

-- the players, the one of an id with another mark
abbrev pub with_gone : List Player → ℕ → Bool → List Player
with_gone players id gone = with_change (λ p. record p { gone = gone }) players id

-- the players, the one of an id with another name and at another position
abbrev pub with_details : List Player → ℕ → List ℕ → Position → List Player
with_details players id name position = with_change (λ p. record p { name = name; position = position }) players id

-- why a price is refused, if it is: no player can have it
abbrev pub price_refusal : ℕ → Option Rule
price_refusal price = if nat_lt price 30 || nat_lt 200 price then Some rule.PriceRange else None

-- why a new player is refused, if he is: his id is there, or there is no room, or no player can have his price
abbrev pub player_refusal : List Player → Player → Option Rule
player_refusal players new =
    if is_some (player_of players new.id) then Some (rule.PlayerThere new.id)
    else if nat_le most_players (length players) then Some rule.PlayersFull
    else price_refusal new.price
