-- Who owns whom.
use Rattle.std.specs.Prelude.{◌≤◌, ◌&&◌, ◌==◌, ℕ, Bool, List, Option, find, filter, map, count_by, if◌then◌else◌}
use Rattle.std.specs.Option.{option_map}
use Rattle.fpl_base.specs.declared.kinds.Position.{Position}
use Rattle.fpl_base.specs.declared.kinds.Position.TheVariants.{Keeper, Defender, Midfielder, Forward}
use Rattle.rule_book.specs.Positions.{is_keeper, is_defender, is_midfielder, is_forward}
use Rattle.draft_league.specs.declared.kinds.Holding.{Holding}

-- two positions are the same
abbrev pub is_position : Position → Position → Bool
is_position Keeper other = is_keeper other
is_position Defender other = is_defender other
is_position Midfielder other = is_midfielder other
is_position Forward other = is_forward other

-- how many players of a position a member has
abbrev pub number_in : Position → ℕ
number_in Keeper = 2
number_in Defender = 5
number_in Midfielder = 5
number_in Forward = 3

-- who owns a player, if anybody does, and the player's position
abbrev pub owner_in : List Holding → ℕ → Option ℕ
owner_in held player = option_map (λ holding. holding.member) (find (λ (holding : Holding). holding.player == player) held)

abbrev pub position_in : List Holding → ℕ → Option Position
position_in held player = option_map (λ holding. holding.position) (find (λ (holding : Holding). holding.player == player) held)

-- how often a player is owned
abbrev pub owned_in : List Holding → ℕ → ℕ
owned_in held player = count_by (λ (holding : Holding). holding.player == player) held

-- how many players of a position a member owns
abbrev pub count_in : List Holding → ℕ → Position → ℕ
count_in held member position = count_by (λ (holding : Holding). holding.member == member && is_position position holding.position) held

-- a member's players
abbrev pub squad_in : List Holding → ℕ → List Holding
squad_in held member = filter (λ (holding : Holding). holding.member == member) held

-- a player comes in for another, whose owner and position he takes over
abbrev pub exchanged : ℕ → ℕ → List Holding → List Holding
exchanged out into held = map (λ (holding : Holding). record holding { player = if holding.player == out then into else holding.player }) held

-- nobody is owned twice
abbrev pub HasOneOwnerEach : List Holding → Type 0
HasOneOwnerEach held = (player : ℕ) → owned_in held player ≤ 1
