-- A member's squad as players with their positions.
use Rattle.std.specs.Prelude.{ℕ, List, map}
use Rattle.fpl_base.specs.declared.kinds.Position.{Position}
use Rattle.draft_league.specs.Holdings.{squad_in}
use Rattle.draft_league.specs.declared.kinds.Holding.{Holding}

-- a player with his position
abbrev pub player_in : Holding → ℕ × Position
player_in holding = (holding.player, holding.position)

-- a member's players with their positions
abbrev pub players_in : List Holding → ℕ → List (ℕ × Position)
players_in held member = map player_in (squad_in held member)
