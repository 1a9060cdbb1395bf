-- Lineups: who starts, who stands on the bench, and who leads.
use Rattle.std.specs.Prelude.{◌≡◌, ◌≤◌, ℕ, ◌-◌, ◌+◌, Bool, true, false, not, ◌&&◌, ◌==◌, List, [], ◌∷◌, Option, take, drop, length, nat_le, slice_get}
use Rattle.std.specs.Option.{option_map_or}
use Rattle.fpl_base.specs.declared.kinds.Position.{Position}
use Rattle.fpl_base.specs.declared.rule.Rule.{Rule}
use Rattle.fpl_base.specs.declared.rule.Rule.TheVariants as rule
use Rattle.rule_book.specs.Positions.{is_keeper, defenders, midfielders, forwards}
use Rattle.rule_book.specs.Squads.{has_squad_shape}
use Rattle.rule_book.specs.Refusals.{first_broken, unless}

-- a goalkeeper stands in this slot
abbrev pub has_keeper_in : List Position → ℕ → Bool
has_keeper_in positions slot = option_map_or is_keeper (slice_get positions (slot - 1)) false

-- goalkeepers stand in slots 1 and 12
abbrev pub has_keepers_in_place : List Position → Bool
has_keepers_in_place positions = has_keeper_in positions 1 && has_keeper_in positions 12

-- the positions of slots 2 to 11
abbrev pub outfield : List Position → List Position
outfield positions = take 10 (drop 1 positions)

-- at least three defenders and a forward start
abbrev pub has_enough : List Position → Bool
has_enough positions = nat_le 3 (defenders (outfield positions)) && nat_le 1 (forwards (outfield positions))

-- a slot of the eleven that start
abbrev pub is_starter : ℕ → Bool
is_starter slot = nat_le 1 slot && nat_le slot 11

-- captain and vice-captain are two of the eleven that start
abbrev pub has_leaders : ℕ → ℕ → Bool
has_leaders captain vice = not (captain == vice) && is_starter captain && is_starter vice

-- what refuses a lineup: its goalkeepers, then its formation, then its leaders
abbrev pub lineup_refusal : List Position → ℕ → ℕ → Option Rule
lineup_refusal positions captain vice =
    first_broken (unless (has_keepers_in_place positions) rule.LineupOrder ∷ unless (has_enough positions) rule.Formation ∷ unless (has_leaders captain vice) rule.Captain ∷ [])

-- a legal lineup
pub record IsLineup (positions : List Position) (captain vice : ℕ) : Type 0 where
  pub keepers : has_keepers_in_place positions ≡ true
  pub formation : has_enough positions ≡ true
  pub leaders : has_leaders captain vice ≡ true

-- ten outfield players may stand so: three to five defenders, two to five midfielders, one to three forwards
abbrev pub is_formation : ℕ → ℕ → ℕ → Bool
is_formation d m f = nat_le 3 d && nat_le d 5 && nat_le 2 m && nat_le m 5 && nat_le 1 f && nat_le f 3 && d + m + f == 10

-- the starters of slots 2 to 11 may stand so
abbrev pub has_formation : List Position → Bool
has_formation positions = is_formation (defenders (outfield positions)) (midfielders (outfield positions)) (forwards (outfield positions))

-- In a squad of the right shape with its goalkeepers in place, three defenders and a forward are enough: the
-- midfielders follow, and the formation is legal.
pub record EnoughIsFormation (positions : List Position) : Type 0 where
  pub two_midfielders : has_enough positions ≡ true → 2 ≤ midfielders (outfield positions)
  pub formation : has_enough positions ≡ has_formation positions

abbrev pub EnoughIsAlwaysFormation : Type 0
EnoughIsAlwaysFormation = (positions : List Position) → length positions ≡ 15 → has_squad_shape positions ≡ true → has_keepers_in_place positions ≡ true → EnoughIsFormation positions
