-- Slots of a team, numbered from 1.
use Rattle.std.specs.Prelude.{ℕ, ◌-◌, ◌≤◌, Bool, true, false, not, ◌||◌, List, [], ◌∷◌, slice_get}
use Rattle.std.specs.Option.{option_map_or}
use Rattle.fpl_base.specs.declared.kinds.Position.{Position}
use Rattle.fpl_base.specs.declared.kinds.Chip.{Chip}
use Rattle.fpl_base.specs.declared.kinds.Chip.TheVariants as chip
use Rattle.rule_book.specs.declared.team.Pick.{Pick}
use Rattle.rule_book.specs.declared.team.Team.{Team}
use Rattle.rule_book.specs.declared.team_score.Figures.{Figures}
use Rattle.rule_book.specs.Positions.{is_keeper, is_defender, is_midfielder, is_forward}

-- a slot of the fifteen
abbrev pub InTeam : ℕ → Type 0
InTeam slot = (1 ≤ slot) × (slot ≤ 15)

-- all slots, those of the starters, and those of the bench but for its goalkeeper, by priority
abbrev pub all_slots : List ℕ
all_slots = 1 ∷ 2 ∷ 3 ∷ 4 ∷ 5 ∷ 6 ∷ 7 ∷ 8 ∷ 9 ∷ 10 ∷ 11 ∷ 12 ∷ 13 ∷ 14 ∷ 15 ∷ []

abbrev pub starters : List ℕ
starters = 1 ∷ 2 ∷ 3 ∷ 4 ∷ 5 ∷ 6 ∷ 7 ∷ 8 ∷ 9 ∷ 10 ∷ 11 ∷ []

abbrev pub bench : List ℕ
bench = 13 ∷ 14 ∷ 15 ∷ []

-- a pick's position passes a test
abbrev pub has_position : (Position → Bool) → Pick → Bool
has_position test pick = test pick.position

-- the player of a slot is a goalkeeper, a defender, a midfielder, a forward
abbrev pub keeper_at : Team → ℕ → Bool
keeper_at team slot = option_map_or (has_position is_keeper) (slice_get team.picks (slot - 1)) false

abbrev pub defender_at : Team → ℕ → Bool
defender_at team slot = option_map_or (has_position is_defender) (slice_get team.picks (slot - 1)) false

abbrev pub midfielder_at : Team → ℕ → Bool
midfielder_at team slot = option_map_or (has_position is_midfielder) (slice_get team.picks (slot - 1)) false

abbrev pub forward_at : Team → ℕ → Bool
forward_at team slot = option_map_or (has_position is_forward) (slice_get team.picks (slot - 1)) false

-- the player of a slot played
abbrev pub has_played : Figures → Bool
has_played figures = figures.played

abbrev pub did_play : List Figures → ℕ → Bool
did_play figures slot = option_map_or has_played (slice_get figures (slot - 1)) false

-- the chip is a bench boost
abbrev pub is_boost : Chip → Bool
is_boost chip.BenchBoost = true
is_boost chip.None = false
is_boost chip.Wildcard = false
is_boost chip.FreeHit = false
is_boost chip.TripleCaptain = false

-- nobody is replaced: the gameweek has not ended, or all fifteen count
abbrev pub is_still : Bool → Team → Bool
is_still ended team = not ended || is_boost team.chip
