-- The final eleven: which slot stands for each starter.
use Rattle.std.specs.Prelude.{◌≡◌, ◌⊎◌, ◌↔◌, ℕ, ◌-◌, ◌≤◌, Bool, true, false, not, ◌&&◌, ◌==◌, List, ◌∷◌, ◌++◌, take, drop, length, slice_index, nat_le, count_by, find, unwrap_or, if◌then◌else◌}
use Rattle.std.specs.List.{list_any}
use Rattle.rule_book.specs.declared.team.Team.{Team}
use Rattle.rule_book.specs.declared.team_score.Figures.{Figures}
use Rattle.rule_book.specs.Lineups.{IsLineup, is_formation}
use Rattle.rule_book.specs.Squads.{positions_of, has_squad_shape}
use Rattle.rule_book.specs.Teams.{did_play, keeper_at, defender_at, midfielder_at, forward_at, starters, bench, is_still}

-- the slot that stands for starter n
abbrev pub slot_of : List ℕ → ℕ → ℕ
slot_of eleven n = slice_index eleven (n - 1)

-- the players of eleven slots may stand so
abbrev pub is_legal_eleven : Team → List ℕ → Bool
is_legal_eleven team eleven =
    is_formation (count_by (defender_at team) eleven) (count_by (midfielder_at team) eleven) (count_by (forward_at team) eleven)

-- a slot stands for one of these starters
abbrev pub is_used : List ℕ → ℕ → Bool
is_used before slot = list_any (λ other. other == slot) before

-- A slot can stand for starter n, where those before n have these slots, and those behind him stand for themselves: its
-- player played, it is not used, and the formation is legal.
abbrev pub can_stand : Team → List Figures → List ℕ → ℕ → ℕ → Bool
can_stand team figures before n slot =
    did_play figures slot && not (is_used before slot) && is_legal_eleven team (before ++ slot ∷ drop n starters)

-- who stands for starter n of the slots 2 to 11: himself if he played, else the first of the bench who can, if one can
pub record Settles (team : Team) (figures : List Figures) (eleven : List ℕ) (n : ℕ) : Type 0 where
  pub present : did_play figures n ≡ true → slot_of eleven n ≡ n
  pub absent : did_play figures n ≡ false → slot_of eleven n ≡ unwrap_or (find (can_stand team figures (take (n - 1) eleven) n) bench) n

-- who stands for the goalkeeper: the one on the bench if only that one played
abbrev pub keeper_for : List Figures → ℕ
keeper_for figures = if not (did_play figures 1) && did_play figures 12 then 12 else 1

-- the eleven after all substitutions
pub record IsSubstituted (team : Team) (figures : List Figures) (eleven : List ℕ) : Type 0 where
  pub all : length eleven ≡ 11
  pub keeper : slot_of eleven 1 ≡ keeper_for figures
  pub outfield : (n : ℕ) → 2 ≤ n → n ≤ 11 → Settles team figures eleven n

-- the final eleven: the starters where nobody is replaced, and else the eleven after all substitutions
pub record IsFinal (team : Team) (figures : List Figures) (ended : Bool) (eleven : List ℕ) : Type 0 where
  pub kept : is_still ended team ≡ true → eleven ≡ starters
  pub substituted : is_still ended team ≡ false → IsSubstituted team figures eleven

-- a team of a squad with its shape, and with a legal lineup
pub record HasLegalLineup (team : Team) : Type 0 where
  pub shape : has_squad_shape (positions_of team.picks) ≡ true
  pub lineup : IsLineup (positions_of team.picks) team.captain team.vice

-- the goalkeeper's place is filled from slot 1 or 12
abbrev pub IsKeeperSlot : ℕ → Type 0
IsKeeperSlot slot = (slot ≡ 1) ⊎ (slot ≡ 12)

-- the final eleven of a team with a legal lineup may stand so
abbrev pub ElevensAreLegal : Type 0
ElevensAreLegal = (team : Team) (figures : List Figures) (ended : Bool) (eleven : List ℕ) → length team.picks ≡ 15 → HasLegalLineup team → IsFinal team figures ended eleven → is_legal_eleven team eleven ≡ true

-- eleven slots have one goalkeeper, at least three defenders and at least one forward
abbrev pub has_enough_in : Team → List ℕ → Bool
has_enough_in team eleven =
    count_by (keeper_at team) eleven == 1 && nat_le 3 (count_by (defender_at team) eleven) && nat_le 1 (count_by (forward_at team) eleven)

-- Whoever of the bench is not used and may come in for a starter: the eleven with him may stand so exactly where it has
-- one goalkeeper, three defenders and a forward.
abbrev pub EnoughForElevens : Type 0
EnoughForElevens = (team : Team) (figures : List Figures) (eleven : List ℕ) → length team.picks ≡ 15 → HasLegalLineup team → IsSubstituted team figures eleven → (n slot : ℕ) → 2 ≤ n → n ≤ 11 → 13 ≤ slot → slot ≤ 15 → is_used (take (n - 1) eleven) slot ≡ false → is_legal_eleven team (take (n - 1) eleven ++ slot ∷ drop n starters) ≡ has_enough_in team (take (n - 1) eleven ++ slot ∷ drop n starters)

-- at most one eleven is the final one
abbrev pub OneEleven : Type 0
OneEleven = (team : Team) (figures : List Figures) (ended : Bool) (one other : List ℕ) → IsFinal team figures ended one → IsFinal team figures ended other → one ≡ other

-- exactly one eleven is the final one
abbrev pub HasOneEleven : Team → List Figures → Bool → Type 0
HasOneEleven team figures ended = (one : List ℕ) × ((eleven : List ℕ) → IsFinal team figures ended eleven ↔ (eleven ≡ one))
