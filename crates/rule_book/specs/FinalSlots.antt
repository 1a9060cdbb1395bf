-- The final eleven, as a value: the starters are taken in order.
use Rattle.std.specs.Prelude.{◌≡◌, ◌↔◌, ℕ, zero, suc, ◌+◌, Bool, List, [], ◌∷◌, ◌++◌, find, unwrap_or, if◌then◌else◌}
use Rattle.rule_book.specs.declared.team.Team.{Team}
use Rattle.rule_book.specs.declared.team_score.Figures.{Figures}
use Rattle.rule_book.specs.Elevens.{IsFinal, can_stand, keeper_for}
use Rattle.rule_book.specs.Teams.{bench, did_play, is_still, starters}

-- who stands for starter n of the slots 2 to 11, where those before him have these slots
abbrev pub stand_for : Team → List Figures → List ℕ → ℕ → ℕ
stand_for team figures before n = if did_play figures n then n else unwrap_or (find (can_stand team figures before n) bench) n

-- the slots that stand for the goalkeeper and for so many outfield starters
abbrev pub slots_through : Team → List Figures → ℕ → List ℕ
slots_through team figures zero = keeper_for figures ∷ []
slots_through team figures (suc k) = slots_through team figures k ++ stand_for team figures (slots_through team figures k) (k + 2) ∷ []

-- the final eleven
abbrev pub final_slots : Team → List Figures → Bool → List ℕ
final_slots team figures ended = if is_still ended team then starters else slots_through team figures 10

-- it is the only one that the rules allow
abbrev pub FinalElevenIsTheOne : Type 0
FinalElevenIsTheOne = (team : Team) (figures : List Figures) (ended : Bool) (eleven : List ℕ) → IsFinal team figures ended eleven ↔ (eleven ≡ final_slots team figures ended)
