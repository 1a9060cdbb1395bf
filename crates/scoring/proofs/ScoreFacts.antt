-- The score of the definition is the one of the rules.
use Rattle.std.proofs.Common.{◌≡◌, ℕ, ℤ, pos, Bool, List, refl, sym, ap, subst, ◌∙◌}
use Rattle.std.specs.Prelude.{Option, ◌+ℤ◌, ◌-ℤ◌, sum_by}
use Rattle.rule_book.specs.declared.team.Team.{Team}
use Rattle.rule_book.specs.declared.team_score.Armband.{Armband}
use Rattle.rule_book.specs.declared.team_score.Figures.{Figures}
use Rattle.rule_book.specs.declared.team_score.TeamScore.{TeamScore}
use Rattle.rule_book.specs.Armbands.{armband_of}
use Rattle.rule_book.specs.Elevens.{IsFinal}
use Rattle.rule_book.specs.FinalSlots.{FinalElevenIsTheOne, final_slots}
use Rattle.rule_book.specs.ScoreOfTeam.{ScoreIsTheOne, gross_of, score_of}
use Rattle.rule_book.specs.TeamScores.{IsScore, conceded_at, counting, extra_points, goals_at, points_of_slots}
use Rattle.scoring.proofs.OneEleven.{same_final}
use Rattle.scoring.proofs.SlotFacts.{is_final}

final_is : (team : Team) (figures : List Figures) (ended : Bool) (eleven : List ℕ) → IsFinal team figures ended eleven → eleven ≡ final_slots team figures ended
final_is team figures ended eleven f = same_final team figures ended eleven (final_slots team figures ended) f (is_final team figures ended)

pub final_eleven_is_the_one : FinalElevenIsTheOne
final_eleven_is_the_one team figures ended eleven =
    (final_is team figures ended eleven, λ e. subst (IsFinal team figures ended) (sym e) (is_final team figures ended))

scored : (team : Team) (figures : List Figures) (ended : Bool) (cost : ℕ) → IsScore team figures ended cost (score_of team figures ended cost)
scored team figures ended cost =
    record { eleven = is_final team figures ended; armband = refl; gross = refl; cost_kept = refl; net = refl; goals = refl; conceded = refl }

gross_is : (team : Team) (figures : List Figures) (ended : Bool) (slots : List ℕ) (armband : Option Armband) (gross : ℤ) → slots ≡ final_slots team figures ended → armband ≡ armband_of team figures ended → gross ≡ points_of_slots figures (counting team slots) +ℤ extra_points figures armband → gross ≡ gross_of team figures ended
gross_is team figures ended slots armband gross e a g =
    g ∙ ap (λ s. points_of_slots figures (counting team s) +ℤ extra_points figures armband) e
    ∙ ap (λ b. points_of_slots figures (counting team (final_slots team figures ended)) +ℤ extra_points figures b) a

score_is : (team : Team) (figures : List Figures) (ended : Bool) (cost : ℕ) (score : TeamScore) → IsScore team figures ended cost score → score ≡ score_of team figures ended cost
score_is team figures ended cost score i =
    let e : score.eleven.slots ≡ final_slots team figures ended = final_is team figures ended score.eleven.slots i.eleven in
    let g : score.gross ≡ gross_of team figures ended = gross_is team figures ended score.eleven.slots score.armband score.gross e i.armband i.gross in
    let n : score.net ≡ gross_of team figures ended -ℤ pos cost = i.net ∙ ap (λ z. z -ℤ pos cost) g in
    let goals : score.goals ≡ sum_by (goals_at figures) (final_slots team figures ended) = i.goals ∙ ap (sum_by (goals_at figures)) e in
    let conceded : score.conceded ≡ sum_by (conceded_at figures) (final_slots team figures ended) = i.conceded ∙ ap (sum_by (conceded_at figures)) e in
    λ j. record { gross = g j; cost = i.cost_kept j; net = n j; goals = goals j; conceded = conceded j; eleven = record { slots = e j }; armband = i.armband j }

pub score_is_the_one : ScoreIsTheOne
score_is_the_one team figures ended cost score =
    (score_is team figures ended cost score, λ e. subst (IsScore team figures ended cost) (sym e) (scored team figures ended cost))
