-- What a team scores in a gameweek, as a value, and what it has in a cup.
use Rattle.std.specs.Prelude.{◌≡◌, ◌↔◌, ℕ, ℤ, pos, ◌+ℤ◌, ◌-ℤ◌, Bool, List, sum_by}
use Rattle.rule_book.specs.declared.cup.Side.{Side}
use Rattle.rule_book.specs.declared.team.Team.{Team}
use Rattle.rule_book.specs.declared.team_score.Figures.{Figures}
use Rattle.rule_book.specs.declared.team_score.TeamScore.{TeamScore}
use Rattle.rule_book.specs.Armbands.{armband_of}
use Rattle.rule_book.specs.FinalSlots.{final_slots}
use Rattle.rule_book.specs.TeamScores.{IsScore, conceded_at, counting, extra_points, goals_at, points_of_slots}

-- the points before transfers are paid: those of the slots that count, and what the armband adds
abbrev pub gross_of : Team → List Figures → Bool → ℤ
gross_of team figures ended =
    points_of_slots figures (counting team (final_slots team figures ended)) +ℤ extra_points figures (armband_of team figures ended)

-- the score, where transfers cost so much
abbrev pub score_of : Team → List Figures → Bool → ℕ → TeamScore
score_of team figures ended cost =
    let eleven : List ℕ = final_slots team figures ended in
    record {
      gross = gross_of team figures ended;
      cost = cost;
      net = gross_of team figures ended -ℤ pos cost;
      goals = sum_by (goals_at figures) eleven;
      conceded = sum_by (conceded_at figures) eleven;
      eleven = record { slots = eleven };
      armband = armband_of team figures ended;
    }

-- it is the only one that the rules allow
abbrev pub ScoreIsTheOne : Type 0
ScoreIsTheOne = (team : Team) (figures : List Figures) (ended : Bool) (cost : ℕ) (score : TeamScore) → IsScore team figures ended cost score ↔ (score ≡ score_of team figures ended cost)

-- a side of a cup tie: the points after deductions, and the goals of the final eleven
abbrev pub side_of : TeamScore → Side
side_of score = record { net = score.net; goals = score.goals; conceded = score.conceded }

-- by what each entry scores in each gameweek: its points after deductions, and its side of a tie
abbrev pub nets : (ℕ → ℕ → TeamScore) → ℕ → ℕ → ℤ
nets score entry g = (score entry g).net

abbrev pub sides : (ℕ → ℕ → TeamScore) → ℕ → ℕ → Side
sides score entry g = side_of (score entry g)
