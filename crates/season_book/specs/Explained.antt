-- What the points of a line are made of: an item for each kind of thing that gives or takes points.
use Rattle.std.specs.Prelude.{ℕ, ℤ, pos, ◌+ℤ◌, ◌-ℤ◌, not, List, [], ◌∷◌, codes, filter, fold}
use Rattle.std.specs.Ordering.{int_eq}
use Rattle.serde_json.specs.Data.{Data, member, no_members, object, string}
use Rattle.json_members.specs.Members.{count, integer}
use Rattle.fpl_base.specs.declared.kinds.Position.{Position}
use Rattle.fpl_base.specs.declared.kinds.Profile.{Profile}
use Rattle.rule_book.specs.declared.line.Line.{Line}
use Rattle.rule_book.specs.Figures.{figure}
use Rattle.rule_book.specs.Points.{clean_sheet_points, counted_yellow, goal_points, minutes_points}
use Rattle.rule_book.specs.Scoring.{Worth, by_position, gain, loss, gives, gives_one_per, nothing, takes, takes_one_per}
use Rattle.season_book.specs.LineSums.{assists_of, conceded_of, goals_of, minutes_of, own_goals_of, penalties_missed_of, penalties_saved_of, red_cards_of, saves_of}

-- its name, its points, and how many there were
pub record Item : Type 0 where
  pub identifier : List ℕ
  pub points : ℤ
  pub value : ℕ

abbrev pub item : List ℕ → ℤ → ℕ → Item
item identifier points value = record { identifier = identifier; points = points; value = value }

-- so many of a thing that is worth this
abbrev pub worth_points : Worth → ℕ → ℤ
worth_points worth n = pos (gain worth n) -ℤ pos (loss worth n)

-- goals that were let in, by position
abbrev pub conceded_worth : Position → Worth
conceded_worth position = by_position (takes_one_per 2) (takes_one_per 2) nothing nothing position

-- saves, by position
abbrev pub saves_worth : Position → Worth
saves_worth position = by_position (gives_one_per 3) nothing nothing nothing position

abbrev pub minutes_item : Line → Item
minutes_item line = item (codes "minutes") (pos (minutes_points line)) (minutes_of line)

-- all others of a line with this bonus, in their order
abbrev pub other_items : Profile → Position → Line → ℕ → List Item
other_items profile position line bonus =
    item (codes "goals_scored") (worth_points (gives (goal_points profile position)) (goals_of line)) (goals_of line)
    ∷ item (codes "assists") (worth_points (gives 3) (assists_of line)) (assists_of line)
    ∷ item (codes "clean_sheets") (pos (clean_sheet_points position line)) 1
    ∷ item (codes "goals_conceded") (worth_points (conceded_worth position) (conceded_of line)) (conceded_of line)
    ∷ item (codes "own_goals") (worth_points (takes 2) (own_goals_of line)) (own_goals_of line)
    ∷ item (codes "penalties_saved") (worth_points (gives 5) (penalties_saved_of line)) (penalties_saved_of line)
    ∷ item (codes "penalties_missed") (worth_points (takes 2) (penalties_missed_of line)) (penalties_missed_of line)
    ∷ item (codes "yellow_cards") (worth_points (takes 1) (counted_yellow line)) (figure line 8)
    ∷ item (codes "red_cards") (worth_points (takes 3) (red_cards_of line)) (red_cards_of line)
    ∷ item (codes "saves") (worth_points (saves_worth position) (saves_of line)) (saves_of line)
    ∷ item (codes "bonus") (pos bonus) bonus
    ∷ []

-- the minutes, and what else gives or takes points
abbrev pub told_items : Profile → Position → Line → ℕ → List Item
told_items profile position line bonus =
    minutes_item line ∷ filter (λ it. not (int_eq it.points (pos 0))) (other_items profile position line bonus)

-- the points of items in all
abbrev pub points_of_items : List Item → ℤ
points_of_items items = fold (λ total it. total +ℤ it.points) (pos 0) items

abbrev pub item_data : Item → Data
item_data it = object
    (member (codes "identifier") (string it.identifier)
    (member (codes "points") (integer it.points)
    (member (codes "value") (count it.value)
    no_members)))
