-- The items of a line in three parts, and what is written of items one after another.
use Rattle.std.specs.Prelude.{ℕ, pos, not, List, [], ◌∷◌, ◌++◌, codes, if◌then◌else◌}
use Rattle.std.specs.Ordering.{int_eq}
use Rattle.json.specs.Token.{Token}
use Rattle.json_members.specs.Tokens.{tokens_of}
use Rattle.fpl_base.specs.declared.kinds.Position.{Position}
use Rattle.fpl_base.specs.declared.kinds.Profile.{Profile}
use Rattle.rule_book.specs.declared.line.Line.{Line}
use Rattle.rule_book.specs.Figures.{figure}
use Rattle.rule_book.specs.Points.{clean_sheet_points, counted_yellow, goal_points}
use Rattle.rule_book.specs.Scoring.{gives, takes}
use Rattle.season_book.specs.Explained.{Item, conceded_worth, item, item_data, saves_worth, worth_points}

-- goals, assists and a clean sheet
abbrev pub first_items : Profile → Position → Line → List Item
first_items profile position line =
    item (codes "goals_scored") (worth_points (gives (goal_points profile position)) (figure line 2)) (figure line 2)
    ∷ item (codes "assists") (worth_points (gives 3) (figure line 3)) (figure line 3)
    ∷ item (codes "clean_sheets") (pos (clean_sheet_points position line)) 1
    ∷ []

-- goals against, and penalties
abbrev pub middle_items : Position → Line → List Item
middle_items position line =
    item (codes "goals_conceded") (worth_points (conceded_worth position) (figure line 4)) (figure line 4)
    ∷ item (codes "own_goals") (worth_points (takes 2) (figure line 10)) (figure line 10)
    ∷ item (codes "penalties_saved") (worth_points (gives 5) (figure line 6)) (figure line 6)
    ∷ item (codes "penalties_missed") (worth_points (takes 2) (figure line 7)) (figure line 7)
    ∷ []

-- cards, saves and the bonus
abbrev pub last_items : Position → Line → ℕ → List Item
last_items position line bonus =
    item (codes "yellow_cards") (worth_points (takes 1) (counted_yellow line)) (figure line 8)
    ∷ item (codes "red_cards") (worth_points (takes 3) (figure line 9)) (figure line 9)
    ∷ item (codes "saves") (worth_points (saves_worth position) (figure line 5)) (figure line 5)
    ∷ item (codes "bonus") (pos bonus) bonus
    ∷ []

-- an item whose points are not 0
abbrev pub item_tokens : Item → List Token
item_tokens it = if not (int_eq it.points (pos 0)) then tokens_of (item_data it) else []

abbrev pub kept_tokens : List Item → List Token
kept_tokens [] = []
kept_tokens (it ∷ items) = item_tokens it ++ kept_tokens items
