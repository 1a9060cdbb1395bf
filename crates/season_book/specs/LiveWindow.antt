-- What each player did in a gameweek, and what his points are made of.
use Rattle.std.specs.Prelude.{◌==◌, ℕ, Bool, List, [], Option, Some, None, codes, if◌then◌else◌}
use Rattle.std.specs.List.{list_any}
use Rattle.serde_json.specs.Data.{Data, boolean, member, no_members, object}
use Rattle.json_members.specs.Members.{count, integer}
use Rattle.rule_book.specs.declared.line.Line.{Line}
use Rattle.rule_book.specs.declared.player.Player.{Player}
use Rattle.rule_book.specs.Calendar.{is_locked}
use Rattle.rule_book.specs.PlayerFigures.{position_in}
use Rattle.squad_rules.specs.Elevens.{Row}
use Rattle.season_book.specs.Book.{Facts}
use Rattle.season_book.specs.Windows.{listed}
use Rattle.season_book.specs.DreamTeamWindow.{has_gameweek, rows_of_gameweek}
use Rattle.season_book.specs.Explained.{Item, item_data, told_items}
use Rattle.season_book.specs.LineSums.{assists_of, bonus_over, bps_over, clean_sheets_of, conceded_of, gameweek_lines, goals_of, line_bonus, minutes_of, own_goals_of, penalties_missed_of, penalties_saved_of, points_over, red_cards_of, saves_of, sum_over, yellow_cards_of}
use Rattle.season_book.specs.TeamOfTheWeek.{team_of_the_week}

-- a player's lines in a gameweek, summed, and whether he is in its team of the week
abbrev pub stats_data : Facts → ℕ → List (ℕ × Line) → Bool → Data
stats_data facts p lines is_dreamed = object
    (member (codes "assists") (count (sum_over assists_of lines))
    (member (codes "bonus") (count (bonus_over facts p lines))
    (member (codes "bps") (integer (bps_over facts p lines))
    (member (codes "clean_sheets") (count (sum_over clean_sheets_of lines))
    (member (codes "goals_conceded") (count (sum_over conceded_of lines))
    (member (codes "goals_scored") (count (sum_over goals_of lines))
    (member (codes "in_dreamteam") (boolean is_dreamed)
    (member (codes "minutes") (count (sum_over minutes_of lines))
    (member (codes "own_goals") (count (sum_over own_goals_of lines))
    (member (codes "penalties_missed") (count (sum_over penalties_missed_of lines))
    (member (codes "penalties_saved") (count (sum_over penalties_saved_of lines))
    (member (codes "red_cards") (count (sum_over red_cards_of lines))
    (member (codes "saves") (count (sum_over saves_of lines))
    (member (codes "total_points") (integer (points_over facts p lines))
    (member (codes "yellow_cards") (count (sum_over yellow_cards_of lines))
    no_members)))))))))))))))

-- what a player's line in a fixture gives
abbrev pub explained_items : Facts → ℕ → ℕ × Line → List Item
explained_items facts p row = told_items facts.profile (position_in facts.players p) row.1 (line_bonus facts p row)

abbrev pub explained_data : Facts → ℕ → ℕ × Line → Data
explained_data facts p row = object
    (member (codes "fixture") (count row.0)
    (member (codes "stats") (listed item_data (explained_items facts p row))
    no_members))

-- a player is one of these
abbrev pub is_in_team : List Row → ℕ → Bool
is_in_team team p = list_any (λ row. row.0 == p) team

abbrev pub live_row : Facts → List Row → ℕ → Player → Data
live_row facts team g player = object
    (member (codes "explain") (listed (explained_data facts player.id) (gameweek_lines facts player.id g))
    (member (codes "id") (count player.id)
    (member (codes "stats") (stats_data facts player.id (gameweek_lines facts player.id g) (is_in_team team player.id))
    no_members)))

-- nobody while the gameweek is open
abbrev pub live_players : Facts → ℕ → List Player
live_players facts g = if is_locked facts.calendar g then facts.players else []

abbrev pub live_data : Facts → ℕ → Data
live_data facts g = object
    (member (codes "elements") (listed (live_row facts (team_of_the_week (rows_of_gameweek facts g)) g) (live_players facts g))
    no_members)

-- none where the season has no such gameweek
abbrev pub live_window : Facts → ℕ → Option Data
live_window facts g = if has_gameweek facts.calendar g then Some (live_data facts g) else None
