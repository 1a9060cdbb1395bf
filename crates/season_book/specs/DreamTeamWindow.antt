-- The team of the week of a gameweek, and who had the most points in it.
use Rattle.std.specs.Prelude.{ℕ, Bool, ◌&&◌, List, [], Option, Some, None, codes, filter, length, map, nat_le, if◌then◌else◌}
use Rattle.serde_json.specs.Data.{Data, member, no_members, null, object}
use Rattle.json_members.specs.Members.{count, integer}
use Rattle.rule_book.specs.declared.team_score.Figures.{Figures}
use Rattle.rule_book.specs.Calendar.{CalendarFacts, is_locked}
use Rattle.rule_book.specs.PlayerFigures.{figures_in}
use Rattle.squad_rules.specs.Elevens.{Row}
use Rattle.season_book.specs.Book.{Facts}
use Rattle.season_book.specs.Windows.{listed, numbered}
use Rattle.season_book.specs.TeamOfTheWeek.{team_of_the_week, top_of}

-- the season has this gameweek
abbrev pub has_gameweek : CalendarFacts → ℕ → Bool
has_gameweek calendar g = nat_le 1 g && nat_le g (length calendar.deadlines)

-- what a player did in a gameweek
abbrev pub figures_of : Facts → ℕ → ℕ → Figures
figures_of facts p g = figures_in facts.profile facts.calendar facts.players facts.matches p g

-- those who played in a gameweek, by id: where each plays, and his points
abbrev pub rows_of_gameweek : Facts → ℕ → List Row
rows_of_gameweek facts g =
    map (λ player. (player.id, player.position, (figures_of facts player.id g).points)) (filter (λ player. (figures_of facts player.id g).played) facts.players)

-- nobody while the gameweek is open
abbrev pub who_played : Facts → ℕ → List Row
who_played facts g = if is_locked facts.calendar g then rows_of_gameweek facts g else []

-- a player of the team, at his place from 1
abbrev pub dream_row : ℕ × Row → Data
dream_row placed = object
    (member (codes "element") (count placed.1.0)
    (member (codes "points") (integer placed.1.2)
    (member (codes "position") (count placed.0)
    no_members)))

abbrev pub top_data : Option Row → Data
top_data None = null
top_data (Some row) = object
    (member (codes "id") (count row.0)
    (member (codes "points") (integer row.2)
    no_members))

abbrev pub dream_team_data : List Row → Data
dream_team_data rows = object
    (member (codes "team") (listed dream_row (numbered (team_of_the_week rows)))
    (member (codes "top_player") (top_data (top_of rows))
    no_members))

-- none where the season has no such gameweek
abbrev pub dream_team_window : Facts → ℕ → Option Data
dream_team_window facts g =
    if has_gameweek facts.calendar g then Some (dream_team_data (who_played facts g)) else None
