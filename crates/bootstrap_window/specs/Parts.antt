-- The members of a player in four parts, as they are written.
use Rattle.std.specs.Prelude.{ℕ, ℤ, List, [], codes}
use Rattle.serde_json.specs.Data.{Members, member, no_members, null, string}
use Rattle.json_members.specs.Members.{count, integer}
use Rattle.rule_book.specs.declared.player.Player.{Player}
use Rattle.season_book.specs.ElementTypes.{position_number}
use Rattle.season_book.specs.Elements.{LineTotals, status_of}

abbrev pub first_members : Player → LineTotals → Members
first_members player totals =
    member (codes "assists") (count totals.assists)
    (member (codes "bonus") (count totals.bonus)
    (member (codes "bps") (integer totals.bps)
    (member (codes "chance_of_playing_next_round") null
    (member (codes "chance_of_playing_this_round") null
    (member (codes "clean_sheets") (count totals.clean_sheets)
    (member (codes "code") (count player.id)
    no_members))))))

abbrev pub second_members : Player → LineTotals → ℤ → Members
second_members player totals points =
    member (codes "element_type") (count (position_number player.position))
    (member (codes "event_points") (integer points)
    (member (codes "first_name") (string [])
    (member (codes "goals_conceded") (count totals.conceded)
    (member (codes "goals_scored") (count totals.goals)
    (member (codes "id") (count player.id)
    (member (codes "minutes") (count totals.minutes)
    (member (codes "news") (string [])
    no_members)))))))

abbrev pub third_members : Player → LineTotals → List ℕ → Members
third_members player totals average =
    member (codes "now_cost") (count player.price)
    (member (codes "own_goals") (count totals.own_goals)
    (member (codes "penalties_missed") (count totals.penalties_missed)
    (member (codes "penalties_saved") (count totals.penalties_saved)
    (member (codes "photo") (string [])
    (member (codes "points_per_game") (string average)
    (member (codes "red_cards") (count totals.red_cards)
    (member (codes "saves") (count totals.saves)
    no_members)))))))

abbrev pub fourth_members : Player → LineTotals → List ℕ → Members
fourth_members player totals share =
    member (codes "second_name") (string player.name)
    (member (codes "selected_by_percent") (string share)
    (member (codes "status") (string (status_of player.gone))
    (member (codes "team") (count player.club)
    (member (codes "team_code") (count player.club)
    (member (codes "total_points") (integer totals.points)
    (member (codes "web_name") (string player.name)
    (member (codes "yellow_cards") (count totals.yellow_cards)
    no_members)))))))
