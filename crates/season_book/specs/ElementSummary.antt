-- One player: the matches that his club has before it, and what he did in those that he has behind him.
use Rattle.std.specs.Prelude.{ℕ, Bool, not, ◌&&◌, ◌||◌, ◌==◌, List, [], ◌∷◌, Option, Some, None, codes, filter, if◌then◌else◌}
use Rattle.std.specs.List.{flat_map}
use Rattle.std.specs.Option.{option_map, option_map_or}
use Rattle.serde_json.specs.Data.{Data, boolean, member, no_members, null, object, string}
use Rattle.json_members.specs.Members.{count, count_or_null, integer, no_list}
use Rattle.rule_book.specs.declared.line.Line.{Line}
use Rattle.rule_book.specs.declared.player.Player.{Player}
use Rattle.rule_book.specs.declared.season.Fixture.{Fixture}
use Rattle.rule_book.specs.MatchFacts.{has_facts, line_of}
use Rattle.rule_book.specs.Players.{player_of}
use Rattle.season_book.specs.Book.{Facts}
use Rattle.season_book.specs.Windows.{listed}
use Rattle.season_book.specs.MomentText.{moment_text}
use Rattle.season_book.specs.FixturesWindow.{away_score, by_kickoff, home_score, is_at_home, is_away}
use Rattle.season_book.specs.LineSums.{assists_of, clean_sheets_of, conceded_of, goals_of, line_bonus, line_bps, line_points, minutes_of, own_goals_of, penalties_missed_of, penalties_saved_of, red_cards_of, saves_of, yellow_cards_of}

-- What his club has before it.

-- whether a club plays a match
abbrev pub has_club : ℕ → Fixture → Bool
has_club club fixture = (fixture.home == club) || (fixture.away == club)

-- its matches that have not started, by kick-off
abbrev pub coming : Facts → ℕ → List Fixture
coming facts club =
    filter (λ fixture. has_club club fixture && not (has_facts facts.matches fixture.id)) (by_kickoff facts.calendar.fixtures)

abbrev pub coming_row : ℕ → Fixture → Data
coming_row club fixture = object
    (member (codes "event") (count_or_null fixture.gw)
    (member (codes "id") (count fixture.id)
    (member (codes "is_home") (boolean (fixture.home == club))
    (member (codes "kickoff_time") (string (moment_text fixture.kickoff))
    (member (codes "team_a") (count fixture.away)
    (member (codes "team_h") (count fixture.home)
    no_members))))))

-- What he did.

-- a player's line in a match, if he has one there
abbrev pub beside_match : Facts → ℕ → Fixture → List (Fixture × Line)
beside_match facts p fixture = option_map_or (λ line. (fixture, line) ∷ []) (line_of facts.matches fixture.id p) []

-- his lines by the kick-off of their matches
abbrev pub history_lines : Facts → ℕ → List (Fixture × Line)
history_lines facts p = flat_map (beside_match facts p) (by_kickoff facts.calendar.fixtures)

-- the club against which he played, and whether he was at home, as far as his side is known
abbrev pub opponent_in : Facts → Fixture → ℕ → Option ℕ
opponent_in facts fixture p =
    if is_at_home facts fixture p then Some fixture.away else if is_away facts fixture p then Some fixture.home else None

abbrev pub was_home : Facts → Fixture → ℕ → Data
was_home facts fixture p =
    if is_at_home facts fixture p || is_away facts fixture p then boolean (is_at_home facts fixture p) else null

abbrev pub history_row : Facts → ℕ → Fixture × Line → Data
history_row facts p row =
    let fixture : Fixture = row.0 in
    let line : Line = row.1 in
    object
    (member (codes "assists") (count (assists_of line))
    (member (codes "bonus") (count (line_bonus facts p (fixture.id, line)))
    (member (codes "bps") (integer (line_bps facts p (fixture.id, line)))
    (member (codes "clean_sheets") (count (clean_sheets_of line))
    (member (codes "element") (count p)
    (member (codes "fixture") (count fixture.id)
    (member (codes "goals_conceded") (count (conceded_of line))
    (member (codes "goals_scored") (count (goals_of line))
    (member (codes "kickoff_time") (string (moment_text fixture.kickoff))
    (member (codes "minutes") (count (minutes_of line))
    (member (codes "opponent_team") (count_or_null (opponent_in facts fixture p))
    (member (codes "own_goals") (count (own_goals_of line))
    (member (codes "penalties_missed") (count (penalties_missed_of line))
    (member (codes "penalties_saved") (count (penalties_saved_of line))
    (member (codes "red_cards") (count (red_cards_of line))
    (member (codes "round") (count_or_null fixture.gw)
    (member (codes "saves") (count (saves_of line))
    (member (codes "team_a_score") (count_or_null (away_score facts fixture))
    (member (codes "team_h_score") (count_or_null (home_score facts fixture))
    (member (codes "total_points") (integer (line_points facts p (fixture.id, line)))
    (member (codes "was_home") (was_home facts fixture p)
    (member (codes "yellow_cards") (count (yellow_cards_of line))
    no_members))))))))))))))))))))))

-- The window.

abbrev pub summary_data : Facts → Player → Data
summary_data facts player = object
    (member (codes "fixtures") (listed (coming_row player.club) (coming facts player.club))
    (member (codes "history") (listed (history_row facts player.id) (history_lines facts player.id))
    (member (codes "history_past") no_list
    no_members)))

-- a player of the season; none where there is none of this number
abbrev pub element_summary_window : Facts → ℕ → Option Data
element_summary_window facts p = option_map (summary_data facts) (player_of facts.players p)
