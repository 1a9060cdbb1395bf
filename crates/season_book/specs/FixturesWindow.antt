-- The fixtures of a season, each with its score and with what its players did in it.
use Rattle.std.specs.Prelude.{ℕ, ℤ, pos, ◌+◌, Bool, false, not, ◌&&◌, ◌||◌, ◌==◌, int_lt, min, max, List, [], ◌∷◌, Option, Some, None, codes, filter, fold, map, sum_by, if◌then◌else◌}
use Rattle.std.specs.List.{list_all}
use Rattle.std.specs.Option.{option_map_or}
use Rattle.std.specs.Ordering.{int_eq}
use Rattle.serde_json.specs.Data.{Data, array, boolean, member, no_items, no_members, object, string}
use Rattle.json_members.specs.Members.{count, count_or_null, integer}
use Rattle.rule_book.specs.declared.line.Line.{Line}
use Rattle.rule_book.specs.declared.season.Fixture.{Fixture}
use Rattle.rule_book.specs.MatchFacts.{Lines, has_facts, is_finished, lines_of}
use Rattle.rule_book.specs.Players.{player_of}
use Rattle.rule_book.specs.Ranks.{rank_among}
use Rattle.rule_book.specs.RowsInOrder.{in_order}
use Rattle.season_book.specs.Book.{Facts}
use Rattle.season_book.specs.Windows.{listed}
use Rattle.season_book.specs.MomentText.{moment_text}
use Rattle.season_book.specs.LineSums.{assists_of, goals_of, line_bonus, line_bps, minutes_of, own_goals_of, penalties_missed_of, penalties_saved_of, red_cards_of, saves_of, yellow_cards_of}

-- fixtures by kick-off, those of one kick-off by number
abbrev pub by_kickoff : List Fixture → List Fixture
by_kickoff fixtures = in_order (λ fixture. (fixture.kickoff, fixture.id)) fixtures

-- Sides.

-- whether a player plays for a club, as it now is
abbrev pub plays_for : Facts → ℕ → ℕ → Bool
plays_for facts club p = option_map_or (λ player. player.club == club) (player_of facts.players p) false

-- whether he is on the side at home of a match, and whether on the other; of neither where he plays for none of the two
abbrev pub is_at_home : Facts → Fixture → ℕ → Bool
is_at_home facts fixture p = plays_for facts fixture.home p

abbrev pub is_away : Facts → Fixture → ℕ → Bool
is_away facts fixture p = not (is_at_home facts fixture p) && plays_for facts fixture.away p

-- The score.

-- whether a player's line counts for no side, or is known to count for one
abbrev pub has_known_goals : Facts → Fixture → ℕ × Line → Bool
has_known_goals facts fixture row =
    ((goals_of row.1 == 0) && (own_goals_of row.1 == 0)) || is_at_home facts fixture row.0 || is_away facts fixture row.0

-- a match has a score once it has started, where each goal and each own goal is that of a side
abbrev pub has_score : Facts → Fixture → Bool
has_score facts fixture =
    has_facts facts.matches fixture.id && list_all (has_known_goals facts fixture) (lines_of facts.matches fixture.id)

-- the goals of a side: those of its own players, and the own goals of the others
abbrev pub goals_for : (ℕ → Bool) → (ℕ → Bool) → Lines → ℕ
goals_for is_own is_other lines =
    sum_by (λ row. goals_of row.1) (filter (λ row. is_own row.0) lines) + sum_by (λ row. own_goals_of row.1) (filter (λ row. is_other row.0) lines)

abbrev pub home_score : Facts → Fixture → Option ℕ
home_score facts fixture =
    if has_score facts fixture then Some (goals_for (is_at_home facts fixture) (is_away facts fixture) (lines_of facts.matches fixture.id)) else None

abbrev pub away_score : Facts → Fixture → Option ℕ
away_score facts fixture =
    if has_score facts fixture then Some (goals_for (is_away facts fixture) (is_at_home facts fixture) (lines_of facts.matches fixture.id)) else None

-- the minutes of a match: 90 once it is finished, and before that the most that a player has, up to 90
abbrev pub most_minutes : Lines → ℕ
most_minutes lines = fold (λ most row. max most (minutes_of row.1)) 0 lines

abbrev pub minutes_in : Facts → ℕ → ℕ
minutes_in facts f = if is_finished facts.matches f then 90 else min 90 (most_minutes (lines_of facts.matches f))

-- What the players did.

-- players by how much each has, greatest first, those who have as much by number
abbrev pub has_more : ℕ × ℤ → ℕ × ℤ → Bool
has_more row other = int_lt other.1 row.1

abbrev pub greatest_first : List (ℕ × ℤ) → List (ℕ × ℤ)
greatest_first rows = in_order (λ row. (rank_among has_more rows row, row.0)) rows

-- those of a side who have some of a figure
abbrev pub some_of : (ℕ → Bool) → (ℕ × Line → ℤ) → Lines → List (ℕ × ℤ)
some_of is_own value lines =
    map (λ row. (row.0, value row)) (filter (λ row. is_own row.0 && not (int_eq (value row) (pos 0))) lines)

abbrev pub value_row : ℕ × ℤ → Data
value_row row = object
    (member (codes "element") (count row.0)
    (member (codes "value") (integer row.1)
    no_members))

abbrev pub values_of : (ℕ → Bool) → (ℕ × Line → ℤ) → Lines → Data
values_of is_own value lines = listed value_row (greatest_first (some_of is_own value lines))

-- a figure of a match, by its name, with those who have some of it on either side
abbrev pub stat_row : Facts → Fixture → List ℕ × (ℕ × Line → ℤ) → Data
stat_row facts fixture stat = object
    (member (codes "a") (values_of (is_away facts fixture) stat.1 (lines_of facts.matches fixture.id))
    (member (codes "h") (values_of (is_at_home facts fixture) stat.1 (lines_of facts.matches fixture.id))
    (member (codes "identifier") (string stat.0)
    no_members)))

-- a figure of a line, and what follows of the line in its fixture
abbrev pub counted : (Line → ℕ) → ℕ × Line → ℤ
counted figure row = pos (figure row.1)

abbrev pub bonus_in : Facts → ℕ → ℕ × Line → ℤ
bonus_in facts f row = pos (line_bonus facts row.0 (f, row.1))

abbrev pub bps_in : Facts → ℕ → ℕ × Line → ℤ
bps_in facts f row = line_bps facts row.0 (f, row.1)

-- the figures by which a match is told
abbrev pub stats_of : Facts → ℕ → List (List ℕ × (ℕ × Line → ℤ))
stats_of facts f =
    (codes "goals_scored", counted goals_of)
    ∷ (codes "assists", counted assists_of)
    ∷ (codes "own_goals", counted own_goals_of)
    ∷ (codes "penalties_saved", counted penalties_saved_of)
    ∷ (codes "penalties_missed", counted penalties_missed_of)
    ∷ (codes "yellow_cards", counted yellow_cards_of)
    ∷ (codes "red_cards", counted red_cards_of)
    ∷ (codes "saves", counted saves_of)
    ∷ (codes "bonus", bonus_in facts f)
    ∷ (codes "bps", bps_in facts f)
    ∷ []

-- of a match that has started
abbrev pub stats_data : Facts → Fixture → Data
stats_data facts fixture =
    if has_facts facts.matches fixture.id then listed (stat_row facts fixture) (stats_of facts fixture.id) else array no_items

-- The window.

abbrev pub fixture_row : Facts → Fixture → Data
fixture_row facts fixture = object
    (member (codes "code") (count fixture.id)
    (member (codes "event") (count_or_null fixture.gw)
    (member (codes "finished") (boolean (is_finished facts.matches fixture.id))
    (member (codes "finished_provisional") (boolean (is_finished facts.matches fixture.id))
    (member (codes "id") (count fixture.id)
    (member (codes "kickoff_time") (string (moment_text fixture.kickoff))
    (member (codes "minutes") (count (minutes_in facts fixture.id))
    (member (codes "started") (boolean (has_facts facts.matches fixture.id))
    (member (codes "stats") (stats_data facts fixture)
    (member (codes "team_a") (count fixture.away)
    (member (codes "team_a_score") (count_or_null (away_score facts fixture))
    (member (codes "team_h") (count fixture.home)
    (member (codes "team_h_score") (count_or_null (home_score facts fixture))
    no_members)))))))))))))

-- the fixtures of a season, by kick-off
abbrev pub fixtures_window : Facts → Option Data
fixtures_window facts = Some (listed (fixture_row facts) (by_kickoff facts.calendar.fixtures))
