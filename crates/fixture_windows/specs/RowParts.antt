-- The members of rows, in the parts in which they are written.
use Rattle.std.specs.Prelude.{ℕ, List, Option, codes}
use Rattle.std.specs.List.{flat_map}
use Rattle.json.specs.Token.{Token}
use Rattle.serde_json.specs.Data.{Data, Members, boolean, member, no_members, string}
use Rattle.json_members.specs.Members.{count, count_or_null, integer}
use Rattle.json_members.specs.Tokens.{tokens_of}
use Rattle.rule_book.specs.declared.line.Line.{Line}
use Rattle.rule_book.specs.declared.season.Fixture.{Fixture}
use Rattle.rule_book.specs.MatchFacts.{has_facts, is_finished}
use Rattle.season_book.specs.Book.{Facts}
use Rattle.season_book.specs.MomentText.{moment_text}
use Rattle.season_book.specs.ElementSummary.{opponent_in, was_home}
use Rattle.season_book.specs.FixturesWindow.{away_score, home_score, minutes_in}
use Rattle.season_book.specs.LineSums.{assists_of, clean_sheets_of, conceded_of, goals_of, line_bonus, line_bps, line_points, minutes_of, own_goals_of, penalties_missed_of, penalties_saved_of, red_cards_of, saves_of, yellow_cards_of}

-- a fixture, up to whether it has started
abbrev pub fixture_begun : Facts → Fixture → Members
fixture_begun facts fixture =
    member (codes "code") (count fixture.id)
    (member (codes "event") (count_or_null fixture.gw)
    (member (codes "finished") (boolean (is_finished facts.matches fixture.id))
    (member (codes "finished_provisional") (boolean (is_finished facts.matches fixture.id))
    (member (codes "id") (count fixture.id)
    (member (codes "kickoff_time") (string (moment_text fixture.kickoff))
    (member (codes "minutes") (count (minutes_in facts fixture.id))
    (member (codes "started") (boolean (has_facts facts.matches fixture.id))
    no_members)))))))

-- its clubs with their goals
abbrev pub fixture_ended : Fixture → Option ℕ → Option ℕ → Members
fixture_ended fixture away home =
    member (codes "team_a") (count fixture.away)
    (member (codes "team_a_score") (count_or_null away)
    (member (codes "team_h") (count fixture.home)
    (member (codes "team_h_score") (count_or_null home)
    no_members)))

-- a player's line in a match, up to its minutes
abbrev pub line_begun : Facts → ℕ → Fixture → Line → Members
line_begun facts p fixture line =
    member (codes "assists") (count (assists_of line))
    (member (codes "bonus") (count (line_bonus facts p (fixture.id, line)))
    (member (codes "bps") (integer (line_bps facts p (fixture.id, line)))
    (member (codes "clean_sheets") (count (clean_sheets_of line))
    (member (codes "element") (count p)
    (member (codes "fixture") (count fixture.id)
    (member (codes "goals_conceded") (count (conceded_of line))
    (member (codes "goals_scored") (count (goals_of line))
    (member (codes "kickoff_time") (string (moment_text fixture.kickoff))
    (member (codes "minutes") (count (minutes_of line))
    no_members)))))))))

-- from his opponent to his saves
abbrev pub line_amid : Facts → ℕ → Fixture → Line → Members
line_amid facts p fixture line =
    member (codes "opponent_team") (count_or_null (opponent_in facts fixture p))
    (member (codes "own_goals") (count (own_goals_of line))
    (member (codes "penalties_missed") (count (penalties_missed_of line))
    (member (codes "penalties_saved") (count (penalties_saved_of line))
    (member (codes "red_cards") (count (red_cards_of line))
    (member (codes "round") (count_or_null fixture.gw)
    (member (codes "saves") (count (saves_of line))
    no_members))))))

-- and from the score on
abbrev pub line_ended : Facts → ℕ → Fixture → Line → Members
line_ended facts p fixture line =
    member (codes "team_a_score") (count_or_null (away_score facts fixture))
    (member (codes "team_h_score") (count_or_null (home_score facts fixture))
    (member (codes "total_points") (integer (line_points facts p (fixture.id, line)))
    (member (codes "was_home") (was_home facts fixture p)
    (member (codes "yellow_cards") (count (yellow_cards_of line))
    no_members))))

-- the tokens of rows, one behind the other, as they stand in a list
abbrev pub row_tokens : {X : Type 0} → (X → Data) → List X → List Token
row_tokens row rows = flat_map (λ x. tokens_of (row x)) rows
