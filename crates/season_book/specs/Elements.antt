-- What a window shows of the players.
use Rattle.std.specs.Prelude.{ℕ, ◌*◌, ◌==◌, ℤ, pos, Bool, List, [], codes, count_by, length, nat_le, if◌then◌else◌}
use Rattle.std.specs.List.{list_any}
use Rattle.serde_json.specs.Data.{Data, member, no_members, null, object, string}
use Rattle.json_members.specs.Members.{count, integer}
use Rattle.rule_book.specs.declared.line.Line.{Line}
use Rattle.rule_book.specs.declared.player.Player.{Player}
use Rattle.rule_book.specs.declared.team.Pick.{Pick}
use Rattle.rule_book.specs.PlayerFigures.{figures_in}
use Rattle.season_book.specs.Book.{EntryFacts, Facts}
use Rattle.season_book.specs.EntryViews.{team_by}
use Rattle.season_book.specs.Windows.{listed}
use Rattle.season_book.specs.Decimals.{decimal_text}
use Rattle.season_book.specs.ElementTypes.{position_number}
use Rattle.season_book.specs.EntryTotals.{entries_in}
use Rattle.season_book.specs.LineSums.{all_lines, assists_of, bonus_over, bps_over, clean_sheets_of, conceded_of, goals_of, minutes_of, own_goals_of, penalties_missed_of, penalties_saved_of, points_over, red_cards_of, saves_of, sum_over, yellow_cards_of}

-- what a player has of some of his lines: how many there are, in how many of them he has a minute, and what they sum to
pub record LineTotals : Type 0 where
  pub lines : ℕ
  pub played : ℕ
  pub assists : ℕ
  pub bonus : ℕ
  pub bps : ℤ
  pub clean_sheets : ℕ
  pub conceded : ℕ
  pub goals : ℕ
  pub minutes : ℕ
  pub own_goals : ℕ
  pub penalties_missed : ℕ
  pub penalties_saved : ℕ
  pub points : ℤ
  pub red_cards : ℕ
  pub saves : ℕ
  pub yellow_cards : ℕ

abbrev pub totals_over : Facts → ℕ → List (ℕ × Line) → LineTotals
totals_over facts p lines = record {
  lines = length lines;
  played = count_by (λ row. nat_le 1 (minutes_of row.1)) lines;
  assists = sum_over assists_of lines;
  bonus = bonus_over facts p lines;
  bps = bps_over facts p lines;
  clean_sheets = sum_over clean_sheets_of lines;
  conceded = sum_over conceded_of lines;
  goals = sum_over goals_of lines;
  minutes = sum_over minutes_of lines;
  own_goals = sum_over own_goals_of lines;
  penalties_missed = sum_over penalties_missed_of lines;
  penalties_saved = sum_over penalties_saved_of lines;
  points = points_over facts p lines;
  red_cards = sum_over red_cards_of lines;
  saves = sum_over saves_of lines;
  yellow_cards = sum_over yellow_cards_of lines;
}

-- his points in the gameweek that was locked last; none before the first
abbrev pub points_now : Facts → ℕ → ℤ
points_now facts p =
    let g = facts.calendar.locked in
    if g == 0 then pos 0 else (figures_in facts.profile facts.calendar facts.players facts.matches p g).points

-- the entries in the gameweek that was locked last; none before the first
abbrev pub entries_now : Facts → List EntryFacts → List (ℕ × EntryFacts)
entries_now facts entries = if facts.calendar.locked == 0 then [] else entries_in entries facts.calendar.locked

-- whether a player is among these
abbrev pub is_picked : List Pick → ℕ → Bool
is_picked picks p = list_any (λ pick. pick.player == p) picks

-- how many of them have him in their team of it
abbrev pub holders_now : Facts → List EntryFacts → ℕ → ℕ
holders_now facts entries p =
    count_by (λ row. is_picked (team_by facts row.1.history facts.calendar.locked).picks p) (entries_now facts entries)

-- whether he can be bought
abbrev pub status_of : Bool → List ℕ
status_of gone = if gone then codes "u" else codes "a"

-- a player with what he has of his lines, his points now, his points a match, and the share of the entries that hold him
abbrev pub element_with : Player → LineTotals → ℤ → List ℕ → List ℕ → Data
element_with player totals points average share = object
    (member (codes "assists") (count totals.assists)
    (member (codes "bonus") (count totals.bonus)
    (member (codes "bps") (integer totals.bps)
    (member (codes "chance_of_playing_next_round") null
    (member (codes "chance_of_playing_this_round") null
    (member (codes "clean_sheets") (count totals.clean_sheets)
    (member (codes "code") (count player.id)
    (member (codes "element_type") (count (position_number player.position))
    (member (codes "event_points") (integer points)
    (member (codes "first_name") (string [])
    (member (codes "goals_conceded") (count totals.conceded)
    (member (codes "goals_scored") (count totals.goals)
    (member (codes "id") (count player.id)
    (member (codes "minutes") (count totals.minutes)
    (member (codes "news") (string [])
    (member (codes "now_cost") (count player.price)
    (member (codes "own_goals") (count totals.own_goals)
    (member (codes "penalties_missed") (count totals.penalties_missed)
    (member (codes "penalties_saved") (count totals.penalties_saved)
    (member (codes "photo") (string [])
    (member (codes "points_per_game") (string average)
    (member (codes "red_cards") (count totals.red_cards)
    (member (codes "saves") (count totals.saves)
    (member (codes "second_name") (string player.name)
    (member (codes "selected_by_percent") (string share)
    (member (codes "status") (string (status_of player.gone))
    (member (codes "team") (count player.club)
    (member (codes "team_code") (count player.club)
    (member (codes "total_points") (integer totals.points)
    (member (codes "web_name") (string player.name)
    (member (codes "yellow_cards") (count totals.yellow_cards)
    no_members)))))))))))))))))))))))))))))))

-- so a player whom so many of so many entries hold
abbrev pub element_data : Player → LineTotals → ℤ → ℕ → ℕ → Data
element_data player totals points holders entries =
    element_with player totals points (decimal_text totals.points totals.played) (decimal_text (pos (100 * holders)) entries)

abbrev pub element_row : Facts → List EntryFacts → Player → Data
element_row facts entries player =
    let p = player.id in
    element_data player (totals_over facts p (all_lines facts p)) (points_now facts p) (holders_now facts entries p) (length (entries_now facts entries))

-- each of them
abbrev pub elements_window : Facts → List EntryFacts → Data
elements_window facts entries = listed (element_row facts entries) facts.players
