-- The lines of a gameweek as they are gathered, and what is written of a player's own.
use Rattle.std.specs.Prelude.{ℕ, ◌+◌, ℤ, pos, ◌+ℤ◌, ◌==◌, Bool, List, codes, filter, fold, length, map, sum_by}
use Rattle.std.specs.List.{flat_map, list_any}
use Rattle.serde_json.specs.Data.{Data, array, boolean, member, no_items, no_members, object}
use Rattle.json_members.specs.Members.{count, integer}
use Rattle.fpl_base.specs.declared.kinds.Position.{Position}
use Rattle.fpl_base.specs.declared.kinds.Profile.{Profile}
use Rattle.rule_book.specs.declared.line.Line.{Line}
use Rattle.rule_book.specs.declared.player.Player.{Player}
use Rattle.rule_book.specs.BonusPoints.{bps_of}
use Rattle.rule_book.specs.Calendar.{standing}
use Rattle.rule_book.specs.Figures.{figure}
use Rattle.rule_book.specs.MatchFacts.{lines_of}
use Rattle.rule_book.specs.PlayerFigures.{bonus_at}
use Rattle.rule_book.specs.Points.{counted_yellow, points_of}
use Rattle.season_book.specs.Book.{Facts}
use Rattle.season_book.specs.Windows.{listed}
use Rattle.live_windows.specs.declared.sums.LiveLine.{LiveLine}
use Rattle.season_book.specs.Explained.{item_data, told_items}
use Rattle.season_book.specs.LineSums.{clean_sheets_of}

-- a player's line in a fixture, with a bonus
abbrev pub line_with : ℕ → ℕ → Line → ℕ → LiveLine
line_with f p line bonus = record { fixture = f; player = p; line = line; bonus = bonus }

-- with his own
abbrev pub live_line : Facts → ℕ → ℕ × Line → LiveLine
live_line facts f row = line_with f row.0 row.1 (bonus_at facts.players facts.matches f row)

-- all of a fixture, by player
abbrev pub sheet_lines : Facts → ℕ → List LiveLine
sheet_lines facts f = map (live_line facts f) (lines_of facts.matches f)

-- and of the fixtures that stand in a gameweek, by fixture
abbrev pub gathered : Facts → ℕ → List LiveLine
gathered facts g = flat_map (sheet_lines facts) (standing facts.calendar g)

-- a player's own, beside its fixture
abbrev pub own_line : Facts → ℕ → ℕ × Line → LiveLine
own_line facts p row = live_line facts row.0 (p, row.1)

-- sums, and whether a player is in the team of the week
abbrev pub stats_with : ℕ → ℕ → ℤ → ℕ → ℕ → ℕ → Bool → ℕ → ℕ → ℕ → ℕ → ℕ → ℕ → ℤ → ℕ → Data
stats_with assists bonus bps clean_sheets conceded goals is_dreamed minutes own_goals missed saved red saves points yellow = object
    (member (codes "assists") (count assists)
    (member (codes "bonus") (count bonus)
    (member (codes "bps") (integer bps)
    (member (codes "clean_sheets") (count clean_sheets)
    (member (codes "goals_conceded") (count conceded)
    (member (codes "goals_scored") (count goals)
    (member (codes "in_dreamteam") (boolean is_dreamed)
    (member (codes "minutes") (count minutes)
    (member (codes "own_goals") (count own_goals)
    (member (codes "penalties_missed") (count missed)
    (member (codes "penalties_saved") (count saved)
    (member (codes "red_cards") (count red)
    (member (codes "saves") (count saves)
    (member (codes "total_points") (integer points)
    (member (codes "yellow_cards") (count yellow)
    no_members)))))))))))))))

-- those of a player's own lines
abbrev pub own_sum : ℕ → List LiveLine → ℕ
own_sum field own = sum_by (λ line. figure line.line field) own

abbrev pub own_stats : Profile → Position → List LiveLine → Bool → Data
own_stats profile position own is_dreamed =
    stats_with (own_sum 3 own) (sum_by (λ line. line.bonus) own) (fold (λ total line. total +ℤ bps_of position line.line) (pos 0) own)
    (sum_by (λ line. clean_sheets_of line.line) own) (own_sum 4 own) (own_sum 2 own) is_dreamed (own_sum 1 own) (own_sum 10 own) (own_sum 7 own) (own_sum 6 own)
    (own_sum 9 own) (own_sum 5 own) (fold (λ total line. total +ℤ (points_of profile position line.line +ℤ pos line.bonus)) (pos 0) own)
    (sum_by (λ line. counted_yellow line.line) own)

abbrev pub own_explained : Profile → Position → LiveLine → Data
own_explained profile position own = object
    (member (codes "fixture") (count own.fixture)
    (member (codes "stats") (listed item_data (told_items profile position own.line own.bonus))
    no_members))

-- a player by his own lines
abbrev pub own_data : Profile → Position → ℕ → List LiveLine → Bool → Data
own_data profile position p own is_dreamed = object
    (member (codes "explain") (listed (own_explained profile position) own)
    (member (codes "id") (count p)
    (member (codes "stats") (own_stats profile position own is_dreamed)
    no_members)))

-- so it is with each player's own of these lines, where these are the team of the week
abbrev pub own_row : Profile → List LiveLine → List ℕ → Player → Data
own_row profile lines team player =
    own_data profile player.position player.id (filter (λ line. line.player == player.id) lines) (list_any (λ other. other == player.id) team)

abbrev pub players_data : Facts → List LiveLine → List ℕ → Data
players_data facts lines team = object (member (codes "elements") (listed (own_row facts.profile lines team) facts.players) no_members)

-- nobody
abbrev pub no_elements : Data
no_elements = object (member (codes "elements") (array no_items) no_members)

-- the reads of a fixture: its bonus, and each line
abbrev pub sheet_reads : Facts → ℕ → ℕ
sheet_reads facts f = 1 + length (lines_of facts.matches f)
