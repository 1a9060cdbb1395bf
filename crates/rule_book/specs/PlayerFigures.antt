-- What a player did in a fixture and in a gameweek. A fixture counts where it now stands, and bonus is given once the
-- fixture is finished.
use Rattle.std.specs.Prelude.{ℕ, ℤ, pos, ◌+ℤ◌, Bool, ◌||◌, ◌==◌, if◌then◌else◌, List, [], ◌∷◌, map, fold, sum_by, nat_le}
use Rattle.std.specs.List.{flat_map, list_any}
use Rattle.std.specs.Option.{option_map_or}
use Rattle.fpl_base.specs.declared.kinds.Position.{Position}
use Rattle.fpl_base.specs.declared.kinds.Position.TheVariants.{Keeper}
use Rattle.fpl_base.specs.declared.kinds.Profile.{Profile}
use Rattle.rule_book.specs.declared.line.Appearance.{Appearance}
use Rattle.rule_book.specs.declared.line.Line.{Line}
use Rattle.rule_book.specs.declared.player.Player.{Player}
use Rattle.rule_book.specs.declared.team_score.Figures.{Figures}
use Rattle.rule_book.specs.Bonus.{bonus_in}
use Rattle.rule_book.specs.Calendar.{CalendarFacts, standing}
use Rattle.rule_book.specs.Figures.{figure}
use Rattle.rule_book.specs.MatchFacts.{MatchFacts, is_finished, line_of, lines_of}
use Rattle.rule_book.specs.Players.{player_of}
use Rattle.rule_book.specs.Points.{points_of}

-- where a player plays; a line is always of a player who is there
abbrev pub position_in : List Player → ℕ → Position
position_in players p = option_map_or (λ player. player.position) (player_of players p) Keeper

-- a player with his line in a fixture
abbrev pub appearance : List Player → ℕ × Line → Appearance
appearance players row = record { player = row.0; position = position_in players row.0; line = row.1 }

-- the bonus of a player who has this line in a fixture: none before the fixture is finished
abbrev pub bonus_at : List Player → MatchFacts → ℕ → ℕ × Line → ℕ
bonus_at players facts f row =
    if is_finished facts f then bonus_in (map (appearance players) (lines_of facts f)) (appearance players row) else 0

-- the points of a player who has this line in a fixture, with the bonus
abbrev pub points_at : Profile → List Player → MatchFacts → ℕ → ℕ × Line → ℤ
points_at profile players facts f row =
    points_of profile (position_in players row.0) row.1 +ℤ pos (bonus_at players facts f row)

-- a player's line in a fixture beside the fixture, if he has one
abbrev pub line_beside : MatchFacts → ℕ → ℕ → List (ℕ × Line)
line_beside facts p f = option_map_or (λ line. (f, line) ∷ []) (line_of facts f p) []

-- a player's lines in the fixtures that now stand in a gameweek, each beside its fixture
abbrev pub lines_in_gameweek : CalendarFacts → MatchFacts → ℕ → ℕ → List (ℕ × Line)
lines_in_gameweek calendar facts p g = flat_map (line_beside facts p) (standing calendar g)

-- a player with this line played: he has a minute, a yellow or a red card
abbrev pub played_with : Line → Bool
played_with line = nat_le 1 (figure line 1) || (figure line 8 == 1) || (figure line 9 == 1)

-- what a player did in a gameweek, over all his lines in it
abbrev pub figures_in : Profile → CalendarFacts → List Player → MatchFacts → ℕ → ℕ → Figures
figures_in profile calendar players facts p g =
    let lines : List (ℕ × Line) = lines_in_gameweek calendar facts p g in
    record {
      points = fold (λ total row. total +ℤ points_at profile players facts row.0 (p, row.1)) (pos 0) lines;
      played = list_any (λ row. played_with row.1) lines;
      goals = sum_by (λ row. figure row.1 2) lines;
      conceded = sum_by (λ row. figure row.1 4) lines;
    }
