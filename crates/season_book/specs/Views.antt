-- What views show, computed anew from the facts.
use Rattle.std.specs.Prelude.{ℕ, Bool, ◌&&◌, Option, Some, None, map, is_some, nat_le, if◌then◌else◌}
use Rattle.std.specs.Option.{option_map}
use Rattle.rule_book.specs.declared.line.Line.{Line}
use Rattle.rule_book.specs.declared.season.Fixture.{Fixture}
use Rattle.rule_book.specs.BonusPoints.{bps_of}
use Rattle.rule_book.specs.Calendar.{fixture_of, is_locked}
use Rattle.rule_book.specs.MatchFacts.{is_finished, lines_of}
use Rattle.rule_book.specs.PlayerFigures.{bonus_at, figures_in, position_in}
use Rattle.rule_book.specs.Players.{player_of}
use Rattle.rule_book.specs.Points.{points_of}
use Rattle.season_book.specs.Book.{Facts}
use Rattle.season_book.specs.declared.request.View.{View}
use Rattle.season_book.specs.declared.request.View.TheVariants as view
use Rattle.season_book.specs.declared.shown.Shown.{Shown}
use Rattle.season_book.specs.declared.shown.Shown.TheVariants as shown
use Rattle.season_book.specs.declared.shown.ShownFixture.{ShownFixture}
use Rattle.season_book.specs.declared.shown.ShownLine.{ShownLine}
use Rattle.season_book.specs.declared.shown.ShownSeason.{ShownSeason}

-- the season: its clubs, its deadlines and its locks
abbrev pub season_shown : Facts → ShownSeason
season_shown facts = record {
  clubs = facts.clubs;
  deadlines = facts.calendar.deadlines;
  locked = facts.calendar.locked;
  profile = facts.profile;
  split = facts.calendar.split;
}

-- a player's line in a fixture, and what it is worth
abbrev pub line_shown : Facts → ℕ → ℕ × Line → ShownLine
line_shown facts f row = record {
  player = row.0;
  points = points_of facts.profile (position_in facts.players row.0) row.1;
  bps = bps_of (position_in facts.players row.0) row.1;
  bonus = bonus_at facts.players facts.matches f row;
}

-- a fixture: where it stands, whether it is finished, and its lines by player
abbrev pub fixture_shown : Facts → Fixture → ShownFixture
fixture_shown facts fixture = record {
  fixture = fixture;
  finished = is_finished facts.matches fixture.id;
  lines = map (line_shown facts fixture.id) (lines_of facts.matches fixture.id);
}

-- whether a player is there, and a gameweek is locked
abbrev pub has_played_gameweek : Facts → ℕ → ℕ → Bool
has_played_gameweek facts p g = is_some (player_of facts.players p) && (nat_le 1 g && is_locked facts.calendar g)

-- what a view of the facts alone shows; none where an id is not there, or the gameweek is not locked
abbrev pub shown_of : Facts → View → Option Shown
shown_of facts view.Season = Some (shown.Season (season_shown facts))
shown_of facts (view.Player p) = option_map shown.Player (player_of facts.players p)
shown_of facts (view.PlayerGameweek p g) =
    if has_played_gameweek facts p g then Some (shown.PlayerGameweek (figures_in facts.profile facts.calendar facts.players facts.matches p g)) else None
shown_of facts (view.Fixture f) = option_map (λ x. shown.Fixture (fixture_shown facts x)) (fixture_of facts.calendar f)
shown_of facts view = None
