-- When the facts of a season are lawful: what the rules on it, its clubs, players, fixtures and lines ask of them.
use Rattle.std.specs.Prelude.{◌≡◌, ◌≢◌, ◌≤◌, ℕ, true, List, length, Option, Some, None, ⊤}
use Rattle.rule_book.specs.declared.line.Line.{Line}
use Rattle.rule_book.specs.declared.player.Player.{Player}
use Rattle.rule_book.specs.declared.season.Fixture.{Fixture}
use Rattle.rule_book.specs.Calendar.{first_out_of_order, fixture_of, is_locked_place, kickoff_early, standing}
use Rattle.rule_book.specs.Figures.{line_range}
use Rattle.rule_book.specs.MatchFacts.{is_finished, line_of, lines_of}
use Rattle.rule_book.specs.Players.{most_players, player_of, price_refusal}
use Rattle.season_book.specs.Book.{Facts}
use Rattle.season_book.specs.Commands.{has_club, has_fixture, has_player, is_in_locked}
use Rattle.record_fields.specs.Ranges.{is_between}
use Rattle.stored_records.specs.SeasonRules.{most_clubs, most_fixtures, most_in_gameweek, most_lines}

-- 1 to 38 gameweeks, no more of them in the first half or locked, and deadlines that rise
pub record AreTerms (deadlines : List ℕ) (split locked : ℕ) : Type 0 where
  pub gameweeks : is_between 1 38 (length deadlines) ≡ true
  pub split_within : split ≤ length deadlines
  pub locked_within : locked ≤ length deadlines
  pub in_order : first_out_of_order deadlines ≡ None

-- a player of a club that is there, at a price that can be
pub record IsLawfulPlayer (facts : Facts) (player : Player) : Type 0 where
  pub club : has_club facts player.club ≡ true
  pub price : price_refusal player.price ≡ None

-- a gameweek of the season, or none
abbrev pub IsPlace : Facts → Option ℕ → Type 0
IsPlace facts None = ⊤
IsPlace facts (Some g) = is_between 1 (length facts.calendar.deadlines) g ≡ true

-- A fixture of two clubs that are there, in a gameweek or none, not too early for its deadline, and in a locked one
-- where it is finished.
pub record IsLawfulFixture (facts : Facts) (x : Fixture) : Type 0 where
  pub home : has_club facts x.home ≡ true
  pub away : has_club facts x.away ≡ true
  pub two : x.home ≢ x.away
  pub place : IsPlace facts x.gw
  pub kickoff : kickoff_early facts.calendar x.id x.gw x.kickoff ≡ None
  pub finished : is_finished facts.matches x.id ≡ true → is_locked_place facts.calendar x.gw ≡ true

-- a line of a player who is there in a fixture that stands in a locked gameweek, with figures in their ranges
pub record IsLawfulLine (facts : Facts) (f p : ℕ) (line : Line) : Type 0 where
  pub fixture : has_fixture facts f ≡ true
  pub player : has_player facts p ≡ true
  pub locked : is_in_locked facts f ≡ true
  pub range : line_range line ≡ None

-- the facts are lawful
pub record AreLawful (facts : Facts) : Type 0 where
  pub terms : AreTerms facts.calendar.deadlines facts.calendar.split facts.calendar.locked
  pub few_clubs : length facts.clubs ≤ most_clubs
  pub few_players : length facts.players ≤ most_players
  pub few_fixtures : length facts.calendar.fixtures ≤ most_fixtures
  pub few_standing : (g : ℕ) → length (standing facts.calendar g) ≤ most_in_gameweek
  pub few_lines : (f : ℕ) → length (lines_of facts.matches f) ≤ most_lines
  pub players : (p : ℕ) (player : Player) → player_of facts.players p ≡ Some player → IsLawfulPlayer facts player
  pub fixtures : (f : ℕ) (x : Fixture) → fixture_of facts.calendar f ≡ Some x → IsLawfulFixture facts x
  pub lines : (f p : ℕ) (line : Line) → line_of facts.matches f p ≡ Some line → IsLawfulLine facts f p line
