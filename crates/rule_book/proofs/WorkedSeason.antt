-- A fixture that moves to a later gameweek ends the one that it leaves, computed by the definitions.
use Rattle.std.proofs.Common.{◌≡◌, refl, ℕ, pos, true, false, List, [], ◌∷◌, ◌++◌, Some, map}
use Rattle.std.specs.Prelude.{ℤ}
use Rattle.fpl_base.specs.declared.kinds.Position.{Position}
use Rattle.fpl_base.specs.declared.kinds.Position.TheVariants.{Keeper, Defender, Midfielder, Forward}
use Rattle.fpl_base.specs.declared.kinds.Profile.TheVariants as profile
use Rattle.rule_book.specs.declared.line.Line.{Line}
use Rattle.rule_book.specs.declared.player.Player.{Player}
use Rattle.rule_book.specs.declared.season.Fixture.{Fixture}
use Rattle.rule_book.specs.Bonus.{standing}
use Rattle.rule_book.specs.BonusPoints.{bps_of}
use Rattle.rule_book.specs.Calendar.{CalendarFacts, with_move}
use Rattle.rule_book.specs.EntryScores.{score_at}
use Rattle.rule_book.specs.History.{Event, Holding}
use Rattle.rule_book.specs.History.Deed.{First}
use Rattle.rule_book.specs.MatchFacts.{Lines, MatchFacts}
use Rattle.rule_book.specs.Points.{points_of}
use Rattle.rule_book.specs.Totals.{total_from}

-- players 1 to 15 stand in the slots of these numbers: 3-4-3, and on the bench a goalkeeper, two defenders, a midfielder
abbrev player : ℕ → Position → Player
player id position = record { id = id; name = []; position = position; club = 1; price = 50; gone = false }

abbrev players : List Player
players = player 1 Keeper ∷ player 2 Defender ∷ player 3 Defender ∷ player 4 Defender ∷ player 5 Midfielder ∷ player 6 Midfielder ∷ player 7 Midfielder ∷ player 8 Midfielder ∷ player 9 Forward ∷ player 10 Forward ∷ player 11 Forward ∷ player 12 Keeper ∷ player 13 Defender ∷ player 14 Defender ∷ player 15 Midfielder ∷ player 101 Forward ∷ player 102 Forward ∷ player 103 Forward ∷ []

abbrev held : ℕ → Holding
held id = record { player = id; bought = 50 }

-- registered in gameweek 2, with the captain in slot 9
abbrev history : List Event
history = record { gw = 2; deed = First (map held (1 ∷ 2 ∷ 3 ∷ 4 ∷ 5 ∷ 6 ∷ 7 ∷ 8 ∷ 9 ∷ 10 ∷ 11 ∷ 12 ∷ 13 ∷ 14 ∷ 15 ∷ [])) 9 10 } ∷ []

-- ninety minutes with so many goals and so many conceded
abbrev line : ℕ → ℕ → Line
line goals conceded = record { figures = 90 ∷ goals ∷ 0 ∷ conceded ∷ 0 ∷ 0 ∷ 0 ∷ 0 ∷ 0 ∷ 0 ∷ 0 ∷ 0 ∷ 0 ∷ 0 ∷ 0 ∷ 0 ∷ 0 ∷ 0 ∷ 0 ∷ 0 ∷ 0 ∷ 0 ∷ 0 ∷ 0 ∷ 0 ∷ 0 ∷ 0 ∷ 0 ∷ [] }

abbrev others : Lines
others = (1, line 0 1) ∷ (3, line 0 1) ∷ (4, line 0 1) ∷ (5, line 0 1) ∷ (6, line 0 1) ∷ (7, line 0 1) ∷ (8, line 0 1) ∷ (9, line 0 1) ∷ (10, line 0 1) ∷ (11, line 0 1) ∷ []

-- three others scored, so that the bonus is theirs
abbrev scorers : Lines
scorers = (101, line 2 1) ∷ (102, line 2 1) ∷ (103, line 2 1) ∷ []

-- fixtures 10 and 20 stand in gameweek 2, and 30 in 7; all but 20 are finished
abbrev fixture : ℕ → ℕ → Fixture
fixture id gw = record { id = id; home = 1; away = 2; gw = Some gw; kickoff = 0 }

abbrev calendar : CalendarFacts
calendar = record { deadlines = 1 ∷ 2 ∷ 3 ∷ 4 ∷ 5 ∷ 6 ∷ 7 ∷ 8 ∷ 9 ∷ []; split = 4; locked = 7; fixtures = fixture 10 2 ∷ fixture 20 2 ∷ fixture 30 7 ∷ [] }

abbrev facts : MatchFacts
facts = (10, record { lines = others ++ (13, line 0 0) ∷ scorers; finished = true }) ∷ (30, record { lines = (2, line 0 1) ∷ others ++ scorers; finished = true }) ∷ []

-- the net of the entry in a gameweek, and its total
abbrev net : CalendarFacts → ℕ → ℤ
net c g = (score_at profile.A c players facts history g).net

-- eleven starters but the one in slot 2 have 2 points each, and the captain's count once more
before_the_move : net calendar 2 ≡ pos 22
unfolding points_of bps_of standing
before_the_move = refl

slots_before : (score_at profile.A calendar players facts history 2).eleven.slots ≡ 1 ∷ 2 ∷ 3 ∷ 4 ∷ 5 ∷ 6 ∷ 7 ∷ 8 ∷ 9 ∷ 10 ∷ 11 ∷ []
slots_before = refl

-- when fixture 20 has moved to 7, gameweek 2 has ended, and the defender in slot 13 comes in with 6 points
after_the_move : net (with_move calendar 20 (Some 7) 0) 2 ≡ pos 28
unfolding points_of bps_of standing
after_the_move = refl

slots_after : (score_at profile.A (with_move calendar 20 (Some 7) 0) players facts history 2).eleven.slots ≡ 1 ∷ 13 ∷ 3 ∷ 4 ∷ 5 ∷ 6 ∷ 7 ∷ 8 ∷ 9 ∷ 10 ∷ 11 ∷ []
slots_after = refl

-- his total in a league from gameweek 1 on rises by the same 6
total_before : total_from (net calendar) 1 (Some 2) 7 ≡ pos 46
unfolding points_of bps_of standing
total_before = refl

total_after : total_from (net (with_move calendar 20 (Some 7) 0)) 1 (Some 2) 7 ≡ pos 52
unfolding points_of bps_of standing
total_after = refl
