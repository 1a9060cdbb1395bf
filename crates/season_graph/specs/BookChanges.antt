-- What the calls that change the books do to the facts: each leaves a season, which differs from the one before as the
-- cells can follow it. And when an index stays right.
use Rattle.std.specs.Prelude.{◌≡◌, ◌<◌, ℕ, ◌+◌, Bool, true, false, List, [], ◌∷◌, ◌++◌, length, Option, Some, None, is_some}
use Rattle.fpl_base.specs.declared.kinds.Position.{Position}
use Rattle.rule_book.specs.declared.cup.Bracket.{Bracket}
use Rattle.rule_book.specs.declared.line.Line.{Line}
use Rattle.rule_book.specs.declared.player.Player.{Player}
use Rattle.rule_book.specs.declared.season.Fixture.{Fixture}
use Rattle.rule_book.specs.Calendar.{CalendarFacts, IsCalendar, after_pass, with_deadline, with_fixture, with_move, with_opponents}
use Rattle.rule_book.specs.Entries.{changed_in, entry_in}
use Rattle.rule_book.specs.Figures.{IsLine}
use Rattle.rule_book.specs.LeagueCalls.{with_member, with_order}
use Rattle.rule_book.specs.Leagues.{LeagueFacts}
use Rattle.rule_book.specs.MatchCalls.{drop_line, put_line, put_sheet, set_finished}
use Rattle.rule_book.specs.MatchFacts.{Lines, MatchFacts, is_finished, line_in, line_of, players_in}
use Rattle.rule_book.specs.PlayerFigures.{position_in}
use Rattle.rule_book.specs.Players.{player_of, with_club, with_details, with_gone, with_player, with_price}
use Rattle.rule_book.specs.Repeats.{first_repeat}
use Rattle.manager_book.specs.Managers.{Managers}
use Rattle.rescore_graph.specs.Graph.{Among}
use Rattle.season_graph.specs.Changes.{AreAlike, DifferInLeague, DifferInLine, DifferInLocks, DifferInMark, DifferInPlace, DifferInPlayer, DifferInSheet, EntriesStay}
use Rattle.leagues_and_cups.specs.Shapes.{HasShape}
use Rattle.season_nodes.specs.BookFacts.{facts_with}
use Rattle.season_nodes.specs.IndexFacts.{IsIndex}
use Rattle.season_nodes.specs.Season.{SeasonFacts, IsOrder, IsSeason}

-- the facts with other lines and marks, with another calendar, with other players, with another book of managers, with
-- other leagues, with other cups
abbrev pub with_matches : SeasonFacts → MatchFacts → SeasonFacts
with_matches b matches = record b { matches = matches }

abbrev pub with_calendar : SeasonFacts → CalendarFacts → SeasonFacts
with_calendar b calendar = record b { calendar = calendar }

abbrev pub with_players : SeasonFacts → List Player → SeasonFacts
with_players b players = record b { players = players }

abbrev pub with_managers : SeasonFacts → Managers → SeasonFacts
with_managers b managers = facts_with b.profile b.calendar b.players b.matches managers b.leagues b.cups

abbrev pub with_leagues : SeasonFacts → List LeagueFacts → SeasonFacts
with_leagues b leagues = record b { leagues = leagues }

abbrev pub with_cups : SeasonFacts → List Bracket → SeasonFacts
with_cups b cups = record b { cups = cups }

-- a line is put in: it is in its ranges, and the player is there
abbrev pub LineIsPut : Type 0
LineIsPut = (b : SeasonFacts) (f p : ℕ) (line : Line) → IsSeason b → IsLine line → is_some (player_of b.players p) ≡ true
    → let d = with_matches b (put_line b.matches f p line) in IsSeason d × DifferInLine b d f p

-- a line is taken away
abbrev pub LineIsDropped : Type 0
LineIsDropped = (b : SeasonFacts) (f p : ℕ) → IsSeason b → let d = with_matches b (drop_line b.matches f p) in IsSeason d × DifferInLine b d f p

-- a mark is set or taken away
abbrev pub MarkIsSet : Type 0
MarkIsSet = (b : SeasonFacts) (f : ℕ) (finished : Bool) → IsSeason b
    → let d = with_matches b (set_finished b.matches f finished) in IsSeason d × DifferInMark b d f

-- lines that a sheet can have: each player once, each line in its ranges, each player there
pub record AreSheetLines (players : List Player) (lines : Lines) : Type 0 where
  pub once : first_repeat (players_in lines) ≡ None
  pub ranges : (p : ℕ) (line : Line) → line_in lines p ≡ Some line → IsLine line
  pub there : (p : ℕ) → is_some (line_in lines p) ≡ true → is_some (player_of players p) ≡ true

-- among some players are all whose line is another one in a sheet, and its mark is another only where it is said so
pub record AreOthers (b : SeasonFacts) (f : ℕ) (lines : Lines) (finished : Bool) (ps : List ℕ) (marked : Bool) : Type 0 where
  pub lines_stay : (q : ℕ) → (¬ Among ps q) → line_of b.matches f q ≡ line_in lines q
  pub mark_stays : marked ≡ false → is_finished b.matches f ≡ finished

-- a sheet is put in
abbrev pub SheetIsPut : Type 0
SheetIsPut = (b : SeasonFacts) (f : ℕ) (lines : Lines) (finished : Bool) (ps : List ℕ) (marked : Bool)
    → IsSeason b → AreSheetLines b.players lines → AreOthers b f lines finished ps marked
    → let d = with_matches b (put_sheet b.matches f lines finished) in IsSeason d × DifferInSheet b d f ps marked

-- a fixture moves, or is added
abbrev pub FixtureMoves : Type 0
FixtureMoves = (b : SeasonFacts) (f : ℕ) (to : Option ℕ) (kickoff : ℕ) → IsSeason b
    → let d = with_calendar b (with_move b.calendar f to kickoff) in IsCalendar d.calendar → IsSeason d × DifferInPlace b d f

abbrev pub FixtureComes : Type 0
FixtureComes = (b : SeasonFacts) (x : Fixture) → IsSeason b
    → let d = with_calendar b (with_fixture b.calendar x) in IsCalendar d.calendar → IsSeason d × DifferInPlace b d x.id

-- a moment is told
abbrev pub MomentPasses : Type 0
MomentPasses = (b : SeasonFacts) (now : ℕ) → IsSeason b
    → let d = with_calendar b (after_pass b.calendar now) in IsCalendar d.calendar → IsSeason d × DifferInLocks b d b.calendar.locked

-- a player comes
abbrev pub PlayerComes : Type 0
PlayerComes = (b : SeasonFacts) (x : Player) → IsSeason b → is_some (player_of b.players x.id) ≡ false
    → let d = with_players b (with_player b.players x) in IsSeason d × DifferInPlayer b d x.id

-- a deadline moves: no node is touched
abbrev pub DeadlineMoves : Type 0
DeadlineMoves = (b : SeasonFacts) (g t : ℕ) → IsSeason b
    → let d = with_calendar b (with_deadline b.calendar g t) in IsCalendar d.calendar → IsSeason d × AreAlike b d

-- a fixture is between other clubs: no node is touched
abbrev pub OpponentsChange : Type 0
OpponentsChange = (b : SeasonFacts) (f home away : ℕ) → IsSeason b
    → let d = with_calendar b (with_opponents b.calendar f home away) in IsCalendar d.calendar → IsSeason d × AreAlike b d

-- a player has another price, another club, or another mark that he is gone: no node is touched
abbrev pub PriceChanges : Type 0
PriceChanges = (b : SeasonFacts) (p price : ℕ) → IsSeason b → let d = with_players b (with_price b.players p price) in IsSeason d × AreAlike b d

abbrev pub ClubChanges : Type 0
ClubChanges = (b : SeasonFacts) (p club : ℕ) → IsSeason b → let d = with_players b (with_club b.players p club) in IsSeason d × AreAlike b d

abbrev pub GoneChanges : Type 0
GoneChanges = (b : SeasonFacts) (p : ℕ) (gone : Bool) → IsSeason b → let d = with_players b (with_gone b.players p gone) in IsSeason d × AreAlike b d

-- a player has another name and another position, and each player with a line his position: no node is touched
abbrev pub PositionChanges : Type 0
PositionChanges = (b : SeasonFacts) (p : ℕ) (name : List ℕ) (position : Position) → IsSeason b
    → ((f : ℕ) → is_some (line_of b.matches f p) ≡ true → position_in b.players p ≡ position)
    → let d = with_players b (with_details b.players p name position) in IsSeason d × AreAlike b d

-- a manager does something that changes nothing of the locked gameweeks: no node is touched
abbrev pub ManagersChange : Type 0
ManagersChange = (b : SeasonFacts) (managers : Managers) → IsSeason b
    → let d = with_managers b managers in EntriesStay b d → IsSeason d × AreAlike b d

-- a league can be drawn in an order: it was not drawn, and the order is one of its members
pub record CanBeDrawn (order : List ℕ) (league : LeagueFacts) : Type 0 where
  pub open_still : league.order ≡ []
  pub drawn : IsOrder (with_order order league)

-- a league is made, which is not drawn; is joined; or is drawn
abbrev pub LeagueIsMade : Type 0
LeagueIsMade = (b : SeasonFacts) (league : LeagueFacts) → IsSeason b → league.order ≡ []
    → let d = with_leagues b (b.leagues ++ league ∷ []) in IsSeason d × DifferInLeague b d (length b.leagues + 1)

abbrev pub LeagueIsJoined : Type 0
LeagueIsJoined = (b : SeasonFacts) (l e : ℕ) → IsSeason b
    → let d = with_leagues b (changed_in (with_member e) b.leagues l) in IsSeason d × DifferInLeague b d l

abbrev pub LeagueIsDrawn : Type 0
LeagueIsDrawn = (b : SeasonFacts) (l : ℕ) (order : List ℕ) → IsSeason b
    → ((league : LeagueFacts) → entry_in b.leagues l ≡ Some league → CanBeDrawn order league)
    → let d = with_leagues b (changed_in (with_order order) b.leagues l) in IsSeason d × DifferInLeague b d l

-- a cup is drawn, which has not started: no node is touched
abbrev pub CupIsDrawn : Type 0
CupIsDrawn = (b : SeasonFacts) (bracket : Bracket) → IsSeason b → HasShape bracket → b.calendar.locked < bracket.start
    → let d = with_cups b (b.cups ++ bracket ∷ []) in IsSeason d × AreAlike b d

-- an index stays right where no gameweek is locked and the entries are as they were in those that are
abbrev pub IndexStays : Type 0
IndexStays = (b d : SeasonFacts) (holders : ℕ → ℕ → List ℕ) → b.calendar.locked ≡ d.calendar.locked → EntriesStay b d → IsIndex b holders → IsIndex d holders
