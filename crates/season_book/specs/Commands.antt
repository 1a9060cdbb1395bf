-- The commands of the operator on the facts: what has to be there, what refuses each, and what each changes.
use Rattle.std.specs.Prelude.{All, ◌≢◌, ◌≤◌, ℕ, Bool, true, ◌&&◌, ◌==◌, List, [], ◌∷◌, Option, Some, None, false, length, map, is_some, nat_le, fold, ⊤}
use Rattle.std.specs.List.{list_all, list_any}
use Rattle.std.specs.Option.{option_map_or}
use Rattle.fpl_base.specs.declared.kinds.Chip.TheVariants.{None as NoChip}
use Rattle.fpl_base.specs.declared.kinds.Profile.{Profile}
use Rattle.fpl_base.specs.declared.rule.Rule.{Rule}
use Rattle.rule_book.specs.ById.{placed_at}
use Rattle.rule_book.specs.Calendar.{clubs_held, fixture_of, is_locked_place, new_calendar, stands_in, with_deadline, with_fixture, with_move, with_opponents}
use Rattle.rule_book.specs.MatchCalls.{drop_line, line_refusal, not_locked, put_line, put_sheet, set_finished, sheet_refusal}
use Rattle.rule_book.specs.MatchFacts.{has_facts, line_of}
use Rattle.rule_book.specs.Players.{player_of, player_refusal, price_refusal, with_club, with_gone, with_player, with_price}
use Rattle.rule_book.specs.Ranks.{AllDiffer}
use Rattle.rule_book.specs.CalendarCalls.{deadline_refusal, fixture_refusal, move_refusal}
use Rattle.season_book.specs.Book.{Facts}
use Rattle.season_book.specs.declared.command.Command.{Command}
use Rattle.season_book.specs.declared.command.Command.TheVariants as command
use Rattle.season_book.specs.declared.part.Part.{Part}
use Rattle.season_book.specs.declared.part.Part.TheVariants as part

-- What can be ordered at all.

-- the ids of some clubs
abbrev pub club_ids : List (ℕ × List ℕ) → List ℕ
club_ids clubs = map (λ club. club.0) clubs

-- a command whose members can be read: the other members have their ranges by their types
abbrev pub IsCommand : Command → Type 0
IsCommand (command.Season profile deadlines split clubs) =
    (1 ≤ length deadlines) × (length deadlines ≤ 38) × (split ≤ length deadlines)
    × (1 ≤ length clubs) × (length clubs ≤ 20) × AllDiffer (club_ids clubs)
IsCommand (command.Fixture id home away g kickoff) = home ≢ away
IsCommand (command.AmendFixture f home away) = home ≢ away
IsCommand (command.Sheet f lines finished) = length lines ≤ 100
IsCommand (command.Transfers swaps) = (1 ≤ length swaps) × (length swaps ≤ 15)
IsCommand (command.Chip chip) = chip ≢ NoChip
IsCommand (command.Draw league order) = length order ≤ 64
IsCommand (command.Cup start slots coins) = (length slots ≤ 1024) × (length coins ≤ 1024) × All (λ coin. coin ≤ 1) coins
IsCommand command = ⊤

-- What it changes.

-- the part of the book that a command changes
abbrev pub part_of : Command → Part
part_of (command.Key key name) = part.Entries
part_of (command.AmendPlayer p name position) = part.Players
part_of (command.Rekey e key name) = part.Keys
part_of (command.Squad players captain vice) = part.Deeds
part_of (command.Transfers swaps) = part.Deeds
part_of (command.Lineup players captain vice) = part.Deeds
part_of (command.Chip chip) = part.Deeds
part_of command.CancelChip = part.Deeds
part_of (command.League kind name code start) = part.Leagues
part_of (command.Join league code) = part.Leagues
part_of (command.Draw league order) = part.Leagues
part_of (command.Cup start slots coins) = part.Cups
part_of command = part.Facts

-- What has to be there.

-- a club, a player, a fixture
abbrev pub has_club : Facts → ℕ → Bool
has_club facts club = list_any (λ row. row.0 == club) facts.clubs

abbrev pub has_player : Facts → ℕ → Bool
has_player facts p = is_some (player_of facts.players p)

abbrev pub has_fixture : Facts → ℕ → Bool
has_fixture facts f = is_some (fixture_of facts.calendar f)

-- a gameweek of the season; where none is named, none has to be there
abbrev pub has_gameweek : Facts → ℕ → Bool
has_gameweek facts g = nat_le g (length facts.calendar.deadlines)

abbrev pub has_place : Facts → Option ℕ → Bool
has_place facts place = option_map_or (has_gameweek facts) place true

-- all that a command on the facts names is there; another one names nothing of them that is
abbrev pub are_there : Facts → Command → Bool
are_there facts (command.Season profile deadlines split clubs) = true
are_there facts (command.Deadline g deadline) = has_gameweek facts g
are_there facts (command.Player id name position club price) = has_club facts club
are_there facts (command.Price p price) = has_player facts p
are_there facts (command.Club p club) = has_player facts p && has_club facts club
are_there facts (command.Gone p gone) = has_player facts p
are_there facts (command.Fixture id home away g kickoff) = has_club facts home && (has_club facts away && has_place facts g)
are_there facts (command.Move f g kickoff) = has_fixture facts f && has_place facts g
are_there facts (command.AmendFixture f home away) = has_fixture facts f && (has_club facts home && has_club facts away)
are_there facts (command.Sheet f lines finished) = has_fixture facts f && list_all (λ row. has_player facts row.0) lines
are_there facts (command.Line f p line) = has_fixture facts f && has_player facts p
are_there facts (command.Drop f p) = has_fixture facts f && is_some (line_of facts.matches f p)
are_there facts (command.Finished f finished) = has_fixture facts f
are_there facts command = false

-- What refuses a command whose ids are there, at a moment.

-- whether a fixture stands in a locked gameweek
abbrev pub is_in_locked : Facts → ℕ → Bool
is_in_locked facts f = is_locked_place facts.calendar (stands_in facts.calendar f)

abbrev pub refusal_of : Facts → ℕ → Command → Option Rule
refusal_of facts now (command.Deadline g deadline) = deadline_refusal facts.calendar g deadline now
refusal_of facts now (command.Player id name position club price) =
    player_refusal facts.players (record { id = id; name = name; position = position; club = club; price = price; gone = false })
refusal_of facts now (command.Price p price) = price_refusal price
refusal_of facts now (command.Fixture id home away g kickoff) =
    fixture_refusal facts.calendar (record { id = id; home = home; away = away; gw = g; kickoff = kickoff })
refusal_of facts now (command.Move f g kickoff) = move_refusal facts.calendar f g kickoff (has_facts facts.matches f)
refusal_of facts now (command.AmendFixture f home away) = clubs_held f (has_facts facts.matches f)
refusal_of facts now (command.Sheet f lines finished) = sheet_refusal f (is_in_locked facts f) lines
refusal_of facts now (command.Line f p line) = line_refusal facts.matches f (is_in_locked facts f) p line
refusal_of facts now (command.Finished f finished) = not_locked f (is_in_locked facts f)
refusal_of facts now command = None

-- What a command changes.

-- clubs handed in in any order, by id
abbrev pub by_id : List (ℕ × List ℕ) → List (ℕ × List ℕ)
by_id clubs = fold (λ so_far club. placed_at so_far club.0 (club ∷ [])) [] clubs

-- the facts of a new season
abbrev pub new_season : Profile → List ℕ → ℕ → List (ℕ × List ℕ) → Facts
new_season profile deadlines split clubs = record {
  profile = profile;
  calendar = new_calendar deadlines split;
  clubs = by_id clubs;
  players = [];
  matches = [];
}

-- the facts behind a command; most that no fact follows leave them as they are
abbrev pub changed_by : Facts → Command → Facts
changed_by facts (command.Deadline g deadline) = record facts { calendar = with_deadline facts.calendar g deadline }
changed_by facts (command.Player id name position club price) = record facts {
  players = with_player facts.players (record { id = id; name = name; position = position; club = club; price = price; gone = false });
}
changed_by facts (command.Price p price) = record facts { players = with_price facts.players p price }
changed_by facts (command.Club p club) = record facts { players = with_club facts.players p club }
changed_by facts (command.Gone p gone) = record facts { players = with_gone facts.players p gone }
changed_by facts (command.Fixture id home away g kickoff) = record facts {
  calendar = with_fixture facts.calendar (record { id = id; home = home; away = away; gw = g; kickoff = kickoff });
}
changed_by facts (command.Move f g kickoff) = record facts { calendar = with_move facts.calendar f g kickoff }
changed_by facts (command.AmendFixture f home away) = record facts { calendar = with_opponents facts.calendar f home away }
changed_by facts (command.Sheet f lines finished) = record facts { matches = put_sheet facts.matches f lines finished }
changed_by facts (command.Line f p line) = record facts { matches = put_line facts.matches f p line }
changed_by facts (command.Drop f p) = record facts { matches = drop_line facts.matches f p }
changed_by facts (command.Finished f finished) = record facts { matches = set_finished facts.matches f finished }
changed_by facts command = facts

-- a command's facts, where there was a season before or not: without a season only the season command begins one
abbrev pub begun_by : Command → Option Facts
begun_by (command.Season profile deadlines split clubs) = Some (new_season profile deadlines split clubs)
begun_by command = None
