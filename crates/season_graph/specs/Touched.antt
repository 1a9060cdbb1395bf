-- Which nodes a change of the facts touches.
use Rattle.std.specs.Prelude.{ℕ, zero, suc, ◌+◌, ◌-◌, ◌==◌, ◌&&◌, ◌||◌, max, nat_le, nat_lt, Bool, true, false, not, if◌then◌else◌, List, [], ◌∷◌, ◌++◌, Option, length, map}
use Rattle.std.specs.List.{filter, flat_map, list_all, range_with_len}
use Rattle.std.specs.Map.{keys_of}
use Rattle.std.specs.Option.{option_map, option_map_or}
use Rattle.rule_book.specs.Calendar.{is_locked, standing, stands_in}
use Rattle.rule_book.specs.Entries.{entry_in}
use Rattle.rule_book.specs.Leagues.{LeagueFacts}
use Rattle.rule_book.specs.MatchFacts.{is_finished}
use Rattle.rule_book.specs.Totals.{gameweeks}
use Rattle.season_nodes.specs.declared.nodes.Node.{Node}
use Rattle.season_nodes.specs.declared.nodes.Node.TheVariants as node
use Rattle.season_nodes.specs.Brackets.{ties_after}
use Rattle.season_nodes.specs.Dependents.{average_if, gameweek_dependents}
use Rattle.season_nodes.specs.Rounds.{order_in, start_in}
use Rattle.season_nodes.specs.Season.{SeasonFacts, bracket_of, classic_start, has_line, is_live, players_of, starts_of}

-- whether two answers differ
abbrev pub is_other : Bool → Bool → Bool
is_other true b = not b
is_other false b = b

-- the gameweek of a player in which a fixture stands, if it stands in one
abbrev pub gameweek_beside : ℕ → Option ℕ → List Node
gameweek_beside p place = option_map_or (λ g. node.PlayerGw p g ∷ []) place []

-- the nodes of some gameweeks: of so many, behind the first ones
abbrev pub gameweek_nodes : (ℕ → Node) → ℕ → ℕ → List Node
gameweek_nodes at first zero = []
gameweek_nodes at first (suc n) = gameweek_nodes at first n ++ at (first + n + 1) ∷ []

-- some gameweeks of a player, and of an entry
abbrev pub player_nodes : ℕ → ℕ → ℕ → List Node
player_nodes p first n = gameweek_nodes (node.PlayerGw p) first n

abbrev pub entry_nodes : ℕ → ℕ → ℕ → List Node
entry_nodes e first n = gameweek_nodes (node.TeamGw e) first n

-- the nodes of each of so many numbers from 1 on, of entries or of gameweeks
abbrev pub numbered_nodes : (ℕ → List Node) → ℕ → List Node
numbered_nodes each zero = []
numbered_nodes each (suc n) = numbered_nodes each n ++ each (n + 1)

-- the gameweeks of the entries that hold a player, in each of so many gameweeks
abbrev pub holding_nodes : (ℕ → ℕ → List ℕ) → ℕ → ℕ → List Node
holding_nodes holders p n = numbered_nodes (λ g. gameweek_dependents (holders p g) g) n

-- the members of the league of a number
abbrev pub members_in : List LeagueFacts → ℕ → List ℕ
members_in leagues l = option_map_or (λ league. league.members) (entry_in leagues l) []

-- the first gameweek of the league of a number, if it is there
abbrev pub league_start : List LeagueFacts → ℕ → Option ℕ
league_start leagues l = option_map (λ league. league.start) (entry_in leagues l)

module _ (b : SeasonFacts) where
  -- the gameweeks behind the first ones, up to the last that is locked: of the players, and of the entries
  abbrev pub locked_players : ℕ → List Node
  locked_players first = flat_map (λ player. player_nodes player.id first (b.calendar.locked - first)) b.players

  abbrev pub locked_entries : ℕ → List Node
  locked_entries first = numbered_nodes (λ e. entry_nodes e first (b.calendar.locked - first)) b.entries

  -- the totals of an entry
  abbrev pub total_nodes : ℕ → List Node
  total_nodes e = map (node.Total e) (starts_of b e)

  -- where gameweeks behind the first ones are locked, the totals of each entry
  abbrev pub locked_totals : ℕ → List Node
  locked_totals first = if nat_lt first b.calendar.locked then numbered_nodes total_nodes b.entries else []

  -- these of the players and the entries
  abbrev pub locked_scores : ℕ → List Node
  locked_scores first = (locked_players first ++ locked_entries first) ++ locked_totals first

  -- what a league has in a gameweek: the Average, if it plays, and the matches, by each place of the order
  abbrev pub round_nodes : ℕ → ℕ → List Node
  round_nodes l g = average_if b l g ++ map (node.Match l g) (range_with_len 0 (length (order_in b.leagues l)))

  -- what it has in the locked gameweeks from one on
  abbrev pub rounds_since : ℕ → ℕ → List Node
  rounds_since l from = flat_map (round_nodes l) (gameweeks from b.calendar.locked)

  -- the rows of those in its order
  abbrev pub row_nodes : ℕ → List Node
  row_nodes l = map (node.HeadRow l) (order_in b.leagues l)

  -- what a league has in the gameweeks behind the first ones, from its start on; and its rows, if it has started
  abbrev pub locked_rounds : ℕ → ℕ → List Node
  locked_rounds first l =
      rounds_since l (max (start_in b.leagues l) (first + 1))
      ++ (if nat_le (start_in b.leagues l) b.calendar.locked then row_nodes l else [])

  -- where gameweeks behind the first ones are locked, the same of each league
  abbrev pub locked_leagues : ℕ → List Node
  locked_leagues first = if nat_lt first b.calendar.locked then numbered_nodes (locked_rounds first) (length b.leagues) else []

  -- the ties of a round of a cup
  abbrev pub tie_nodes : ℕ → ℕ → List Node
  tie_nodes c r = map (node.Tie c r) (range_with_len 0 (ties_after (bracket_of b c) r))

  -- those of its round in a gameweek
  abbrev pub cup_round : ℕ → ℕ → List Node
  cup_round c g = if nat_le (bracket_of b c).start g then tie_nodes c (g - (bracket_of b c).start) else []

  -- those of its rounds in the locked gameweeks from one on
  abbrev pub ties_since : ℕ → ℕ → List Node
  ties_since from c = flat_map (cup_round c) (gameweeks from b.calendar.locked)

  -- and those of all cups
  abbrev pub cups_since : ℕ → List Node
  cups_since from = numbered_nodes (ties_since from) (length b.cups)

  -- the nodes of players, entries and leagues that are touched when the gameweeks behind the first ones are locked
  abbrev pub locked_tables : ℕ → List Node
  locked_tables first = locked_scores first ++ locked_leagues first

  -- the ties of the gameweeks behind the first ones, where such are locked
  abbrev pub locked_cups : ℕ → List Node
  locked_cups first = if nat_lt first b.calendar.locked then cups_since (first + 1) else []

  -- and all such nodes
  abbrev pub locked_nodes : ℕ → List Node
  locked_nodes first = locked_tables first ++ locked_cups first

  -- all that a league has from its start on: its rounds, and its rows
  abbrev pub head_since : ℕ → ℕ → List Node
  head_since l start = rounds_since l start ++ row_nodes l

  abbrev pub head_nodes : ℕ → List Node
  head_nodes l = option_map_or (head_since l) (league_start b.leagues l) []

  -- the nodes that a new player touches, where it is told who holds him: his locked gameweeks, and the gameweeks of the
  -- entries that hold him in them
  abbrev pub coming_nodes : (ℕ → ℕ → List ℕ) → ℕ → List Node
  coming_nodes holders p = player_nodes p 0 b.calendar.locked ++ holding_nodes holders p b.calendar.locked

  -- the gameweek of each entry
  abbrev pub team_nodes : ℕ → List Node
  team_nodes g = numbered_nodes (λ e. node.TeamGw e g ∷ []) b.entries

  -- whether each fixture that stands in a gameweek is finished, but for one that is left out
  abbrev pub others_finished : ℕ → ℕ → Bool
  others_finished f g = list_all (λ k. (k == f) || is_finished b.matches k) (standing b.calendar g)

  -- the nodes that hang on whether a fixture of a gameweek is finished, or is there unfinished: where the gameweek is locked
  -- and all its other fixtures are finished, the gameweek of each entry
  abbrev pub ending_in : ℕ → ℕ → List Node
  ending_in f g = if is_locked b.calendar g && others_finished f g then team_nodes g else []

  -- the same of a place that may be no gameweek
  abbrev pub ending_nodes : ℕ → Option ℕ → List Node
  ending_nodes f place = option_map_or (ending_in f) place []

  -- the nodes that the mark of a fixture touches: its bonus, and whether its gameweek has ended
  abbrev pub mark_nodes : ℕ → List Node
  mark_nodes f = node.Bonus f ∷ ending_nodes f (stands_in b.calendar f)

  -- the nodes that count whether a player has a line in a fixture
  abbrev pub presence_nodes : ℕ → ℕ → List Node
  presence_nodes f p = node.Bonus f ∷ gameweek_beside p (stands_in b.calendar f)

  -- the nodes that a player's line in a fixture touches when it is there where there was none, or no longer, or changed
  abbrev pub line_nodes : ℕ → ℕ → Bool → List Node
  line_nodes f p was = node.Line f p ∷ (if is_other was (has_line b p f) then presence_nodes f p else [])

  -- the nodes that some lines of a fixture touch, of which those of a test were there
  abbrev pub lines_nodes : (ℕ → Bool) → ℕ → List ℕ → List Node
  lines_nodes was f ps = flat_map (λ p. line_nodes f p (was p)) ps

  -- and its mark, if it is another
  abbrev pub sheet_nodes : (ℕ → Bool) → ℕ → List ℕ → Bool → List Node
  sheet_nodes was f ps marked = lines_nodes was f ps ++ (if marked then mark_nodes f else [])

  -- the gameweeks of its players that a fixture touches which stands in another gameweek
  abbrev pub moved_players : ℕ → Option ℕ → Option ℕ → List Node
  moved_players f from to = flat_map (λ p. gameweek_beside p from ++ gameweek_beside p to) (players_of b f)

  -- and, where it is not finished, the gameweeks that end without it, or no longer with it
  abbrev pub moved_endings : ℕ → Option ℕ → Option ℕ → List Node
  moved_endings f from to = if is_finished b.matches f then [] else ending_nodes f from ++ ending_nodes f to

  -- the nodes that a fixture touches which stands in another gameweek
  abbrev pub moved_nodes : ℕ → Option ℕ → Option ℕ → List Node
  moved_nodes f from to = moved_players f from to ++ moved_endings f from to

  -- those of some nodes that come or go, where it is told which were there
  abbrev pub others_of : (Node → Bool) → List Node → List Node
  others_of was ns = filter (λ n. is_other (was n) (is_live b n)) ns

  -- all of some nodes; or, where it is not all, those that come or go
  abbrev pub chosen_of : Bool → (Node → Bool) → List Node → List Node
  chosen_of all was ns = if all then ns else others_of was ns

  -- the totals of the members of a league from a gameweek on, where that is locked
  abbrev pub members_since : ℕ → ℕ → List Node
  members_since l s = if nat_le s b.calendar.locked then map (λ e. node.Total e s) (members_in b.leagues l) else []

  -- the same from the first gameweek of a classic league on; of another none
  abbrev pub member_nodes : ℕ → List Node
  member_nodes l = option_map_or (members_since l) (classic_start b.leagues l) []

  -- the nodes that a change of a league touches: of the totals of its members, its rounds and its rows those that come or go
  abbrev pub league_nodes : (Node → Bool) → ℕ → List Node
  league_nodes was l = others_of was (member_nodes l ++ head_nodes l)

  -- the nodes of a fixture: its bonus, and its lines
  abbrev pub fixture_nodes : ℕ → List Node
  fixture_nodes f = node.Bonus f ∷ map (node.Line f) (players_of b f)

  -- the nodes of all fixtures that have facts
  abbrev pub fixtures_nodes : List Node
  fixtures_nodes = flat_map fixture_nodes (keys_of b.matches)

  -- what all leagues have from their starts on
  abbrev pub heads_nodes : List Node
  heads_nodes = numbered_nodes head_nodes (length b.leagues)

  -- all nodes that can be live
  abbrev pub all_nodes : List Node
  all_nodes = ((fixtures_nodes ++ locked_scores 0) ++ heads_nodes) ++ cups_since 0
