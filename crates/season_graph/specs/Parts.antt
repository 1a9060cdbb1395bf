-- The parts that the nodes of a season are made of: which nodes each has, and its smaller parts.
use Rattle.std.specs.Prelude.{ℕ, ◌+◌, ◌-◌, max, nat_le, nat_lt, if◌then◌else◌, List, [], ◌∷◌, ◌++◌, length, map}
use Rattle.std.specs.List.{range_with_len}
use Rattle.std.specs.Map.{keys_of}
use Rattle.std.specs.Option.{option_map_or}
use Rattle.rule_book.specs.LeagueCalls.{leagues_of}
use Rattle.rule_book.specs.Totals.{gameweeks}
use Rattle.season_nodes.specs.declared.nodes.Node.{Node}
use Rattle.season_nodes.specs.declared.nodes.Node.TheVariants as node
use Rattle.season_nodes.specs.Brackets.{ties_after}
use Rattle.season_nodes.specs.Rounds.{has_average, order_in, start_in}
use Rattle.season_nodes.specs.Season.{SeasonFacts, bracket_of, classic_start, classic_starts, players_of}
use Rattle.season_graph.specs.Touched.{all_nodes, cup_round, cups_since, entry_nodes, fixture_nodes, fixtures_nodes, head_nodes, heads_nodes, league_start, locked_cups, locked_entries, locked_leagues, locked_nodes, locked_players, locked_totals, member_nodes, members_in, player_nodes, round_nodes, rounds_since, row_nodes, team_nodes, ties_since, total_nodes}
use Rattle.season_graph.specs.declared.parts.Part.{Part}
use Rattle.season_graph.specs.declared.parts.Part.TheVariants as part

-- the parts of all nodes, and of those that locks of the gameweeks behind the first ones touch
abbrev pub all_parts : List Part
all_parts = part.Fixtures ∷ part.Players 0 ∷ part.Entries 0 ∷ part.Totals 0 ∷ part.Heads ∷ part.Cups ∷ []

abbrev pub locked_parts : ℕ → List Part
locked_parts first = part.Players first ∷ part.Entries first ∷ part.Totals first ∷ part.Leagues first ∷ part.LaterCups first ∷ []

module _ (b : SeasonFacts) where
  -- what a league has in the gameweeks behind the first ones, and its rows; nothing where it has not started
  abbrev pub league_behind : ℕ → ℕ → List Node
  league_behind l first =
      let from = max (start_in b.leagues l) (first + 1) in
      if nat_le from b.calendar.locked then rounds_since b l from ++ row_nodes b l else []

  -- the nodes of a part
  abbrev pub nodes_of : Part → List Node
  nodes_of (part.One n) = n ∷ []
  nodes_of part.All = all_nodes b
  nodes_of (part.Locked first) = locked_nodes b first
  nodes_of (part.Changed l) = member_nodes b l ++ head_nodes b l
  nodes_of part.Fixtures = fixtures_nodes b
  nodes_of (part.Fixture f) = fixture_nodes b f
  nodes_of (part.Players first) = locked_players b first
  nodes_of (part.Player p first) = player_nodes p first (b.calendar.locked - first)
  nodes_of (part.Entries first) = locked_entries b first
  nodes_of (part.Entry e first) = entry_nodes e first (b.calendar.locked - first)
  nodes_of (part.Teams g) = team_nodes b g
  nodes_of (part.Totals first) = locked_totals b first
  nodes_of (part.TotalsOf e) = total_nodes b e
  nodes_of (part.TotalIn e l) = map (node.Total e) (classic_starts b.leagues l)
  nodes_of (part.Members l) = member_nodes b l
  nodes_of part.Heads = heads_nodes b
  nodes_of (part.Head l) = head_nodes b l
  nodes_of (part.Leagues first) = locked_leagues b first
  nodes_of (part.League l first) = league_behind l first
  nodes_of (part.Rounds l from) = rounds_since b l from
  nodes_of (part.Round l g) = round_nodes b l g
  nodes_of (part.Matches l g) = map (node.Match l g) (range_with_len 0 (length (order_in b.leagues l)))
  nodes_of (part.Rows l) = row_nodes b l
  nodes_of part.Cups = cups_since b 0
  nodes_of (part.LaterCups first) = locked_cups b first
  nodes_of (part.Cup c from) = ties_since b from c
  nodes_of (part.CupRound c g) = cup_round b c g

  -- the parts of one
  abbrev pub parts_of : Part → List Part
  parts_of (part.One n) = []
  parts_of part.All = all_parts
  parts_of (part.Locked first) = locked_parts first
  parts_of (part.Changed l) = part.Members l ∷ part.Head l ∷ []
  parts_of part.Fixtures = map part.Fixture (keys_of b.matches)
  parts_of (part.Fixture f) = part.One (node.Bonus f) ∷ map (λ p. part.One (node.Line f p)) (players_of b f)
  parts_of (part.Players first) = map (λ player. part.Player player.id first) b.players
  parts_of (part.Player p first) = map (λ g. part.One (node.PlayerGw p g)) (gameweeks (first + 1) b.calendar.locked)
  parts_of (part.Entries first) = map (λ e. part.Entry e first) (range_with_len 1 b.entries)
  parts_of (part.Entry e first) = map (λ g. part.One (node.TeamGw e g)) (gameweeks (first + 1) b.calendar.locked)
  parts_of (part.Teams g) = map (λ e. part.One (node.TeamGw e g)) (range_with_len 1 b.entries)
  parts_of (part.Totals first) = if nat_lt first b.calendar.locked then map part.TotalsOf (range_with_len 1 b.entries) else []
  parts_of (part.TotalsOf e) = part.One (node.Total e 1) ∷ map (part.TotalIn e) (leagues_of b.leagues e)
  parts_of (part.TotalIn e l) = map (λ s. part.One (node.Total e s)) (classic_starts b.leagues l)
  parts_of (part.Members l) =
      option_map_or (λ s. if nat_le s b.calendar.locked then map (λ e. part.One (node.Total e s)) (members_in b.leagues l) else []) (classic_start b.leagues l) []
  parts_of part.Heads = map part.Head (range_with_len 1 (length b.leagues))
  parts_of (part.Head l) = option_map_or (λ start. part.Rounds l start ∷ part.Rows l ∷ []) (league_start b.leagues l) []
  parts_of (part.Leagues first) = if nat_lt first b.calendar.locked then map (λ l. part.League l first) (range_with_len 1 (length b.leagues)) else []
  parts_of (part.League l first) =
      let from = max (start_in b.leagues l) (first + 1) in
      if nat_le from b.calendar.locked then part.Rounds l from ∷ part.Rows l ∷ [] else []
  parts_of (part.Rounds l from) = map (part.Round l) (gameweeks from b.calendar.locked)
  parts_of (part.Round l g) =
      if has_average (length (order_in b.leagues l)) then part.One (node.Average l g) ∷ part.Matches l g ∷ [] else part.Matches l g ∷ []
  parts_of (part.Matches l g) = map (λ i. part.One (node.Match l g i)) (range_with_len 0 (length (order_in b.leagues l)))
  parts_of (part.Rows l) = map (λ e. part.One (node.HeadRow l e)) (order_in b.leagues l)
  parts_of part.Cups = map (λ c. part.Cup c 0) (range_with_len 1 (length b.cups))
  parts_of (part.LaterCups first) = if nat_lt first b.calendar.locked then map (λ c. part.Cup c (first + 1)) (range_with_len 1 (length b.cups)) else []
  parts_of (part.Cup c from) = map (part.CupRound c) (gameweeks from b.calendar.locked)
  parts_of (part.CupRound c g) =
      let start = (bracket_of b c).start in
      if nat_le start g then map (λ i. part.One (node.Tie c (g - start) i)) (range_with_len 0 (ties_after (bracket_of b c) (g - start))) else []

-- how deep a part is
abbrev pub depth : Part → ℕ
depth (part.One n) = 0
depth part.All = 6
depth (part.Locked first) = 6
depth (part.Changed l) = 5
depth part.Fixtures = 2
depth (part.Fixture f) = 1
depth (part.Players first) = 2
depth (part.Player p first) = 1
depth (part.Entries first) = 2
depth (part.Entry e first) = 1
depth (part.Teams g) = 1
depth (part.Totals first) = 3
depth (part.TotalsOf e) = 2
depth (part.TotalIn e l) = 1
depth (part.Members l) = 1
depth part.Heads = 5
depth (part.Head l) = 4
depth (part.Leagues first) = 5
depth (part.League l first) = 4
depth (part.Rounds l from) = 3
depth (part.Round l g) = 2
depth (part.Matches l g) = 1
depth (part.Rows l) = 1
depth part.Cups = 3
depth (part.LaterCups first) = 3
depth (part.Cup c from) = 2
depth (part.CupRound c g) = 1
