-- The nodes of which a node is an input, told by the facts.
use Rattle.std.specs.Prelude.{ℕ, suc, ◌-◌, ◌/◌, ◌==◌, Bool, true, false, not, ◌&&◌, nat_le, if◌then◌else◌, List, [], ◌∷◌, ◌++◌, Option, Some, None, length, map, slice_index}
use Rattle.std.specs.List.{filter, flat_map, range_with_len}
use Rattle.std.specs.Option.{option_map_or, option_and_then, unwrap_or}
use Rattle.rule_book.specs.ById.{at_id}
use Rattle.rule_book.specs.Calendar.{stands_in}
use Rattle.rule_book.specs.LeagueCalls.{leagues_of}
use Rattle.rule_book.specs.LeagueRows.{place_of}
use Rattle.rule_book.specs.declared.pairing.Opponent.{Opponent}
use Rattle.rule_book.specs.declared.pairing.Opponent.TheVariants.{Place, Average}
use Rattle.season_nodes.specs.Brackets.{is_in, part_of, ties_after}
use Rattle.season_nodes.specs.declared.nodes.Node.{Node}
use Rattle.season_nodes.specs.declared.nodes.Node.TheVariants as node
use Rattle.season_nodes.specs.declared.nodes.Value.{Value}
use Rattle.season_nodes.specs.Rounds.{has_average, order_in}
use Rattle.season_nodes.specs.Season.{SeasonFacts, bonuses_in, bracket_of, has_round, is_live, match_node, opponent_in, players_of, starts_of}

-- of a player's gameweek: the gameweeks of the entries that hold him there
abbrev pub gameweek_dependents : List ℕ → ℕ → List Node
gameweek_dependents entries g = map (λ e. node.TeamGw e g) entries

-- the bonus that a kept value gives a player; 0 where it gives him none
abbrev pub given : Value → ℕ → ℕ
given v p = unwrap_or (at_id (bonuses_in (Some v)) p) 0

-- whether an opponent is the Average
abbrev pub is_average : Opponent → Bool
is_average (Place j) = false
is_average Average = true

module _ (b : SeasonFacts) where
  -- the gameweek in which a fixture stands, where that of a player is live
  abbrev pub live_gameweek : ℕ → ℕ → Option ℕ
  live_gameweek p f = option_and_then (λ g. if is_live b (node.PlayerGw p g) then Some g else None) (stands_in b.calendar f)

  -- the player's gameweek that counts a fixture, if it is live
  abbrev pub counting : ℕ → ℕ → List Node
  counting f p = option_map_or (λ g. node.PlayerGw p g ∷ []) (live_gameweek p f) []

  -- of a line: the bonus of its fixture, and the player's gameweek
  abbrev pub line_dependents : ℕ → ℕ → List Node
  line_dependents f p = node.Bonus f ∷ counting f p

  -- of a bonus: the gameweeks of the players who have a line in the fixture
  abbrev pub bonus_dependents : ℕ → List Node
  bonus_dependents f = flat_map (counting f) (players_of b f)

  -- those of them to whom it matters that it was one value and is another: of the players whom the two give different bonuses
  abbrev pub bonus_affected : ℕ → Value → Value → List Node
  bonus_affected f old new = flat_map (counting f) (filter (λ p. not (given old p == given new p)) (players_of b f))

  -- the totals of an entry from a gameweek or from one before it on
  abbrev pub total_dependents : ℕ → ℕ → List Node
  total_dependents e g = map (node.Total e) (filter (λ s. nat_le 1 s && nat_le s g) (starts_of b e))

  -- the place of an entry in the order of a league that has a round in a gameweek
  abbrev pub place_in : ℕ → ℕ → ℕ → Option ℕ
  place_in e g l = if has_round b l g then place_of (order_in b.leagues l) e else None

  -- the Average of a league in a gameweek, if it plays
  abbrev pub average_if : ℕ → ℕ → List Node
  average_if l g = if has_average (length (order_in b.leagues l)) then node.Average l g ∷ [] else []

  -- of an entry's gameweek, in a league: its match, and the Average
  abbrev pub round_dependents : ℕ → ℕ → ℕ → List Node
  round_dependents e g l = option_map_or (λ i. match_node b l i g ∷ average_if l g) (place_in e g l) []

  -- the ties of a round of a cup that an entry can reach
  abbrev pub reached : ℕ → ℕ → ℕ → List Node
  reached e c r = map (node.Tie c r) (filter (λ i. is_in (part_of (bracket_of b c) r i) e) (range_with_len 0 (ties_after (bracket_of b c) r)))

  -- of an entry's gameweek, in a cup: those of the round of the gameweek
  abbrev pub cup_dependents : ℕ → ℕ → ℕ → List Node
  cup_dependents e g c = if nat_le (bracket_of b c).start g then reached e c (g - (bracket_of b c).start) else []

  -- of an entry's gameweek: its totals from that one or from one before it on, and what its leagues have of it
  abbrev pub table_dependents : ℕ → ℕ → List Node
  table_dependents e g = total_dependents e g ++ flat_map (round_dependents e g) (leagues_of b.leagues e)

  -- and what the cups have of it
  abbrev pub team_dependents : ℕ → ℕ → List Node
  team_dependents e g = table_dependents e g ++ flat_map (cup_dependents e g) (range_with_len 1 (length b.cups))

  -- of the Average of a league in a gameweek: the match of whom it meets
  abbrev pub average_dependents : ℕ → ℕ → List Node
  average_dependents l g =
      map (node.Match l g) (filter (λ i. is_average (opponent_in b l g i)) (range_with_len 0 (length (order_in b.leagues l))))

  -- the row of an opponent in a league; none of the Average
  abbrev pub opponent_dependents : ℕ → Opponent → List Node
  opponent_dependents l (Place j) = node.HeadRow l (slice_index (order_in b.leagues l) j) ∷ []
  opponent_dependents l Average = []

  -- of a match: the rows of the two who meet
  abbrev pub match_dependents : ℕ → ℕ → ℕ → List Node
  match_dependents l g i =
      node.HeadRow l (slice_index (order_in b.leagues l) i) ∷ opponent_dependents l (opponent_in b l g i)

  -- of a tie: that of the next round to which it leads, if it is live
  abbrev pub tie_dependents : ℕ → ℕ → ℕ → List Node
  tie_dependents c r i = if is_live b (node.Tie c (suc r) (i / 2)) then node.Tie c (suc r) (i / 2) ∷ [] else []

  -- of each node, where it is told which entries hold a player in a gameweek; of a total and of a row none
  abbrev pub dependents_of : (ℕ → ℕ → List ℕ) → Node → List Node
  dependents_of holders (node.Line f p) = line_dependents f p
  dependents_of holders (node.Bonus f) = bonus_dependents f
  dependents_of holders (node.PlayerGw p g) = gameweek_dependents (holders p g) g
  dependents_of holders (node.TeamGw e g) = team_dependents e g
  dependents_of holders (node.Total e s) = []
  dependents_of holders (node.Average l g) = average_dependents l g
  dependents_of holders (node.Match l g i) = match_dependents l g i
  dependents_of holders (node.HeadRow l e) = []
  dependents_of holders (node.Tie c r i) = tie_dependents c r i
