-- The season as a graph: the live nodes, the inputs of each, and its own function of their values.
use Rattle.std.specs.Prelude.{◌≡◌, ℕ, zero, suc, ◌+◌, ◌*◌, ◌<◌, ◌≤◌, ℤ, pos, neg_ℤ, ◌+ℤ◌, ◌≤ℤ◌, ◌-◌, Bool, true, false, ◌&&◌, ◌||◌, ◌==◌, if◌then◌else◌, nat_le, nat_lt, List, [], ◌∷◌, ◌++◌, Option, Some, None, is_some, length, map, filter, fold, slice_index}
use Rattle.std.specs.List.{flat_map, list_any}
use Rattle.std.specs.Option.{option_and_then, option_map_or, unwrap_or}
use Rattle.fpl_base.specs.declared.kinds.Position.{Position}
use Rattle.fpl_base.specs.declared.kinds.Profile.{Profile}
use Rattle.rule_book.specs.declared.cup.Bracket.{Bracket}
use Rattle.rule_book.specs.declared.cup.Side.{Side}
use Rattle.rule_book.specs.declared.line.Line.{Line}
use Rattle.rule_book.specs.declared.pairing.Opponent.{Opponent}
use Rattle.rule_book.specs.declared.pairing.Opponent.TheVariants.{Place, Average}
use Rattle.rule_book.specs.declared.player.Player.{Player}
use Rattle.rule_book.specs.declared.tables.HeadScore.{HeadScore}
use Rattle.rule_book.specs.declared.team.Team.{Team}
use Rattle.rule_book.specs.declared.team_score.Figures.{Figures}
use Rattle.rule_book.specs.declared.team_score.TeamScore.{TeamScore}
use Rattle.rule_book.specs.ById.{at_id}
use Rattle.rule_book.specs.Bonus.{bonus_of}
use Rattle.rule_book.specs.BonusPoints.{bps_of}
use Rattle.rule_book.specs.Calendar.{CalendarFacts, IsCalendar, has_ended, standing}
use Rattle.rule_book.specs.Cups.{coin_after, goes_through}
use Rattle.rule_book.specs.Entries.{entry_in}
use Rattle.rule_book.specs.Figures.{figure, IsLine}
use Rattle.rule_book.specs.HeadToHead.{head_score, total_of}
use Rattle.rule_book.specs.LeagueCalls.{is_head, is_member, leagues_of}
use Rattle.rule_book.specs.LeagueRows.{average_in, place_of}
use Rattle.rule_book.specs.Leagues.{LeagueFacts}
use Rattle.rule_book.specs.MatchFacts.{MatchFacts, is_finished, line_of, lines_of, players_in}
use Rattle.rule_book.specs.Opponents.{opponent_of}
use Rattle.rule_book.specs.PlayerFigures.{position_in}
use Rattle.rule_book.specs.Players.{player_of}
use Rattle.rule_book.specs.Points.{points_of}
use Rattle.rule_book.specs.Ranks.{AllDiffer}
use Rattle.rule_book.specs.ScoreOfTeam.{score_of}
use Rattle.rule_book.specs.Totals.{gameweeks}
use Rattle.rescore_graph.specs.Graph.{Among, Graph}
use Rattle.season_nodes.specs.Brackets.{AreBrackets, bracket_in, is_in, no_side, part_of, side_of, ties_after}
use Rattle.season_nodes.specs.declared.nodes.LineWorth.{LineWorth}
use Rattle.season_nodes.specs.declared.nodes.Node.{Node}
use Rattle.season_nodes.specs.declared.nodes.Node.TheVariants as node
use Rattle.season_nodes.specs.declared.nodes.Value.{Value}
use Rattle.season_nodes.specs.declared.nodes.Value.TheVariants as value
use Rattle.season_nodes.specs.Rounds.{has_average, lower, met, order_in, start_in}

-- what the operator and the managers handed in: by which rules the season is played, its calendar, its players, and the
-- figures of its matches; how many entries were issued, the gameweek in which each began, and, of each gameweek, an
-- entry's team in it and what its transfers there cost; and the leagues and the cups
pub record SeasonFacts : Type 0 where
  pub profile : Profile
  pub calendar : CalendarFacts
  pub players : List Player
  pub matches : MatchFacts
  pub entries : ℕ
  pub first : ℕ → Option ℕ
  pub team : ℕ → ℕ → Team
  pub cost : ℕ → ℕ → ℕ
  pub leagues : List LeagueFacts
  pub cups : List Bracket

-- what a line is worth without bonus
abbrev pub worth_of : Profile → Position → Line → LineWorth
worth_of profile position line = record {
  points = points_of profile position line;
  bps = bps_of position line;
  minutes = figure line 1;
  carded = (figure line 8 == 1) || (figure line 9 == 1);
  goals = figure line 2;
  conceded = figure line 4;
}

-- what nothing is worth
abbrev pub no_worth : LineWorth
no_worth = record { points = pos 0; bps = pos 0; minutes = 0; carded = false; goals = 0; conceded = 0 }

-- the worth of a line that a cell holds
abbrev pub worth_in : Option Value → LineWorth
worth_in None = no_worth
worth_in (Some (value.Line w)) = w
worth_in (Some (value.Bonus rows)) = no_worth
worth_in (Some (value.PlayerGw figures)) = no_worth
worth_in (Some (value.TeamGw score)) = no_worth
worth_in (Some (value.Total points)) = no_worth
worth_in (Some (value.Average points)) = no_worth
worth_in (Some (value.Match scores)) = no_worth
worth_in (Some (value.HeadRow score)) = no_worth
worth_in (Some (value.Tie winner)) = no_worth

-- the bonuses that a cell holds
abbrev pub bonuses_in : Option Value → List (ℕ × ℕ)
bonuses_in None = []
bonuses_in (Some (value.Line w)) = []
bonuses_in (Some (value.Bonus rows)) = rows
bonuses_in (Some (value.PlayerGw figures)) = []
bonuses_in (Some (value.TeamGw score)) = []
bonuses_in (Some (value.Total points)) = []
bonuses_in (Some (value.Average points)) = []
bonuses_in (Some (value.Match scores)) = []
bonuses_in (Some (value.HeadRow score)) = []
bonuses_in (Some (value.Tie winner)) = []

-- who of some players took part, by what their lines are worth, each with his number in the bonus points system
abbrev pub took_part : (ℕ → LineWorth) → List ℕ → List (ℕ × ℤ)
took_part worth players = map (λ p. (p, (worth p).bps)) (filter (λ p. nat_le 1 (worth p).minutes) players)

-- those of them who have a bonus, each with it
abbrev pub with_bonus : List (ℕ × ℤ) → List (ℕ × ℕ)
with_bonus table = filter (λ row. nat_le 1 row.1) (map (λ row. (row.0, bonus_of table row.1)) table)

-- the figures of nothing
abbrev pub no_figures : Figures
no_figures = record { points = pos 0; played = false; goals = 0; conceded = 0 }

-- the figures of a player's gameweek that a cell holds
abbrev pub figures_held : Option Value → Figures
figures_held None = no_figures
figures_held (Some (value.Line w)) = no_figures
figures_held (Some (value.Bonus rows)) = no_figures
figures_held (Some (value.PlayerGw figures)) = figures
figures_held (Some (value.TeamGw score)) = no_figures
figures_held (Some (value.Total points)) = no_figures
figures_held (Some (value.Average points)) = no_figures
figures_held (Some (value.Match scores)) = no_figures
figures_held (Some (value.HeadRow score)) = no_figures
figures_held (Some (value.Tie winner)) = no_figures

-- the points after deductions of an entry's gameweek that a cell holds
abbrev pub net_held : Option Value → ℤ
net_held None = pos 0
net_held (Some (value.Line w)) = pos 0
net_held (Some (value.Bonus rows)) = pos 0
net_held (Some (value.PlayerGw figures)) = pos 0
net_held (Some (value.TeamGw score)) = score.net
net_held (Some (value.Total points)) = pos 0
net_held (Some (value.Average points)) = pos 0
net_held (Some (value.Match scores)) = pos 0
net_held (Some (value.HeadRow score)) = pos 0
net_held (Some (value.Tie winner)) = pos 0

-- the points of the Average that a cell holds
abbrev pub average_held : Option Value → ℤ
average_held None = pos 0
average_held (Some (value.Line w)) = pos 0
average_held (Some (value.Bonus rows)) = pos 0
average_held (Some (value.PlayerGw figures)) = pos 0
average_held (Some (value.TeamGw score)) = pos 0
average_held (Some (value.Total points)) = pos 0
average_held (Some (value.Average points)) = points
average_held (Some (value.Match scores)) = pos 0
average_held (Some (value.HeadRow score)) = pos 0
average_held (Some (value.Tie winner)) = pos 0

-- what the two of a match scored, by its cell
abbrev pub scores_held : Option Value → ℤ × ℤ
scores_held None = (pos 0, pos 0)
scores_held (Some (value.Line w)) = (pos 0, pos 0)
scores_held (Some (value.Bonus rows)) = (pos 0, pos 0)
scores_held (Some (value.PlayerGw figures)) = (pos 0, pos 0)
scores_held (Some (value.TeamGw score)) = (pos 0, pos 0)
scores_held (Some (value.Total points)) = (pos 0, pos 0)
scores_held (Some (value.Average points)) = (pos 0, pos 0)
scores_held (Some (value.Match scores)) = scores
scores_held (Some (value.HeadRow score)) = (pos 0, pos 0)
scores_held (Some (value.Tie winner)) = (pos 0, pos 0)

-- who goes on from a tie, by its cell; nobody where there is none
abbrev pub winner_held : Option Value → ℕ
winner_held None = 0
winner_held (Some (value.Line w)) = 0
winner_held (Some (value.Bonus rows)) = 0
winner_held (Some (value.PlayerGw figures)) = 0
winner_held (Some (value.TeamGw score)) = 0
winner_held (Some (value.Total points)) = 0
winner_held (Some (value.Average points)) = 0
winner_held (Some (value.Match scores)) = 0
winner_held (Some (value.HeadRow score)) = 0
winner_held (Some (value.Tie winner)) = winner

-- what an entry's gameweek gives to a tie, by its cell
abbrev pub side_held : Option Value → Side
side_held None = no_side
side_held (Some (value.Line w)) = no_side
side_held (Some (value.Bonus rows)) = no_side
side_held (Some (value.PlayerGw figures)) = no_side
side_held (Some (value.TeamGw score)) = side_of score
side_held (Some (value.Total points)) = no_side
side_held (Some (value.Average points)) = no_side
side_held (Some (value.Match scores)) = no_side
side_held (Some (value.HeadRow score)) = no_side
side_held (Some (value.Tie winner)) = no_side

-- a match from the side of one of its places: its own points, and those of whom it meets
abbrev pub seen_from : Bool → ℤ × ℤ → ℤ × ℤ
seen_from is_lower scores = if is_lower then scores else (scores.1, scores.0)

-- figures with those of one line more, of which this is the worth and this the bonus
abbrev pub with_worth : Figures → LineWorth → ℕ → Figures
with_worth figures worth bonus = record {
  points = figures.points +ℤ (worth.points +ℤ pos bonus);
  played = figures.played || (nat_le 1 worth.minutes || worth.carded);
  goals = figures.goals + worth.goals;
  conceded = figures.conceded + worth.conceded;
}

-- figures of so many lines, none of which is worth too much to be added up
pub record AreModest (lines : ℕ) (figures : Figures) : Type 0 where
  pub low : neg_ℤ (pos (33022 * lines)) ≤ℤ figures.points
  pub high : figures.points ≤ℤ pos (33022 * lines)
  pub goals : figures.goals ≤ 255 * lines
  pub conceded : figures.conceded ≤ 255 * lines

-- what a player did in some fixtures, by what his lines are worth and by his bonus in each
abbrev pub gathered : (ℕ → LineWorth) → (ℕ → ℕ) → List ℕ → Figures
gathered worth bonus fixtures = fold (λ figures f. with_worth figures (worth f) (bonus f)) no_figures fixtures

-- what the values of the nodes tell of a player's line in a fixture
abbrev pub worth_by : (Node → Option Value) → ℕ → ℕ → LineWorth
worth_by v f p = worth_in (v (node.Line f p))

-- and of his bonus there
abbrev pub bonus_by : (Node → Option Value) → ℕ → ℕ → ℕ
bonus_by v f p = unwrap_or (at_id (bonuses_in (v (node.Bonus f))) p) 0

-- the first gameweek of a classic league; none of a head-to-head league
abbrev pub start_of_classic : LeagueFacts → Option ℕ
start_of_classic league = if is_head league.kind then None else Some league.start

-- the same of the league of a number, if it is there
abbrev pub classic_start : List LeagueFacts → ℕ → Option ℕ
classic_start leagues l = option_and_then start_of_classic (entry_in leagues l)

-- as a list
abbrev pub classic_starts : List LeagueFacts → ℕ → List ℕ
classic_starts leagues l = option_map_or (λ s. s ∷ []) (classic_start leagues l) []

module _ (b : SeasonFacts) where
  -- a player is there
  abbrev pub is_there : ℕ → Bool
  is_there p = is_some (player_of b.players p)

  -- a player has a line in a fixture
  abbrev pub has_line : ℕ → ℕ → Bool
  has_line p f = is_some (line_of b.matches f p)

  -- the players who have a line in a fixture
  abbrev pub players_of : ℕ → List ℕ
  players_of f = players_in (lines_of b.matches f)

  -- the fixtures in which a player has a line, of those that now stand in a gameweek
  abbrev pub fixtures_of : ℕ → ℕ → List ℕ
  fixtures_of p g = filter (has_line p) (standing b.calendar g)

  -- an entry has begun in a gameweek: it was issued, and its first gameweek is that one or one before it
  abbrev pub has_begun : ℕ → ℕ → Bool
  has_begun e g = (nat_le 1 e && nat_le e b.entries) && option_map_or (λ first. nat_le first g) (b.first e) false

  -- the players of an entry's team in a gameweek, by slot
  abbrev pub fifteen_of : ℕ → ℕ → List ℕ
  fifteen_of e g = map (λ pick. pick.player) (b.team e g).picks

  -- those of them who are there
  abbrev pub fielded_in : ℕ → ℕ → List ℕ
  fielded_in e g = filter is_there (fifteen_of e g)

  -- the gameweeks from which an entry has a total: the first, and the first of each classic league that it is in
  abbrev pub starts_of : ℕ → List ℕ
  starts_of e = 1 ∷ flat_map (classic_starts b.leagues) (leagues_of b.leagues e)

  -- whether a gameweek is one of these
  abbrev pub has_start : ℕ → ℕ → Bool
  has_start e s = list_any (λ k. s == k) (starts_of e)

  -- the locked gameweeks from one on in which an entry has begun
  abbrev pub counted_gameweeks : ℕ → ℕ → List ℕ
  counted_gameweeks e s = filter (has_begun e) (gameweeks s b.calendar.locked)

  -- whether each fixture that stands in a gameweek is finished
  abbrev pub ended : ℕ → Bool
  ended g = has_ended b.calendar (is_finished b.matches) g

  -- a league has a round in a gameweek: it is that with which the league starts or one behind it, and locked
  abbrev pub has_round : ℕ → ℕ → Bool
  has_round l g = nat_le (start_in b.leagues l) g && nat_le g b.calendar.locked

  -- whom a place of the order of a league meets in a gameweek, the place that it meets, and the lower one of the two
  abbrev pub opponent_in : ℕ → ℕ → ℕ → Opponent
  opponent_in l g i = opponent_of (length (order_in b.leagues l)) (g - start_in b.leagues l) i

  abbrev pub met_in : ℕ → ℕ → ℕ → ℕ
  met_in l g i = met (length (order_in b.leagues l)) (g - start_in b.leagues l) i

  abbrev pub lower_in : ℕ → ℕ → ℕ → ℕ
  lower_in l g i = lower (length (order_in b.leagues l)) (g - start_in b.leagues l) i

  -- whether a place of the order of a league is the lower one of its match in a gameweek
  abbrev pub is_lower : ℕ → ℕ → ℕ → Bool
  is_lower l g i = nat_lt i (length (order_in b.leagues l)) && nat_lt i (met_in l g i)

  -- the bracket of a cup, and the gameweek of its round after so many rounds
  abbrev pub bracket_of : ℕ → Bracket
  bracket_of c = bracket_in b.cups c

  abbrev pub round_of : ℕ → ℕ → ℕ
  round_of c r = (bracket_in b.cups c).start + r

  -- whether the gameweek of a round is locked
  abbrev pub is_played : ℕ → ℕ → Bool
  is_played c r = nat_le (round_of c r) b.calendar.locked

  -- whether a node is live
  abbrev pub is_live : Node → Bool
  is_live (node.Line f p) = has_line p f
  is_live (node.Bonus f) = nat_lt 0 (length (lines_of b.matches f))
  is_live (node.PlayerGw p g) = is_there p && (nat_le 1 g && nat_le g b.calendar.locked)
  is_live (node.TeamGw e g) = has_begun e g && (nat_le 1 g && nat_le g b.calendar.locked)
  is_live (node.Total e s) = (has_begun e b.calendar.locked && has_start e s) && (nat_le 1 s && nat_le s b.calendar.locked)
  is_live (node.Average l g) = has_round l g && has_average (length (order_in b.leagues l))
  is_live (node.Match l g i) = has_round l g && is_lower l g i
  is_live (node.HeadRow l e) = is_some (place_of (order_in b.leagues l) e)
  is_live (node.Tie c r i) = is_played c r && nat_lt i (ties_after (bracket_of c) r)

  -- the gameweek of an entry, if it is live
  abbrev pub team_if : ℕ → ℕ → List Node
  team_if e g = if is_live (node.TeamGw e g) then node.TeamGw e g ∷ [] else []

  -- what tells the points of an opponent in a gameweek
  abbrev pub opponent_inputs : ℕ → ℕ → Opponent → List Node
  opponent_inputs l g (Place j) = team_if (slice_index (order_in b.leagues l) j) g
  opponent_inputs l g Average = node.Average l g ∷ []

  -- the match of a place of the order of a league in a gameweek
  abbrev pub match_node : ℕ → ℕ → ℕ → Node
  match_node l i g = node.Match l g (lower_in l g i)

  -- the matches of a place in the locked gameweeks from the start on
  abbrev pub match_nodes : ℕ → ℕ → List Node
  match_nodes l i = map (match_node l i) (gameweeks (start_in b.leagues l) b.calendar.locked)

  -- the two ties of the round before that lead to a tie; none in the first round
  abbrev pub ties_before : ℕ → ℕ → ℕ → List Node
  ties_before c zero i = []
  ties_before c (suc r) i = node.Tie c r (2 * i) ∷ node.Tie c r (2 * i + 1) ∷ []

  -- the gameweeks of those who can reach a tie
  abbrev pub entrant_inputs : ℕ → ℕ → ℕ → List Node
  entrant_inputs c r i = flat_map (λ e. team_if e (round_of c r)) (part_of (bracket_of c) r i)

  -- the nodes whose values a node's own function reads
  abbrev pub inputs_of : Node → List Node
  inputs_of (node.Line f p) = []
  inputs_of (node.Bonus f) = map (node.Line f) (players_of f)
  inputs_of (node.PlayerGw p g) = flat_map (λ f. node.Line f p ∷ node.Bonus f ∷ []) (fixtures_of p g)
  inputs_of (node.TeamGw e g) = map (λ p. node.PlayerGw p g) (fielded_in e g)
  inputs_of (node.Total e s) = map (node.TeamGw e) (counted_gameweeks e s)
  inputs_of (node.Average l g) = map (λ e. node.TeamGw e g) (filter (λ e. is_live (node.TeamGw e g)) (order_in b.leagues l))
  inputs_of (node.Match l g i) = team_if (slice_index (order_in b.leagues l) i) g ++ opponent_inputs l g (opponent_in l g i)
  inputs_of (node.HeadRow l e) = option_map_or (match_nodes l) (place_of (order_in b.leagues l) e) []
  inputs_of (node.Tie c r i) = ties_before c r i ++ entrant_inputs c r i

  -- what a player's line in a fixture is worth
  abbrev pub line_worth : ℕ → ℕ → LineWorth
  line_worth f p = option_map_or (worth_of b.profile (position_in b.players p)) (line_of b.matches f p) no_worth

  -- who took part in a fixture, by what its lines are worth
  abbrev pub took_part_by : (Node → Option Value) → ℕ → List (ℕ × ℤ)
  took_part_by v f = took_part (worth_by v f) (players_of f)

  -- of a finished fixture those who took part, each with his bonus; of another nobody
  abbrev pub bonuses_by : (Node → Option Value) → ℕ → List (ℕ × ℕ)
  bonuses_by v f = if is_finished b.matches f then with_bonus (took_part_by v f) else []

  -- what a player did in a gameweek, by what his lines are worth and the bonuses
  abbrev pub figures_by : (Node → Option Value) → ℕ → ℕ → Figures
  figures_by v p g = gathered (λ f. worth_by v f p) (λ f. bonus_by v f p) (fixtures_of p g)

  -- the figures with those of a player's line in a fixture, if he has one there
  abbrev pub with_fixture : (Node → Option Value) → ℕ → Figures → ℕ → Figures
  with_fixture v p figures f = if has_line p f then with_worth figures (worth_by v f p) (bonus_by v f p) else figures

  -- what the values of the nodes tell of the players of a team in a gameweek, by slot; of one who is not there nothing
  abbrev pub figures_of_fifteen : (Node → Option Value) → Team → ℕ → List Figures
  figures_of_fifteen v team g =
      map (λ pick. if is_there pick.player then figures_held (v (node.PlayerGw pick.player g)) else no_figures) team.picks

  -- what an entry's team scored in a gameweek, by what its players did
  abbrev pub score_by : (Node → Option Value) → ℕ → ℕ → TeamScore
  score_by v e g = score_of (b.team e g) (figures_of_fifteen v (b.team e g) g) (ended g) (b.cost e g)

  -- the points after deductions of an entry over the locked gameweeks from one on, by what it scored in each
  abbrev pub total_by : (Node → Option Value) → ℕ → ℕ → ℤ
  total_by v e s = total_of (map (λ g. net_held (v (node.TeamGw e g))) (counted_gameweeks e s))

  -- the points after deductions of an entry in a gameweek, by what it scored; none where it has not begun
  abbrev pub net_by : (Node → Option Value) → ℕ → ℕ → ℤ
  net_by v e g = if is_live (node.TeamGw e g) then net_held (v (node.TeamGw e g)) else pos 0

  -- the points of the Average of a league in a gameweek, by what those in its order scored
  abbrev pub average_by : (Node → Option Value) → ℕ → ℕ → ℤ
  average_by v l g = average_in (net_by v) (order_in b.leagues l) g

  -- the points of an opponent in a gameweek, by what it scored or by those of the Average
  abbrev pub points_by : (Node → Option Value) → ℕ → ℕ → Opponent → ℤ
  points_by v l g (Place j) = net_by v (slice_index (order_in b.leagues l) j) g
  points_by v l g Average = average_held (v (node.Average l g))

  -- what the two of a match scored: the points of a place in a gameweek, and those of whom it meets
  abbrev pub match_by : (Node → Option Value) → ℕ → ℕ → ℕ → ℤ × ℤ
  match_by v l g i = (net_by v (slice_index (order_in b.leagues l) i) g, points_by v l g (opponent_in l g i))

  -- the match of a place in a gameweek from its side, by what the two scored
  abbrev pub seen_by : (Node → Option Value) → ℕ → ℕ → ℕ → ℤ × ℤ
  seen_by v l i g = seen_from (nat_lt i (met_in l g i)) (scores_held (v (match_node l i g)))

  -- the matches of a place in the locked gameweeks from the start on
  abbrev pub matches_by : (Node → Option Value) → ℕ → ℕ → List (ℤ × ℤ)
  matches_by v l i = map (seen_by v l i) (gameweeks (start_in b.leagues l) b.calendar.locked)

  -- what a member of a head-to-head league has of its matches
  abbrev pub head_by : (Node → Option Value) → ℕ → ℕ → HeadScore
  head_by v l e = head_score (option_map_or (matches_by v l) (place_of (order_in b.leagues l) e) [])

  -- what an entry has in a gameweek, by what it scored; nothing where it has not begun
  abbrev pub side_by : (Node → Option Value) → ℕ → ℕ → Side
  side_by v e g = if is_live (node.TeamGw e g) then side_held (v (node.TeamGw e g)) else no_side

  -- the same of one of those who can reach a tie; nothing of another
  abbrev pub side_among : (Node → Option Value) → ℕ → ℕ → ℕ → ℕ → Side
  side_among v c r i e = if is_in (part_of (bracket_of c) r i) e then side_by v e (round_of c r) else no_side

  -- who comes to a place of a round: the slot there, or who went on from the tie of that place
  abbrev pub comer_by : (Node → Option Value) → ℕ → ℕ → ℕ → ℕ
  comer_by v c zero i = slice_index (bracket_of c).slots i
  comer_by v c (suc r) i = winner_held (v (node.Tie c r i))

  -- who goes on from a tie, by who comes to it and what the two have in its gameweek
  abbrev pub tie_by : (Node → Option Value) → ℕ → ℕ → ℕ → ℕ
  tie_by v c r i = goes_through (comer_by v c r (2 * i)) (comer_by v c r (2 * i + 1)) (side_among v c r i) (coin_after (bracket_of c) r i)

  -- a node's own function of the values of its inputs
  abbrev pub own_value : Node → (Node → Option Value) → Value
  own_value (node.Line f p) v = value.Line (line_worth f p)
  own_value (node.Bonus f) v = value.Bonus (bonuses_by v f)
  own_value (node.PlayerGw p g) v = value.PlayerGw (figures_by v p g)
  own_value (node.TeamGw e g) v = value.TeamGw (score_by v e g)
  own_value (node.Total e s) v = value.Total (total_by v e s)
  own_value (node.Average l g) v = value.Average (average_by v l g)
  own_value (node.Match l g i) v = value.Match (match_by v l g i)
  own_value (node.HeadRow l e) v = value.HeadRow (head_by v l e)
  own_value (node.Tie c r i) v = value.Tie (tie_by v c r i)

-- the levels, and how many counted reads an evaluation makes at most
abbrev pub level_of : Node → ℕ
level_of (node.Line f p) = 0
level_of (node.Bonus f) = 1
level_of (node.PlayerGw p g) = 2
level_of (node.TeamGw e g) = 3
level_of (node.Total e s) = 4
level_of (node.Average l g) = 4
level_of (node.Match l g i) = 5
level_of (node.HeadRow l e) = 6
level_of (node.Tie c r i) = 4 + r

abbrev pub weight_of : Node → ℕ
weight_of (node.Line f p) = 2
weight_of (node.Bonus f) = 130
weight_of (node.PlayerGw p g) = 40
weight_of (node.TeamGw e g) = 17
weight_of (node.Total e s) = 39
weight_of (node.Average l g) = 65
weight_of (node.Match l g i) = 4
weight_of (node.HeadRow l e) = 39
weight_of (node.Tie c r i) = 5

-- the graph of a season
abbrev pub season_graph : SeasonFacts → Graph Node Value
season_graph b = record {
  live = λ n. is_live b n ≡ true;
  inputs = inputs_of b;
  level = level_of;
  weight = weight_of;
  own = own_value b;
}

-- numbers of which each is smaller than those behind it
abbrev pub Rising : List ℕ → Type 0
Rising [] = Unit {0}
Rising (n ∷ ns) = ((m : ℕ) → Among ns m → n < m) × Rising ns

-- the order of a league is one of its members: each who stands in it is a member, and stands once; so that of each league
pub record IsOrder (league : LeagueFacts) : Type 0 where
  pub differ : AllDiffer league.order
  pub members : (e : ℕ) → Among league.order e → is_member league e ≡ true

abbrev pub AreOrders : List LeagueFacts → Type 0
AreOrders leagues = (l : ℕ) (league : LeagueFacts) → entry_in leagues l ≡ Some league → IsOrder league

-- the facts are those of a season: a lawful calendar; in each fixture lines by ascending player, each in its ranges, and
-- each of a player who is there; each league drawn in an order of its members; and each cup with the slots of its rounds
pub record IsSeason (b : SeasonFacts) : Type 0 where
  pub calendar : IsCalendar b.calendar
  pub ascending : (f : ℕ) → Rising (players_of b f)
  pub ranges : (f p : ℕ) (line : Line) → line_of b.matches f p ≡ Some line → IsLine line
  pub there : (f p : ℕ) → has_line b p f ≡ true → is_there b p ≡ true
  pub orders : AreOrders b.leagues
  pub brackets : AreBrackets b.cups
