-- The values of the nodes straight from the facts, by the rule book.
use Rattle.std.specs.Prelude.{◌≡◌, ℕ, ◌+◌, ℤ, pos, true, if◌then◌else◌, List, [], map, Option, Some, slice_index}
use Rattle.std.specs.Option.{option_map_or}
use Rattle.rule_book.specs.Bonus.{standing}
use Rattle.rule_book.specs.Cups.{winner}
use Rattle.rule_book.specs.Entries.{entry_in}
use Rattle.rule_book.specs.EntryScores.{score_in}
use Rattle.rule_book.specs.HeadToHead.{head_score}
use Rattle.rule_book.specs.LeagueRows.{average_in, matches_of, points_against}
use Rattle.rule_book.specs.MatchFacts.{is_finished, lines_of}
use Rattle.rule_book.specs.PlayerFigures.{appearance, figures_in}
use Rattle.rule_book.specs.Totals.{total_from}
use Rattle.rule_book.specs.declared.cup.Side.{Side}
use Rattle.rule_book.specs.declared.tables.HeadScore.{HeadScore}
use Rattle.rule_book.specs.declared.team_score.Figures.{Figures}
use Rattle.rule_book.specs.declared.team_score.TeamScore.{TeamScore}
use Rattle.season_nodes.specs.declared.nodes.Node.{Node}
use Rattle.season_nodes.specs.declared.nodes.Node.TheVariants as node
use Rattle.season_nodes.specs.declared.nodes.Value.{Value}
use Rattle.season_nodes.specs.declared.nodes.Value.TheVariants as value
use Rattle.season_nodes.specs.Brackets.{no_side, side_of}
use Rattle.season_nodes.specs.Rounds.{order_in}
use Rattle.season_nodes.specs.Season.{SeasonFacts, bracket_of, is_live, line_worth, opponent_in, with_bonus}

module _ (b : SeasonFacts) where
  -- what a player did in a gameweek
  abbrev pub gameweek_figures : ℕ → ℕ → Figures
  gameweek_figures p g = figures_in b.profile b.calendar b.players b.matches p g

  -- of a finished fixture those who have a bonus, each with it; of another nobody
  abbrev pub bonuses_told : ℕ → List (ℕ × ℕ)
  bonuses_told f =
      if is_finished b.matches f then with_bonus (standing (map (appearance b.players) (lines_of b.matches f))) else []

  -- what an entry's team scored in a gameweek
  abbrev pub gameweek_score : ℕ → ℕ → TeamScore
  gameweek_score e g = score_in b.profile b.calendar b.players b.matches (b.team e g) (b.cost e g) g

  -- the points after deductions of an entry over the locked gameweeks, from one or from its first on
  abbrev pub total_since : ℕ → ℕ → ℤ
  total_since e s = total_from (λ g. (gameweek_score e g).net) s (b.first e) b.calendar.locked

  -- the points after deductions of an entry in a gameweek; none where it has not begun
  abbrev pub net_told : ℕ → ℕ → ℤ
  net_told e g = if is_live b (node.TeamGw e g) then (gameweek_score e g).net else pos 0

  -- the points of the Average of a league in a gameweek
  abbrev pub average_told : ℕ → ℕ → ℤ
  average_told l g = average_in net_told (order_in b.leagues l) g

  -- the match of a place of the order of a league in a gameweek: its own points, and those of whom it meets
  abbrev pub match_told : ℕ → ℕ → ℕ → ℤ × ℤ
  match_told l g i =
      let order = order_in b.leagues l in
      (net_told (slice_index order i) g, points_against net_told order g (opponent_in b l g i))

  -- what an entry has of its matches in the locked gameweeks from the start of a league on; nothing where it is not in its
  -- order, or where there is no such league
  abbrev pub head_told : ℕ → ℕ → HeadScore
  head_told l e =
      option_map_or (λ league. head_score (matches_of net_told b.calendar.locked league e)) (entry_in b.leagues l) (head_score [])

  -- what an entry has in a gameweek; nothing where it has not begun
  abbrev pub side_told : ℕ → ℕ → Side
  side_told e g = if is_live b (node.TeamGw e g) then side_of (gameweek_score e g) else no_side

  -- who wins a tie of a cup, after so many rounds
  abbrev pub tie_told : ℕ → ℕ → ℕ → ℕ
  tie_told c r i = winner (bracket_of b c) side_told (r + 1) i

  -- what is told of a node
  abbrev pub told : Node → Value
  told (node.Line f p) = value.Line (line_worth b f p)
  told (node.Bonus f) = value.Bonus (bonuses_told f)
  told (node.PlayerGw p g) = value.PlayerGw (gameweek_figures p g)
  told (node.TeamGw e g) = value.TeamGw (gameweek_score e g)
  told (node.Total e s) = value.Total (total_since e s)
  told (node.Average l g) = value.Average (average_told l g)
  told (node.Match l g i) = value.Match (match_told l g i)
  told (node.HeadRow l e) = value.HeadRow (head_told l e)
  told (node.Tie c r i) = value.Tie (tie_told c r i)

  -- each live node has the value that is told of it
  abbrev pub IsTold : (Node → Option Value) → Type 0
  IsTold v = (n : Node) → is_live b n ≡ true → v n ≡ Some (told n)
