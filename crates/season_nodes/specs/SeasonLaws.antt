-- A season is a graph.
use Rattle.std.proofs.Common.{◌≡◌, ℕ, zero, suc, ◌+◌, ◌-◌, ◌*◌, ◌<◌, ◌≤◌, ◌==◌, Bool, true, false, ◌&&◌, nat_le, nat_lt, if◌then◌else◌, cond, ◌⊎◌, inl, inr, ⊎_elim, List, [], ◌∷◌, ℤ, pos, Option, Some, None, is_some, length, map, refl, sym, ◌∙◌, ap, ap₂, subst, arith}
use Rattle.std.specs.List.{filter, slice_index}
use Rattle.std.specs.Option.{option_map_or, unwrap_or}
use Rattle.std.proofs.lemmas.Bool.Decides.{leb_tells, nat_tests}
use Rattle.rule_book.specs.declared.cup.Side.{Side}
use Rattle.rule_book.specs.declared.line.Line.{Line}
use Rattle.rule_book.specs.declared.pairing.Opponent.{Opponent}
use Rattle.rule_book.specs.declared.pairing.Opponent.TheVariants.{Place, Average}
use Rattle.rule_book.specs.declared.team_score.Figures.{Figures}
use Rattle.rule_book.specs.ById.{at_id}
use Rattle.rule_book.specs.Calendar.{standing}
use Rattle.rule_book.specs.Cups.{coin_after, goes_through}
use Rattle.rule_book.specs.HeadToHead.{head_score, total_of}
use Rattle.rule_book.specs.LeagueRows.{place_of}
use Rattle.rule_book.specs.Opponents.{mean_of}
use Rattle.rule_book.specs.ScoreOfTeam.{score_of}
use Rattle.rule_book.specs.Totals.{gameweeks}
use Rattle.rule_book.specs.MatchFacts.{Lines, is_finished, line_in, lines_of, players_in}
use Rattle.rescore_graph.specs.Graph.{IsGraph, Among}
use Rattle.season_nodes.specs.Brackets.{is_in, no_side, part_of, ties_after}
use Rattle.season_nodes.specs.declared.nodes.LineWorth.{LineWorth}
use Rattle.season_nodes.specs.declared.nodes.Node.{Node}
use Rattle.season_nodes.specs.declared.nodes.Node.TheVariants as node
use Rattle.season_nodes.specs.declared.nodes.Value.{Value}
use Rattle.season_nodes.specs.declared.nodes.Value.TheVariants as value
use Rattle.season_nodes.specs.Places.{at_place}
use Rattle.season_nodes.specs.Reading.{among_either, among_left, among_right, map_local, filter_local, fold_local, from_filter, to_filter, from_map, to_map, from_flat, to_flat, from_range, to_range}
use Rattle.season_nodes.specs.RoundLaws.{lower_is, met_average}
use Rattle.season_nodes.specs.Rounds.{has_average, order_in, start_in}
use Rattle.season_nodes.specs.TieLaws.{both_before, in_slots}
use Rattle.season_nodes.specs.Season.{SeasonFacts, worth_in, bonuses_in, took_part, with_bonus, no_figures, with_worth, gathered, average_held, figures_held, net_held, scores_held, seen_from, counted_gameweeks, has_begun, has_start, has_line, is_there, players_of, fielded_in, fifteen_of, fixtures_of, ended, has_round, is_live, is_lower, lower_in, match_node, match_nodes, matches_by, met_in, net_by, opponent_in, opponent_inputs, points_by, seen_by, team_if, bracket_of, comer_by, entrant_inputs, is_played, round_of, side_among, side_by, side_held, tie_by, ties_before, winner_held, inputs_of, own_value, level_of, season_graph, IsSeason}

same_test : (n m : ℕ) → n ≡ m → (n == m) ≡ true
same_test n m e = grind (arith, nat_tests)

listed_case : (b : Bool) (line : Line) (rest : Option Line) → (b ≡ true) ⊎ (is_some rest ≡ true) → is_some (cond b (Some line) rest) ≡ true
listed_case true line rest o = refl
listed_case false line rest (inl e) = absurd (cc)
listed_case false line rest (inr e) = e

-- who is listed has a line
pub listed_has : (lines : Lines) (p : ℕ) → Among (players_in lines) p → is_some (line_in lines p) ≡ true
listed_has [] p a = absurd a
listed_has (row ∷ lines) p (inl e) = listed_case (row.0 == p) row.1 (line_in lines p) (inl (same_test row.0 p e))
listed_has (row ∷ lines) p (inr a) = listed_case (row.0 == p) row.1 (line_in lines p) (inr (listed_has lines p a))

same_id : (n m : ℕ) → (n == m) ≡ true → n ≡ m
same_id n m e = grind (arith, nat_tests)

has_case : (b : Bool) (line : Line) (rest : Option Line) → is_some (cond b (Some line) rest) ≡ true → (b ≡ true) ⊎ (is_some rest ≡ true)
has_case true line rest y = inl refl
has_case false line rest y = inr y

-- who has a line is listed
pub has_listed : (lines : Lines) (p : ℕ) → is_some (line_in lines p) ≡ true → Among (players_in lines) p
has_listed [] p y = absurd (cc)
has_listed (row ∷ lines) p y = ⊎_elim (λ e. inl (same_id row.0 p e)) (λ r. inr (has_listed lines p r)) (has_case (row.0 == p) row.1 (line_in lines p) y)

-- where somebody has a line there is one
pub has_some : (lines : Lines) (p : ℕ) → is_some (line_in lines p) ≡ true → nat_lt 0 (length lines) ≡ true
has_some [] p y = absurd (cc)
has_some (row ∷ lines) p y = grind (arith, nat_tests)

pub both_true : (x y : Bool) → x ≡ true → y ≡ true → (x && y) ≡ true
both_true true y e d = d
both_true false y e d = e

pub second_true : (x y : Bool) → (x && y) ≡ true → y ≡ true
second_true true y e = e
second_true false y e = absurd (cc)

pub first_true : (x y : Bool) → (x && y) ≡ true → x ≡ true
first_true true y e = refl
first_true false y e = e

within : (h n : ℕ) → h ≤ n → nat_le h n ≡ true
within h n e = ⊎_elim (λ a. a.0) (λ a. let x : n < h = a.1 in absurd (omega arith)) (leb_tells h n)

at_most : (h n : ℕ) → nat_le h n ≡ true → h ≤ n
at_most h n e = grind (arith, nat_tests)

later_case : (o : Option ℕ) (g h : ℕ) → option_map_or (λ first. nat_le first g) o false ≡ true → g ≤ h → option_map_or (λ first. nat_le first h) o false ≡ true
later_case None g h e up = absurd (cc)
later_case (Some first) g h e up = let low : first ≤ g = at_most first g e in within first h (omega (arith, low, up))

module _ (b : SeasonFacts) where
  -- who has begun in a gameweek has begun in each later one
  pub begun_later : (e g h : ℕ) → has_begun b e g ≡ true → g ≤ h → has_begun b e h ≡ true
  begun_later e g h l up =
      let issued = nat_le 1 e && nat_le e b.entries in
      both_true issued (option_map_or (λ first. nat_le first h) (b.first e) false)
      (first_true issued (option_map_or (λ first. nat_le first g) (b.first e) false) l)
      (later_case (b.first e) g h (second_true issued (option_map_or (λ first. nat_le first g) (b.first e) false) l) up)

  -- a counted gameweek is one from there on, up to the last that is locked, in which the entry has begun
  pub from_counted : (e s g : ℕ) → Among (counted_gameweeks b e s) g → (s ≤ g) × (g ≤ b.calendar.locked) × (has_begun b e g ≡ true)
  from_counted e s g a =
      let r = from_filter (has_begun b e) (gameweeks s b.calendar.locked) g a in
      let k = from_range s ((b.calendar.locked + 1) - s) g r.0 in
      (k.0, omega (arith, k.0, k.1), r.1)

  pub to_counted : (e s g : ℕ) → s ≤ g → g ≤ b.calendar.locked → has_begun b e g ≡ true → Among (counted_gameweeks b e s) g
  to_counted e s g low high begun = to_filter (has_begun b e) (gameweeks s b.calendar.locked) g
      (to_range s ((b.calendar.locked + 1) - s) g low (omega arith)) begun

  -- of a live total the entry has begun, and its gameweek is a start of the entry, and locked
  pub total_alive : (e s : ℕ) → is_live b (node.Total e s) ≡ true → (has_begun b e b.calendar.locked ≡ true) × (has_start b e s ≡ true) × (1 ≤ s) × (s ≤ b.calendar.locked)
  total_alive e s l =
      let starts = has_begun b e b.calendar.locked && has_start b e s in
      let locked = nat_le 1 s && nat_le s b.calendar.locked in
      let one = first_true starts locked l in
      let two = second_true starts locked l in (
        first_true (has_begun b e b.calendar.locked) (has_start b e s) one,
        second_true (has_begun b e b.calendar.locked) (has_start b e s) one,
        at_most 1 s (first_true (nat_le 1 s) (nat_le s b.calendar.locked) two),
        at_most s b.calendar.locked (second_true (nat_le 1 s) (nat_le s b.calendar.locked) two),
      )

  pub total_lives : (e s : ℕ) → has_begun b e b.calendar.locked ≡ true → has_start b e s ≡ true → 1 ≤ s → s ≤ b.calendar.locked → is_live b (node.Total e s) ≡ true
  total_lives e s begun starts low high =
      both_true (has_begun b e b.calendar.locked && has_start b e s) (nat_le 1 s && nat_le s b.calendar.locked)
      (both_true (has_begun b e b.calendar.locked) (has_start b e s) begun starts)
      (both_true (nat_le 1 s) (nat_le s b.calendar.locked) (within 1 s low) (within s b.calendar.locked high))

below : (h n : ℕ) → nat_lt h n ≡ true → h < n
below h n e = grind (arith, nat_tests)

pub below_test : (h n : ℕ) → h < n → nat_lt h n ≡ true
below_test h n e = grind (arith, nat_tests)

one_case : (t : Bool) (n m : Node) → Among (if t then n ∷ [] else []) m → (t ≡ true) × (n ≡ m)
one_case true n m (inl e) = (refl, e)
one_case true n m (inr a) = absurd a
one_case false n m a = absurd a

pub some_of : {X : Type 0} (o : Option X) → is_some o ≡ true → (x : X) × (o ≡ Some x)
some_of None e = absurd (cc)
some_of (Some x) e = (x, refl)

-- What the inputs of the nodes of head-to-head leagues are.
module _ (b : SeasonFacts) where
  -- a gameweek of an entry, if it is live
  pub from_team : (e g : ℕ) (m : Node) → Among (team_if b e g) m → (is_live b (node.TeamGw e g) ≡ true) × (node.TeamGw e g ≡ m)
  from_team e g m a = one_case (is_live b (node.TeamGw e g)) (node.TeamGw e g) m a

  pub to_team : (e g : ℕ) → is_live b (node.TeamGw e g) ≡ true → Among (team_if b e g) (node.TeamGw e g)
  to_team e g l = subst (λ t. Among (if t then node.TeamGw e g ∷ [] else []) (node.TeamGw e g)) (sym l) (inl refl)

  -- of an Average: the live gameweeks of those in the order
  pub from_average : (l g : ℕ) (m : Node) → Among (inputs_of b (node.Average l g)) m
      → (e : ℕ) × (Among (order_in b.leagues l) e × (is_live b (node.TeamGw e g) ≡ true) × (node.TeamGw e g ≡ m))
  from_average l g m a =
      let r = from_map (λ e. node.TeamGw e g) (filter (λ e. is_live b (node.TeamGw e g)) (order_in b.leagues l)) m a in
      let f = from_filter (λ e. is_live b (node.TeamGw e g)) (order_in b.leagues l) r.0 r.1.0 in
      (r.0, (f.0, f.1, r.1.1))

  pub to_average : (l g e : ℕ) → Among (order_in b.leagues l) e → is_live b (node.TeamGw e g) ≡ true → Among (inputs_of b (node.Average l g)) (node.TeamGw e g)
  to_average l g e a live =
      to_map (λ e. node.TeamGw e g) (filter (λ e. is_live b (node.TeamGw e g)) (order_in b.leagues l)) e
      (to_filter (λ e. is_live b (node.TeamGw e g)) (order_in b.leagues l) e a live)

  -- the live gameweek of who stands at a place
  abbrev pub IsOfPlace : ℕ → ℕ → ℕ → Node → Type 0
  IsOfPlace l g j m = (is_live b (node.TeamGw (slice_index (order_in b.leagues l) j) g) ≡ true) × (node.TeamGw (slice_index (order_in b.leagues l) j) g ≡ m)

  -- what a node is to an opponent: the live gameweek of a member, or the Average
  abbrev pub IsOfOpponent : ℕ → ℕ → Node → Opponent → Type 0
  IsOfOpponent l g m o = ((j : ℕ) × ((o ≡ Place j) × IsOfPlace l g j m)) ⊎ ((o ≡ Average) × (node.Average l g ≡ m))

  from_opponent : (l g : ℕ) (o : Opponent) (m : Node) → Among (opponent_inputs b l g o) m → IsOfOpponent l g m o
  from_opponent l g (Place j) m a = inl (j, (refl, from_team (slice_index (order_in b.leagues l) j) g m a))
  from_opponent l g Average m (inl e) = inr (refl, e)
  from_opponent l g Average m (inr a) = absurd a

  -- of a match: what is one of the place, and what is one of its opponent
  pub from_match : (l g i : ℕ) (m : Node) → Among (inputs_of b (node.Match l g i)) m → IsOfPlace l g i m ⊎ IsOfOpponent l g m (opponent_in b l g i)
  from_match l g i m a =
      let own = slice_index (order_in b.leagues l) i in
      ⊎_elim (λ x. inl (from_team own g m x)) (λ x. inr (from_opponent l g (opponent_in b l g i) m x))
      (among_either (team_if b own g) (opponent_inputs b l g (opponent_in b l g i)) m a)

  pub to_match_own : (l g i : ℕ) → is_live b (node.TeamGw (slice_index (order_in b.leagues l) i) g) ≡ true
      → Among (inputs_of b (node.Match l g i)) (node.TeamGw (slice_index (order_in b.leagues l) i) g)
  to_match_own l g i live =
      let own = slice_index (order_in b.leagues l) i in
      among_left (team_if b own g) (opponent_inputs b l g (opponent_in b l g i)) (node.TeamGw own g) (to_team own g live)

  pub to_match_met : (l g i j : ℕ) → opponent_in b l g i ≡ Place j → is_live b (node.TeamGw (slice_index (order_in b.leagues l) j) g) ≡ true
      → Among (inputs_of b (node.Match l g i)) (node.TeamGw (slice_index (order_in b.leagues l) j) g)
  to_match_met l g i j meets live =
      let other = slice_index (order_in b.leagues l) j in
      among_right (team_if b (slice_index (order_in b.leagues l) i) g) (opponent_inputs b l g (opponent_in b l g i)) (node.TeamGw other g)
      (subst (λ o. Among (opponent_inputs b l g o) (node.TeamGw other g)) (sym meets) (to_team other g live))

  pub to_match_average : (l g i : ℕ) → opponent_in b l g i ≡ Average → Among (inputs_of b (node.Match l g i)) (node.Average l g)
  to_match_average l g i meets =
      among_right (team_if b (slice_index (order_in b.leagues l) i) g) (opponent_inputs b l g (opponent_in b l g i)) (node.Average l g)
      (subst (λ o. Among (opponent_inputs b l g o) (node.Average l g)) (sym meets) (inl refl))

  -- of a live match: the league has a round, the place is one of the order, and below whom it meets
  pub match_alive : (l g i : ℕ) → is_live b (node.Match l g i) ≡ true → (has_round b l g ≡ true) × (i < length (order_in b.leagues l)) × (i < met_in b l g i)
  match_alive l g i l' =
      let low = second_true (has_round b l g) (is_lower b l g i) l' in (
        first_true (has_round b l g) (is_lower b l g i) l',
        below i (length (order_in b.leagues l)) (first_true (nat_lt i (length (order_in b.leagues l))) (nat_lt i (met_in b l g i)) low),
        below i (met_in b l g i) (second_true (nat_lt i (length (order_in b.leagues l))) (nat_lt i (met_in b l g i)) low),
      )

  pub match_lives : (l g i : ℕ) → has_round b l g ≡ true → i < length (order_in b.leagues l) → i < met_in b l g i → is_live b (node.Match l g i) ≡ true
  match_lives l g i round within low =
      both_true (has_round b l g) (is_lower b l g i) round
      (both_true (nat_lt i (length (order_in b.leagues l))) (nat_lt i (met_in b l g i)) (below_test i (length (order_in b.leagues l)) within) (below_test i (met_in b l g i) low))

  -- the match of a place of an order is live
  pub own_match_lives : (l i g : ℕ) → has_round b l g ≡ true → i < length (order_in b.leagues l) → is_live b (match_node b l i g) ≡ true
  own_match_lives l i g round within =
      let low = lower_is (length (order_in b.leagues l)) (g - start_in b.leagues l) i within in
      match_lives l g (lower_in b l g i) round low.0 low.1

  pub round_within : (l g : ℕ) → has_round b l g ≡ true → (start_in b.leagues l ≤ g) × (g ≤ b.calendar.locked)
  round_within l g round = (
    at_most (start_in b.leagues l) g (first_true (nat_le (start_in b.leagues l) g) (nat_le g b.calendar.locked) round),
    at_most g b.calendar.locked (second_true (nat_le (start_in b.leagues l) g) (nat_le g b.calendar.locked) round),
  )

  pub has_round_in : (l g : ℕ) → start_in b.leagues l ≤ g → g ≤ b.calendar.locked → has_round b l g ≡ true
  has_round_in l g low high =
      both_true (nat_le (start_in b.leagues l) g) (nat_le g b.calendar.locked) (within (start_in b.leagues l) g low) (within g b.calendar.locked high)

  -- of a row: the matches of a place in the gameweeks in which the league has a round
  abbrev pub IsOfRow : ℕ → ℕ → Node → ℕ → ℕ → Type 0
  IsOfRow l e m i g = (place_of (order_in b.leagues l) e ≡ Some i) × (has_round b l g ≡ true) × (match_node b l i g ≡ m)

  row_case : (l e : ℕ) (m : Node) (o : Option ℕ) → place_of (order_in b.leagues l) e ≡ o → Among (option_map_or (match_nodes b l) o []) m → (i : ℕ) × ((g : ℕ) × IsOfRow l e m i g)
  row_case l e m None is a = absurd a
  row_case l e m (Some i) is a =
      let r = from_map (match_node b l i) (gameweeks (start_in b.leagues l) b.calendar.locked) m a in
      let k = from_range (start_in b.leagues l) ((b.calendar.locked + 1) - start_in b.leagues l) r.0 r.1.0 in
      (i, (r.0, (is, has_round_in l r.0 k.0 (omega (arith, k.0, k.1)), r.1.1)))

  pub from_row : (l e : ℕ) (m : Node) → Among (inputs_of b (node.HeadRow l e)) m → (i : ℕ) × ((g : ℕ) × IsOfRow l e m i g)
  from_row l e m a = row_case l e m (place_of (order_in b.leagues l) e) refl a

  pub to_row : (l e i g : ℕ) → place_of (order_in b.leagues l) e ≡ Some i → has_round b l g ≡ true → Among (inputs_of b (node.HeadRow l e)) (match_node b l i g)
  to_row l e i g place round =
      let k = round_within l g round in
      subst (λ o. Among (option_map_or (match_nodes b l) o []) (match_node b l i g)) (sym place)
      (to_map (match_node b l i) (gameweeks (start_in b.leagues l) b.calendar.locked) g
      (to_range (start_in b.leagues l) ((b.calendar.locked + 1) - start_in b.leagues l) g k.0 (omega (arith, k.0, k.1))))

-- What the inputs of ties are.
module _ (b : SeasonFacts) where
  -- of a tie: one of the two of the round before
  abbrev pub IsBefore : ℕ → ℕ → ℕ → Node → ℕ → Type 0
  IsBefore c r i m k = (suc k ≡ r) × ((node.Tie c k (2 * i) ≡ m) ⊎ (node.Tie c k (2 * i + 1) ≡ m))

  pub from_before : (c r i : ℕ) (m : Node) → Among (ties_before b c r i) m → (k : ℕ) × IsBefore c r i m k
  from_before c zero i m a = absurd a
  from_before c (suc k) i m (inl e) = (k, (refl, inl e))
  from_before c (suc k) i m (inr (inl e)) = (k, (refl, inr e))
  from_before c (suc k) i m (inr (inr a)) = absurd a

  -- or the live gameweek of one who can reach it
  abbrev pub IsOfEntrant : ℕ → ℕ → ℕ → Node → ℕ → Type 0
  IsOfEntrant c r i m e = Among (part_of (bracket_of b c) r i) e × (is_live b (node.TeamGw e (round_of b c r)) ≡ true) × (node.TeamGw e (round_of b c r) ≡ m)

  pub from_entrants : (c r i : ℕ) (m : Node) → Among (entrant_inputs b c r i) m → (e : ℕ) × IsOfEntrant c r i m e
  from_entrants c r i m a =
      let x = from_flat (λ e. team_if b e (round_of b c r)) (part_of (bracket_of b c) r i) m a in
      let t = from_team b x.0 (round_of b c r) m x.1.1 in
      (x.0, (x.1.0, t.0, t.1))

  pub from_tie : (c r i : ℕ) (m : Node) → Among (inputs_of b (node.Tie c r i)) m → ((k : ℕ) × IsBefore c r i m k) ⊎ ((e : ℕ) × IsOfEntrant c r i m e)
  from_tie c r i m a = ⊎_elim (λ x. inl (from_before c r i m x)) (λ x. inr (from_entrants c r i m x)) (among_either (ties_before b c r i) (entrant_inputs b c r i) m a)

  pub to_tie : (c r i e : ℕ) → Among (part_of (bracket_of b c) r i) e → is_live b (node.TeamGw e (round_of b c r)) ≡ true → Among (inputs_of b (node.Tie c r i)) (node.TeamGw e (round_of b c r))
  to_tie c r i e a alive =
      among_right (ties_before b c r i) (entrant_inputs b c r i) (node.TeamGw e (round_of b c r))
      (to_flat (λ k. team_if b k (round_of b c r)) (part_of (bracket_of b c) r i) e (node.TeamGw e (round_of b c r)) a (to_team b e (round_of b c r) alive))

  -- of a live tie: its gameweek is locked, and it is one of its round
  pub tie_alive : (c r i : ℕ) → is_live b (node.Tie c r i) ≡ true → (round_of b c r ≤ b.calendar.locked) × (i < ties_after (bracket_of b c) r)
  tie_alive c r i alive =
      let test = nat_lt i (ties_after (bracket_of b c) r) in (
        at_most (round_of b c r) b.calendar.locked (first_true (is_played b c r) test alive),
        below i (ties_after (bracket_of b c) r) (second_true (is_played b c r) test alive),
      )

  pub tie_lives : (c r i : ℕ) → round_of b c r ≤ b.calendar.locked → i < ties_after (bracket_of b c) r → is_live b (node.Tie c r i) ≡ true
  tie_lives c r i played low =
      both_true (is_played b c r) (nat_lt i (ties_after (bracket_of b c) r)) (within (round_of b c r) b.calendar.locked played) (below_test i (ties_after (bracket_of b c) r) low)

  -- and the two that lead to it are live
  pub before_lives : (c k i : ℕ) → is_live b (node.Tie c (suc k) i) ≡ true → (is_live b (node.Tie c k (2 * i)) ≡ true) × (is_live b (node.Tie c k (2 * i + 1)) ≡ true)
  before_lives c k i alive =
      let is = tie_alive c (suc k) i alive in
      let both = both_before (length (bracket_of b c).slots) k i is.1 in
      let played : round_of b c k ≤ b.calendar.locked = omega (arith, is.0) in
      (tie_lives c k (2 * i) played both.0, tie_lives c k (2 * i + 1) played both.1)

  side_case : (t : Bool) (x y : Side) → (t ≡ true → x ≡ y) → (if t then x else no_side) ≡ (if t then y else no_side)
  side_case true x y e = e refl
  side_case false x y e = refl

  pub side_local : (v u : Node → Option Value) (e g : ℕ) → (is_live b (node.TeamGw e g) ≡ true → v (node.TeamGw e g) ≡ u (node.TeamGw e g)) → side_by b v e g ≡ side_by b u e g
  side_local v u e g same = side_case (is_live b (node.TeamGw e g)) (side_held (v (node.TeamGw e g))) (side_held (u (node.TeamGw e g))) (λ y. ap side_held (same y))

  among_local : (v u : Node → Option Value) (c r i : ℕ) → ((m : Node) → Among (inputs_of b (node.Tie c r i)) m → v m ≡ u m) → (e : ℕ) → side_among b v c r i e ≡ side_among b u c r i e
  among_local v u c r i same e =
      side_case (is_in (part_of (bracket_of b c) r i) e) (side_by b v e (round_of b c r)) (side_by b u e (round_of b c r))
      (λ y. side_local v u e (round_of b c r)
      (λ alive. same (node.TeamGw e (round_of b c r)) (to_tie c r i e (in_slots (part_of (bracket_of b c) r i) e y) alive)))

  first_local : (v u : Node → Option Value) (c r i : ℕ) → ((m : Node) → Among (ties_before b c r i) m → v m ≡ u m) → comer_by b v c r (2 * i) ≡ comer_by b u c r (2 * i)
  first_local v u c zero i same = refl
  first_local v u c (suc r) i same = ap winner_held (same (node.Tie c r (2 * i)) (inl refl))

  second_local : (v u : Node → Option Value) (c r i : ℕ) → ((m : Node) → Among (ties_before b c r i) m → v m ≡ u m) → comer_by b v c r (2 * i + 1) ≡ comer_by b u c r (2 * i + 1)
  second_local v u c zero i same = refl
  second_local v u c (suc r) i same = ap winner_held (same (node.Tie c r (2 * i + 1)) (inr (inl refl)))

  pub tie_local : (v u : Node → Option Value) (c r i : ℕ) → ((m : Node) → Among (inputs_of b (node.Tie c r i)) m → v m ≡ u m) → tie_by b v c r i ≡ tie_by b u c r i
  tie_local v u c r i same =
      let before : (m : Node) → Among (ties_before b c r i) m → v m ≡ u m = λ m a. same m (among_left (ties_before b c r i) (entrant_inputs b c r i) m a) in
      let first = first_local v u c r i before in
      let second = second_local v u c r i before in
      let sides = among_local v u c r i same in
      λ j. goes_through (first j) (second j) (λ e. sides e j) (coin_after (bracket_of b c) r i)

module _ (b : SeasonFacts) (is : IsSeason b) where
  live : (n m : Node) → is_live b n ≡ true → Among (inputs_of b n) m → is_live b m ≡ true
  live (node.Line f p) m l a = absurd a
  live (node.Bonus f) m l a =
      let r = from_map (node.Line f) (players_of b f) m a in
      subst (λ q. is_live b q ≡ true) r.1.1 (listed_has (lines_of b.matches f) r.0 r.1.0)
  live (node.PlayerGw p g) m l a = pick (from_flat (λ f. node.Line f p ∷ node.Bonus f ∷ []) (fixtures_of b p g) m a)
    where
      pick : (f : ℕ) × (Among (fixtures_of b p g) f × Among (node.Line f p ∷ node.Bonus f ∷ []) m) → is_live b m ≡ true
      pick r =
          let has : has_line b p r.0 ≡ true = (from_filter (has_line b p) (standing b.calendar g) r.0 r.1.0).1 in
          ⊎_elim (λ e. subst (λ q. is_live b q ≡ true) e has)
          (⊎_elim (λ e. subst (λ q. is_live b q ≡ true) e (has_some (lines_of b.matches r.0) p has)) (λ x. absurd x)) r.1.1
  live (node.TeamGw k g) m l a =
      let r = from_map (λ p. node.PlayerGw p g) (fielded_in b k g) m a in
      subst (λ q. is_live b q ≡ true) r.1.1
      (both_true (is_there b r.0) (nat_le 1 g && nat_le g b.calendar.locked)
      (from_filter (is_there b) (fifteen_of b k g) r.0 r.1.0).1
      (second_true (has_begun b k g) (nat_le 1 g && nat_le g b.calendar.locked) l))
  live (node.Total e s) m l a =
      let r = from_map (node.TeamGw e) (counted_gameweeks b e s) m a in
      let c = from_counted b e s r.0 r.1.0 in
      let alive = total_alive b e s l in
      subst (λ q. is_live b q ≡ true) r.1.1
      (both_true (has_begun b e r.0) (nat_le 1 r.0 && nat_le r.0 b.calendar.locked) c.2
      (both_true (nat_le 1 r.0) (nat_le r.0 b.calendar.locked) (within 1 r.0 (omega (arith, c.0, alive.2))) (within r.0 b.calendar.locked c.1)))
  live (node.Average l g) m alive a =
      let r = from_average b l g m a in
      subst (λ q. is_live b q ≡ true) r.1.2 r.1.1
  live (node.Match l g i) m alive a =
      let is_one = match_alive b l g i alive in
      let n = length (order_in b.leagues l) in
      ⊎_elim (λ own. subst (λ q. is_live b q ≡ true) own.1 own.0)
      (⊎_elim (λ met. subst (λ q. is_live b q ≡ true) met.1.1.1 met.1.1.0)
      (λ average. subst (λ q. is_live b q ≡ true) average.1
      (both_true (has_round b l g) (has_average n) is_one.0 (met_average n (g - start_in b.leagues l) i is_one.1 average.0))))
      (from_match b l g i m a)
  live (node.HeadRow l e) m alive a =
      let r = from_row b l e m a in
      subst (λ q. is_live b q ≡ true) r.1.1.2
      (own_match_lives b l r.0 r.1.0 r.1.1.1 (at_place (order_in b.leagues l) e r.0 r.1.1.0).0)
  live (node.Tie c r i) m alive a =
      ⊎_elim
      (λ x. let one = before_lives b c x.0 i (subst (λ k. is_live b (node.Tie c k i) ≡ true) (sym x.1.0) alive) in
      ⊎_elim (λ e. subst (λ q. is_live b q ≡ true) e one.0) (λ e. subst (λ q. is_live b q ≡ true) e one.1) x.1.1)
      (λ x. subst (λ q. is_live b q ≡ true) x.1.2 x.1.1)
      (from_tie b c r i m a)

  lower : (n m : Node) → is_live b n ≡ true → Among (inputs_of b n) m → level_of m < level_of n
  lower (node.Line f p) m l a = absurd a
  lower (node.Bonus f) m l a = let r = from_map (node.Line f) (players_of b f) m a in subst (λ q. level_of q < 1) r.1.1 (omega arith)
  lower (node.PlayerGw p g) m l a =
      let r = from_flat (λ f. node.Line f p ∷ node.Bonus f ∷ []) (fixtures_of b p g) m a in
      ⊎_elim (λ e. subst (λ q. level_of q < 2) e (omega arith)) (⊎_elim (λ e. subst (λ q. level_of q < 2) e (omega arith)) (λ x. absurd x)) r.1.1
  lower (node.TeamGw k g) m l a = let r = from_map (λ p. node.PlayerGw p g) (fielded_in b k g) m a in subst (λ q. level_of q < 3) r.1.1 (omega arith)
  lower (node.Total e s) m l a = let r = from_map (node.TeamGw e) (counted_gameweeks b e s) m a in subst (λ q. level_of q < 4) r.1.1 (omega arith)
  lower (node.Average l g) m alive a = let r = from_average b l g m a in subst (λ q. level_of q < 4) r.1.2 (omega arith)
  lower (node.Match l g i) m alive a =
      ⊎_elim (λ own. subst (λ q. level_of q < 5) own.1 (omega arith))
      (⊎_elim (λ met. subst (λ q. level_of q < 5) met.1.1.1 (omega arith)) (λ average. subst (λ q. level_of q < 5) average.1 (omega arith)))
      (from_match b l g i m a)
  lower (node.HeadRow l e) m alive a = let r = from_row b l e m a in subst (λ q. level_of q < 6) r.1.1.2 (omega arith)
  lower (node.Tie c r i) m alive a =
      ⊎_elim
      (λ x. let up : 4 + x.0 < 4 + r = omega (arith, x.1.0) in
      ⊎_elim (λ e. subst (λ q. level_of q < 4 + r) e up) (λ e. subst (λ q. level_of q < 4 + r) e up) x.1.1)
      (λ x. let up : 3 < 4 + r = omega arith in subst (λ q. level_of q < 4 + r) x.1.2 up)
      (from_tie b c r i m a)

  took_part_local : (w x : ℕ → LineWorth) (ps : List ℕ) → ((p : ℕ) → Among ps p → w p ≡ x p) → took_part w ps ≡ took_part x ps
  took_part_local w x ps e =
      ap (map (λ p. (p, (w p).bps))) (filter_local (λ p. nat_le 1 (w p).minutes) (λ p. nat_le 1 (x p).minutes) ps (λ p a. ap (λ k. nat_le 1 k.minutes) (e p a)))
      ∙ map_local (λ p. (p, (w p).bps)) (λ p. (p, (x p).bps)) (filter (λ p. nat_le 1 (x p).minutes) ps)
      (λ p a. ap (λ k. (p, k.bps)) (e p (from_filter (λ p. nat_le 1 (x p).minutes) ps p a).0))

  gathered_local : (w x : ℕ → LineWorth) (u v : ℕ → ℕ) (fs : List ℕ) → ((f : ℕ) → Among fs f → w f ≡ x f) → ((f : ℕ) → Among fs f → u f ≡ v f) → gathered w u fs ≡ gathered x v fs
  gathered_local w x u v fs e d = fold_local (λ figures f. with_worth figures (w f) (u f)) (λ figures f. with_worth figures (x f) (v f)) no_figures fs
      (λ figures f a. ap₂ (with_worth figures) (e f a) (d f a))

  fielded_local : (t : Bool) (x y : Figures) → (t ≡ true → x ≡ y) → (if t then x else no_figures) ≡ (if t then y else no_figures)
  fielded_local true x y e = e refl
  fielded_local false x y e = refl

  net_case : (t : Bool) (x y : ℤ) → (t ≡ true → x ≡ y) → (if t then x else pos 0) ≡ (if t then y else pos 0)
  net_case true x y e = e refl
  net_case false x y e = refl

  net_local : (v u : Node → Option Value) (e g : ℕ) → (is_live b (node.TeamGw e g) ≡ true → v (node.TeamGw e g) ≡ u (node.TeamGw e g)) → net_by b v e g ≡ net_by b u e g
  net_local v u e g same = net_case (is_live b (node.TeamGw e g)) (net_held (v (node.TeamGw e g))) (net_held (u (node.TeamGw e g))) (λ y. ap net_held (same y))

  points_local : (v u : Node → Option Value) (l g : ℕ) (o : Opponent) → ((m : Node) → Among (opponent_inputs b l g o) m → v m ≡ u m) → points_by b v l g o ≡ points_by b u l g o
  points_local v u l g (Place j) same =
      let other = slice_index (order_in b.leagues l) j in
      net_local v u other g (λ y. same (node.TeamGw other g) (to_team b other g y))
  points_local v u l g Average same = ap average_held (same (node.Average l g) (inl refl))

  row_local : (v u : Node → Option Value) (l : ℕ) (o : Option ℕ) → ((m : Node) → Among (option_map_or (match_nodes b l) o []) m → v m ≡ u m)
      → option_map_or (matches_by b v l) o [] ≡ option_map_or (matches_by b u l) o []
  row_local v u l None same = refl
  row_local v u l (Some i) same =
      let those = gameweeks (start_in b.leagues l) b.calendar.locked in
      map_local (seen_by b v l i) (seen_by b u l i) those
      (λ g a. ap (λ o. seen_from (nat_lt i (met_in b l g i)) (scores_held o)) (same (match_node b l i g) (to_map (match_node b l i) those g a)))

  local : (n : Node) → is_live b n ≡ true → (v u : Node → Option Value) → ((m : Node) → Among (inputs_of b n) m → v m ≡ u m) → own_value b n v ≡ own_value b n u
  local (node.Line f p) l v u e = refl
  local (node.Bonus f) l v u e = ap (λ t. value.Bonus (if is_finished b.matches f then with_bonus t else []))
      (took_part_local (λ p. worth_in (v (node.Line f p))) (λ p. worth_in (u (node.Line f p))) (players_of b f)
      (λ p a. ap worth_in (e (node.Line f p) (to_map (node.Line f) (players_of b f) p a))))
  local (node.PlayerGw p g) l v u e =
      let both : ℕ → List Node = λ f. node.Line f p ∷ node.Bonus f ∷ [] in
      ap value.PlayerGw (gathered_local
      (λ f. worth_in (v (node.Line f p))) (λ f. worth_in (u (node.Line f p)))
      (λ f. unwrap_or (at_id (bonuses_in (v (node.Bonus f))) p) 0) (λ f. unwrap_or (at_id (bonuses_in (u (node.Bonus f))) p) 0)
      (fixtures_of b p g)
      (λ f a. ap worth_in (e (node.Line f p) (to_flat both (fixtures_of b p g) f (node.Line f p) a (inl refl))))
      (λ f a. ap (λ o. unwrap_or (at_id (bonuses_in o) p) 0) (e (node.Bonus f) (to_flat both (fixtures_of b p g) f (node.Bonus f) a (inr (inl refl))))))
  local (node.TeamGw k g) l v u e = ap (λ figures. value.TeamGw (score_of (b.team k g) figures (ended b g) (b.cost k g)))
      (map_local (λ pick. if is_there b pick.player then figures_held (v (node.PlayerGw pick.player g)) else no_figures) (λ pick. if is_there b pick.player then figures_held (u (node.PlayerGw pick.player g)) else no_figures) (b.team k g).picks
      (λ pick a. fielded_local (is_there b pick.player) (figures_held (v (node.PlayerGw pick.player g))) (figures_held (u (node.PlayerGw pick.player g)))
      (λ y. ap figures_held (e (node.PlayerGw pick.player g) (to_map (λ p. node.PlayerGw p g) (fielded_in b k g) pick.player
      (to_filter (is_there b) (fifteen_of b k g) pick.player (to_map (λ x. x.player) (b.team k g).picks pick a) y))))))
  local (node.Total k s) l v u e = ap (λ nets. value.Total (total_of nets))
      (map_local (λ g. net_held (v (node.TeamGw k g))) (λ g. net_held (u (node.TeamGw k g))) (counted_gameweeks b k s)
      (λ g a. ap net_held (e (node.TeamGw k g) (to_map (node.TeamGw k) (counted_gameweeks b k s) g a))))
  local (node.Average l g) alive v u e = ap (λ nets. value.Average (mean_of nets))
      (map_local (λ k. net_by b v k g) (λ k. net_by b u k g) (order_in b.leagues l)
      (λ k a. net_local v u k g (λ y. e (node.TeamGw k g) (to_average b l g k a y))))
  local (node.Match l g i) alive v u e =
      let own = slice_index (order_in b.leagues l) i in
      let those = opponent_inputs b l g (opponent_in b l g i) in
      ap₂ (λ x y. value.Match (x, y))
      (net_local v u own g (λ y. e (node.TeamGw own g) (to_match_own b l g i y)))
      (points_local v u l g (opponent_in b l g i) (λ m a. e m (among_right (team_if b own g) those m a)))
  local (node.HeadRow l k) alive v u e = ap (λ matches. value.HeadRow (head_score matches)) (row_local v u l (place_of (order_in b.leagues l) k) e)
  local (node.Tie c r i) alive v u e = ap value.Tie (tie_local b v u c r i e)

  pub season_lawful : IsGraph (season_graph b)
  season_lawful = record { inputs_live = live; inputs_lower = lower; local = local }
