-- The averages, the matches and the rows of head-to-head leagues: which a change keeps, and what is listed of them.
use Rattle.std.proofs.Common.{◌≡◌, ℕ, zero, suc, ◌+◌, ◌-◌, ◌<◌, ◌≤◌, ◌==◌, nat_le, nat_lt, Bool, true, false, ◌&&◌, if◌then◌else◌, ◌⊎◌, inl, inr, ⊎_elim, List, [], ◌∷◌, ◌++◌, pos, Option, Some, None, is_some, length, map, refl, sym, ◌∙◌, ap, ap₂, subst, arith}
use Rattle.std.specs.List.{range_with_len, slice_get, slice_index}
use Rattle.std.specs.Option.{option_map, option_map_or}
use Rattle.std.proofs.lemmas.Bool.Decides.{leb_tells}
use Rattle.std.proofs.lemmas.Option.{slice_get_past}
use Rattle.rule_book.specs.Entries.{entry_in}
use Rattle.rule_book.specs.LeagueRows.{average_in, place_of}
use Rattle.rule_book.specs.Leagues.{LeagueFacts}
use Rattle.rule_book.specs.Opponents.{mean_of, opponent_of}
use Rattle.rule_book.specs.Totals.{gameweeks}
use Rattle.rule_book.specs.declared.pairing.Opponent.{Opponent}
use Rattle.rule_book.specs.declared.pairing.Opponent.TheVariants.{Place, Average}
use Rattle.rescore_graph.specs.Graph.{Among}
use Rattle.season_graph.specs.Changes.{EntriesStay, IsKept, SameBegan}
use Rattle.season_nodes.specs.declared.nodes.Node.{Node}
use Rattle.season_nodes.specs.declared.nodes.Node.TheVariants as node
use Rattle.season_nodes.specs.declared.nodes.Value.{Value}
use Rattle.season_nodes.specs.Dependents.{average_if}
use Rattle.season_nodes.specs.Places.{among_at, at_place}
use Rattle.season_nodes.specs.Reading.{among_either, among_left, among_right, from_flat, from_map, from_range, map_local, to_flat, to_map, to_range}
use Rattle.season_nodes.specs.RoundLaws.{met_place}
use Rattle.season_nodes.specs.Rounds.{has_average, met, order_in, start_in}
use Rattle.season_nodes.specs.Season.{SeasonFacts, has_round, inputs_of, is_live, match_by, net_by, net_held, opponent_in, opponent_inputs, points_by, average_by, team_if}
use Rattle.season_nodes.specs.SeasonLaws.{first_true, from_average, match_alive, round_within, second_true, some_of, to_average}
use Rattle.season_graph.specs.Touched.{head_nodes, league_start, round_nodes, rounds_since, row_nodes}
use Rattle.season_graph.proofs.TeamFacts.{team_live}

clash : true ≡ false → ⊥
clash e = cc

-- Leagues in which the order and the start of one are the same.
module _ (b d : SeasonFacts) (l : ℕ) (order : order_in b.leagues l ≡ order_in d.leagues l) where
  -- what those in the order have
  module _ (g : ℕ) (same : SameBegan b d l g) where
    net_same : (v : Node → Option Value) (e : ℕ) → Among (order_in d.leagues l) e → net_by b v e g ≡ net_by d v e g
    net_same v e a = ap (λ t. if t then net_held (v (node.TeamGw e g)) else pos 0) (same e a)

    team_same : (e : ℕ) → Among (order_in d.leagues l) e → team_if b e g ≡ team_if d e g
    team_same e a = ap (λ t. if t then node.TeamGw e g ∷ [] else []) (same e a)

    -- the Average reads the same
    pub average_reads : (m : Node) → Among (inputs_of d (node.Average l g)) m → Among (inputs_of b (node.Average l g)) m
    average_reads m a =
        let r = from_average d l g m a in
        subst (λ n. Among (inputs_of b (node.Average l g)) n) r.1.2
        (to_average b l g r.0 (subst (λ es. Among es r.0) (sym order) r.1.0) (same r.0 r.1.0 ∙ r.1.1))

    pub average_alike : (v : Node → Option Value) → average_by b v l g ≡ average_by d v l g
    average_alike v =
        ap (λ es. average_in (net_by b v) es g) order
        ∙ ap mean_of (map_local (λ e. net_by b v e g) (λ e. net_by d v e g) (order_in d.leagues l) (λ e a. net_same v e a))

    place_same : (v : Node → Option Value) (i : ℕ) → i < length (order_in d.leagues l)
        → net_by b v (slice_index (order_in b.leagues l) i) g ≡ net_by d v (slice_index (order_in d.leagues l) i) g
    place_same v i within =
        ap (λ es. net_by b v (slice_index es i) g) order
        ∙ net_same v (slice_index (order_in d.leagues l) i) (among_at (order_in d.leagues l) i within)

    team_at : (i : ℕ) → i < length (order_in d.leagues l) → team_if b (slice_index (order_in b.leagues l) i) g ≡ team_if d (slice_index (order_in d.leagues l) i) g
    team_at i within =
        ap (λ es. team_if b (slice_index es i) g) order
        ∙ team_same (slice_index (order_in d.leagues l) i) (among_at (order_in d.leagues l) i within)

    module _ (start : start_in b.leagues l ≡ start_in d.leagues l) (i : ℕ) (within : i < length (order_in d.leagues l)) where
      meets_same : opponent_in b l g i ≡ opponent_in d l g i
      meets_same = λ x. opponent_of (length (order x)) (g - start x) i

      inputs_case : (o : Opponent) → opponent_in d l g i ≡ o → opponent_inputs b l g o ≡ opponent_inputs d l g o
      inputs_case (Place j) is = team_at j (met_place (length (order_in d.leagues l)) (g - start_in d.leagues l) i j within is).0
      inputs_case Average is = refl

      points_case : (v : Node → Option Value) (o : Opponent) → opponent_in d l g i ≡ o → points_by b v l g o ≡ points_by d v l g o
      points_case v (Place j) is = place_same v j (met_place (length (order_in d.leagues l)) (g - start_in d.leagues l) i j within is).0
      points_case v Average is = refl

      -- a match reads the same
      pub match_reads : inputs_of b (node.Match l g i) ≡ inputs_of d (node.Match l g i)
      match_reads = ap₂ (λ xs ys. xs ++ ys) (team_at i within) (ap (opponent_inputs b l g) meets_same ∙ inputs_case (opponent_in d l g i) refl)

      pub match_alike : (v : Node → Option Value) → match_by b v l g i ≡ match_by d v l g i
      match_alike v = ap₂ (λ x y. (x, y)) (place_same v i within) (ap (points_by b v l g) meets_same ∙ points_case v (opponent_in d l g i) refl)

  -- the nodes of the league are kept where the entries are as they were
  module _ (stay : EntriesStay b d) (start : start_in b.leagues l ≡ start_in d.leagues l) where
    pub average_kept : (g : ℕ) → nat_le g b.calendar.locked ≡ nat_le g d.calendar.locked → IsKept b d (node.Average l g)
    average_kept g locked = (
      (λ x. (nat_le (start x) g && locked x) && has_average (length (order x))),
      λ live. (order, λ e a. team_live b d stay e g locked),
    )

    pub match_kept : (g i : ℕ) → nat_le g b.calendar.locked ≡ nat_le g d.calendar.locked → IsKept b d (node.Match l g i)
    match_kept g i locked = (
      (λ x. (nat_le (start x) g && locked x) && (nat_lt i (length (order x)) && nat_lt i (met (length (order x)) (g - start x) i))),
      λ live. (order, start, λ e a. team_live b d stay e g locked),
    )

    pub row_kept : (e : ℕ) → gameweeks (start_in b.leagues l) b.calendar.locked ≡ gameweeks (start_in d.leagues l) d.calendar.locked → IsKept b d (node.HeadRow l e)
    row_kept e weeks = ((λ x. is_some (place_of (order x) e)), λ live. (order, start, weeks))

-- so where the leagues are the same, and as many gameweeks are locked
module _ (b d : SeasonFacts) (stay : EntriesStay b d) (locked : b.calendar.locked ≡ d.calendar.locked) (leagues : b.leagues ≡ d.leagues) where
  pub average_stays : (l g : ℕ) → IsKept b d (node.Average l g)
  average_stays l g = average_kept b d l (λ x. order_in (leagues x) l) stay (λ x. start_in (leagues x) l) g (ap (nat_le g) locked)

  pub match_stays : (l g i : ℕ) → IsKept b d (node.Match l g i)
  match_stays l g i = match_kept b d l (λ x. order_in (leagues x) l) stay (λ x. start_in (leagues x) l) g i (ap (nat_le g) locked)

  pub row_stays : (l e : ℕ) → IsKept b d (node.HeadRow l e)
  row_stays l e = row_kept b d l (λ x. order_in (leagues x) l) stay (λ x. start_in (leagues x) l) e (λ x. gameweeks (start_in (leagues x) l) (locked x))

-- Where they are listed.

has_some_average : (n : ℕ) → has_average n ≡ true → 0 < n
has_some_average zero e = absurd (clash (sym e))
has_some_average (suc n) e = omega arith

module _ (d : SeasonFacts) where
  -- the Average and the matches of a round
  average_listed : (l g : ℕ) → is_live d (node.Average l g) ≡ true → Among (round_nodes d l g) (node.Average l g)
  average_listed l g live =
      let plays = second_true (has_round d l g) (has_average (length (order_in d.leagues l))) live in
      among_left (average_if d l g) (map (node.Match l g) (range_with_len 0 (length (order_in d.leagues l)))) (node.Average l g)
      (subst (λ t. Among (if t then node.Average l g ∷ [] else []) (node.Average l g)) (sym plays) (inl refl))

  match_listed : (l g i : ℕ) → is_live d (node.Match l g i) ≡ true → Among (round_nodes d l g) (node.Match l g i)
  match_listed l g i live =
      let alive = match_alive d l g i live in
      let n = length (order_in d.leagues l) in
      among_right (average_if d l g) (map (node.Match l g) (range_with_len 0 n)) (node.Match l g i)
      (to_map (node.Match l g) (range_with_len 0 n) i (to_range 0 n i (omega arith) (omega (arith, alive.1))))

  pub row_listed : (l e : ℕ) → is_live d (node.HeadRow l e) ≡ true → Among (row_nodes d l) (node.HeadRow l e)
  row_listed l e live =
      let place = some_of (place_of (order_in d.leagues l) e) live in
      let there = at_place (order_in d.leagues l) e place.0 place.1 in
      to_map (node.HeadRow l) (order_in d.leagues l) e (subst (Among (order_in d.leagues l)) there.1 (among_at (order_in d.leagues l) place.0 there.0))

  in_rounds : (l from g : ℕ) (m : Node) → from ≤ g → g ≤ d.calendar.locked → Among (round_nodes d l g) m → Among (rounds_since d l from) m
  in_rounds l from g m low high a =
      to_flat (round_nodes d l) (gameweeks from d.calendar.locked) g m
      (to_range from ((d.calendar.locked + 1) - from) g low (omega (arith, low, high))) a

  -- a live one is among those from a gameweek on
  pub average_since : (l from g : ℕ) → from ≤ g → is_live d (node.Average l g) ≡ true → Among (rounds_since d l from) (node.Average l g)
  average_since l from g low live =
      in_rounds l from g (node.Average l g) low (round_within d l g (first_true (has_round d l g) (has_average (length (order_in d.leagues l))) live)).1 (average_listed l g live)

  pub match_since : (l from g i : ℕ) → from ≤ g → is_live d (node.Match l g i) ≡ true → Among (rounds_since d l from) (node.Match l g i)
  match_since l from g i low live = in_rounds l from g (node.Match l g i) low (round_within d l g (match_alive d l g i live).0).1 (match_listed l g i live)

  -- and what is listed there is of such a gameweek
  pub from_since : (l from : ℕ) (m : Node) → Among (rounds_since d l from) m
      → (g : ℕ) × ((from ≤ g) × ((node.Average l g ≡ m) ⊎ ((i : ℕ) × (node.Match l g i ≡ m))))
  from_since l from m a =
      let r = from_flat (round_nodes d l) (gameweeks from d.calendar.locked) m a in
      let k = from_range from ((d.calendar.locked + 1) - from) r.0 r.1.0 in
      let places = range_with_len 0 (length (order_in d.leagues l)) in (
        r.0,
        (
          k.0,
          ⊎_elim
              (λ x. inl (one_of (has_average (length (order_in d.leagues l))) (node.Average l r.0) x))
              (λ x. let i = from_map (node.Match l r.0) places m x in inr (i.0, i.1.1))
              (among_either (average_if d l r.0) (map (node.Match l r.0) places) m r.1.1),
        ),
      )
    where
      one_of : (t : Bool) (n : Node) → Among (if t then n ∷ [] else []) m → n ≡ m
      one_of true n (inl e) = e
      one_of true n (inr x) = absurd x
      one_of false n x = absurd x

  -- a league in the order of which somebody stands is there
  start_case : (o : Option LeagueFacts) → 0 < length (option_map_or (λ league. league.order) o []) → option_map (λ league. league.start) o ≡ Some (option_map_or (λ league. league.start) o 0)
  start_case None some = absurd (omega (arith, some))
  start_case (Some league) some = refl

  pub starts_there : (l : ℕ) → 0 < length (order_in d.leagues l) → league_start d.leagues l ≡ Some (start_in d.leagues l)
  starts_there l some = start_case (entry_in d.leagues l) some

  entry_case : (leagues : List LeagueFacts) (l : ℕ) (t : Bool) → (l == 0) ≡ t → is_some (if t then None else slice_get leagues (l - 1)) ≡ true → (1 ≤ l) × (l ≤ length leagues)
  entry_case leagues l true e some = absurd (clash (sym some))
  entry_case leagues zero false e some = absurd (clash e)
  entry_case leagues (suc l) false e some = (omega arith, inside)
    where
      inside : suc l ≤ length leagues
      inside = ⊎_elim
          (λ a. let x : length leagues ≤ l = a.1 in
          let same : suc l - 1 ≡ l = omega arith in
          absurd (clash (sym some ∙ ap (λ k. is_some (slice_get leagues k)) same ∙ ap is_some (slice_get_past leagues l x))))
          (λ a. let x : l < length leagues = a.1 in omega (arith, x))
          (leb_tells (length leagues) l)

  some_case : (o : Option LeagueFacts) → 0 < length (option_map_or (λ league. league.order) o []) → is_some o ≡ true
  some_case None some = absurd (omega (arith, some))
  some_case (Some league) some = refl

  -- and has one of the numbers
  pub numbered_league : (l : ℕ) → 0 < length (order_in d.leagues l) → (1 ≤ l) × (l ≤ length d.leagues)
  numbered_league l some = entry_case d.leagues l (l == 0) refl (some_case (entry_in d.leagues l) some)

  -- somebody stands in the order of a league of which something is live
  pub average_drawn : (l g : ℕ) → is_live d (node.Average l g) ≡ true → 0 < length (order_in d.leagues l)
  average_drawn l g live = has_some_average (length (order_in d.leagues l)) (second_true (has_round d l g) (has_average (length (order_in d.leagues l))) live)

  pub match_drawn : (l g i : ℕ) → is_live d (node.Match l g i) ≡ true → 0 < length (order_in d.leagues l)
  match_drawn l g i live = let within = (match_alive d l g i live).1 in omega (arith, within)

  pub row_drawn : (l e : ℕ) → is_live d (node.HeadRow l e) ≡ true → 0 < length (order_in d.leagues l)
  row_drawn l e live =
      let place = some_of (place_of (order_in d.leagues l) e) live in
      let within = (at_place (order_in d.leagues l) e place.0 place.1).0 in
      omega (arith, within)

  head_there : (l : ℕ) (m : Node) → 0 < length (order_in d.leagues l) → Among (rounds_since d l (start_in d.leagues l) ++ row_nodes d l) m → Among (head_nodes d l) m
  head_there l m some a =
      subst (λ o. Among (option_map_or (λ s. rounds_since d l s ++ row_nodes d l) o []) m) (sym (starts_there l some)) a

  -- each live one is among those of its league
  pub average_head : (l g : ℕ) → is_live d (node.Average l g) ≡ true → Among (head_nodes d l) (node.Average l g)
  average_head l g live =
      let round = round_within d l g (first_true (has_round d l g) (has_average (length (order_in d.leagues l))) live) in
      head_there l (node.Average l g) (average_drawn l g live)
      (among_left (rounds_since d l (start_in d.leagues l)) (row_nodes d l) (node.Average l g) (average_since l (start_in d.leagues l) g round.0 live))

  pub match_head : (l g i : ℕ) → is_live d (node.Match l g i) ≡ true → Among (head_nodes d l) (node.Match l g i)
  match_head l g i live =
      let round = round_within d l g (match_alive d l g i live).0 in
      head_there l (node.Match l g i) (match_drawn l g i live)
      (among_left (rounds_since d l (start_in d.leagues l)) (row_nodes d l) (node.Match l g i) (match_since l (start_in d.leagues l) g i round.0 live))

  pub row_head : (l e : ℕ) → is_live d (node.HeadRow l e) ≡ true → Among (head_nodes d l) (node.HeadRow l e)
  row_head l e live =
      head_there l (node.HeadRow l e) (row_drawn l e live)
      (among_right (rounds_since d l (start_in d.leagues l)) (row_nodes d l) (node.HeadRow l e) (row_listed l e live))

-- where nobody stands in an order nothing is live
module _ (b : SeasonFacts) (l : ℕ) (none : order_in b.leagues l ≡ []) where
  by_order : (t : Bool) → (t ≡ true → 0 < length (order_in b.leagues l)) → t ≡ false
  by_order false some = refl
  by_order true some = let within = some refl in absurd (nobody (subst (λ es. 0 < length es) none within))
    where
      nobody : 0 < 0 → ⊥
      nobody e = omega (arith, e)

  pub average_dead : (g : ℕ) → is_live b (node.Average l g) ≡ false
  average_dead g = by_order (is_live b (node.Average l g)) (average_drawn b l g)

  pub match_dead : (g i : ℕ) → is_live b (node.Match l g i) ≡ false
  match_dead g i = by_order (is_live b (node.Match l g i)) (match_drawn b l g i)

  pub row_dead : (e : ℕ) → is_live b (node.HeadRow l e) ≡ false
  row_dead e = by_order (is_live b (node.HeadRow l e)) (row_drawn b l e)

-- One round more, and one place more.
