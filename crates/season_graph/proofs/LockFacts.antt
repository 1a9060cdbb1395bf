-- What locks of gameweeks touch.
use Rattle.std.proofs.Common.{◌≡◌, ℕ, ◌+◌, ◌-◌, ◌<◌, ◌≤◌, max, Bool, true, false, ◌&&◌, cond, if◌then◌else◌, nat_le, nat_lt, ◌⊎◌, inl, inr, ⊎_elim, List, [], ◌∷◌, ◌++◌, Option, Some, is_some, length, refl, sym, ◌∙◌, ap, subst, arith, ◌==◌}
use Rattle.std.specs.List.{filter, find, flat_map, list_all, list_any, range_with_len}
use Rattle.std.proofs.lemmas.Bool.Decides.{nat_tests, leb_tells}
use Rattle.rule_book.specs.declared.cup.Bracket.{Bracket}
use Rattle.rule_book.specs.declared.player.Player.{Player}
use Rattle.rule_book.specs.Calendar.{standing_among}
use Rattle.rule_book.specs.LeagueCalls.{leagues_of}
use Rattle.rule_book.specs.LeagueRows.{place_of}
use Rattle.rule_book.specs.MatchFacts.{is_finished, line_of}
use Rattle.rule_book.specs.PlayerFigures.{position_in}
use Rattle.rule_book.specs.Players.{player_of}
use Rattle.rule_book.specs.Totals.{gameweeks}
use Rattle.rescore_graph.specs.Graph.{Among}
use Rattle.rescore_graph.specs.States.{State}
use Rattle.season_graph.specs.Changes.{IsKept, IsTouched, DifferInLocks, Follows, MarksTouched}
use Rattle.season_nodes.specs.Brackets.{bracket_in, ties_after}
use Rattle.season_nodes.specs.declared.nodes.Node.{Node}
use Rattle.season_nodes.specs.declared.nodes.Node.TheVariants as node
use Rattle.season_nodes.specs.declared.nodes.Value.{Value}
use Rattle.season_nodes.specs.Reading.{among_either, among_left, among_right, from_any, from_flat, from_map, from_range, to_flat, to_map, to_range}
use Rattle.season_graph.specs.Refreshed.{Refreshed}
use Rattle.season_nodes.specs.Rounds.{has_average, order_in, start_in}
use Rattle.season_nodes.specs.Season.{SeasonFacts, IsSeason, bracket_of, classic_starts, counted_gameweeks, fixtures_of, has_begun, has_round, has_start, is_live, is_lower, players_of, round_of, starts_of}
use Rattle.season_nodes.specs.SeasonLaws.{begun_later, first_true, from_counted, match_alive, round_within, second_true, tie_alive, to_counted, total_alive, total_lives}
use Rattle.season_graph.specs.Touched.{cups_since, entry_nodes, locked_cups, locked_entries, locked_leagues, locked_nodes, locked_players, locked_rounds, locked_scores, locked_tables, locked_totals, numbered_nodes, player_nodes, rounds_since, row_nodes, ties_since, total_nodes}
use Rattle.season_graph.proofs.ChangedFacts.{at_node, change_exact, change_sound, from_rest, iff_same, to_rest}
use Rattle.season_graph.proofs.CupFacts.{from_ties, tie_kept, tie_since}
use Rattle.season_graph.proofs.GameweekFacts.{numbered_among, from_numbered, from_gameweeks, gameweek_among}
use Rattle.season_graph.proofs.RoundFacts.{average_drawn, average_kept, average_since, from_since, match_drawn, match_kept, match_since, numbered_league, row_drawn, row_kept, row_listed}
use Rattle.season_graph.proofs.TeamFacts.{begun_issued, last_locked, team_alive, team_kept, total_kept}

clash : true ≡ false → ⊥
clash e = cc

false_or_true : (b : Bool) → (b ≡ false) ⊎ (b ≡ true)
false_or_true true = inr refl
false_or_true false = inl refl

within : (h n : ℕ) → h ≤ n → nat_le h n ≡ true
within h n e = ⊎_elim (λ a. a.0) (λ a. let x : n < h = a.1 in absurd (omega arith)) (leb_tells h n)

beyond : (h n : ℕ) → n < h → nat_le h n ≡ false
beyond h n e = ⊎_elim (λ a. let x : h ≤ n = a.1 in absurd (omega arith)) (λ a. a.0) (leb_tells h n)

at_most : (h n : ℕ) → nat_le h n ≡ true → h ≤ n
at_most h n e = grind (arith, nat_tests)

upto : (g first locked : ℕ) → first ≤ locked → g ≤ locked → g ≤ first + (locked - first)
upto g first locked low high = omega arith

same_number : (m n : ℕ) → (m == n) ≡ true → m ≡ n
same_number m n e = grind (arith, nat_tests)

found_case : (t : Bool) (x : Player) (rest : Option Player) → is_some (cond t (Some x) rest) ≡ true → (t ≡ true) ⊎ (is_some rest ≡ true)
found_case true x rest e = inl refl
found_case false x rest e = inr e

-- a player who is found stands in the list
pub found_among : (players : List Player) (p : ℕ) → is_some (player_of players p) ≡ true → (x : Player) × (Among players x × (x.id ≡ p))
found_among [] p e = absurd (cc)
found_among (x ∷ xs) p e = ⊎_elim (λ i. (x, (inl refl, same_number x.id p i))) (λ o. let r = found_among xs p o in (r.0, (inr r.1.0, r.1.1))) (found_case (x.id == p) x (find (λ y. y.id == p) xs) e)

-- a live gameweek behind the first ones is among those that are locked
pub locked_among : (d : SeasonFacts) (first q h : ℕ) → first ≤ d.calendar.locked → first < h → is_live d (node.PlayerGw q h) ≡ true → Among (locked_scores d first) (node.PlayerGw q h)
locked_among d first q h rises behind l =
    let r = found_among d.players q (first_true (is_some (player_of d.players q)) (nat_le 1 h && nat_le h d.calendar.locked) l) in
    let there = second_true (is_some (player_of d.players q)) (nat_le 1 h && nat_le h d.calendar.locked) l in
    let high = at_most h d.calendar.locked (second_true (nat_le 1 h) (nat_le h d.calendar.locked) there) in
    among_left (locked_players d first ++ locked_entries d first) (locked_totals d first) (node.PlayerGw q h)
    (among_left (locked_players d first) (locked_entries d first) (node.PlayerGw q h)
    (to_flat (λ x. player_nodes x.id first (d.calendar.locked - first)) d.players r.0 (node.PlayerGw q h) r.1.0
    (subst (λ n. Among (player_nodes n first (d.calendar.locked - first)) (node.PlayerGw q h)) (sym r.1.1)
    (gameweek_among (node.PlayerGw q) first h (d.calendar.locked - first) behind (upto h first d.calendar.locked rises high)))))

-- so is one of an entry
pub locked_team : (d : SeasonFacts) (first e h : ℕ) → first ≤ d.calendar.locked → first < h → is_live d (node.TeamGw e h) ≡ true → Among (locked_scores d first) (node.TeamGw e h)
locked_team d first e h rises behind l =
    let alive = team_alive d e h l in
    among_left (locked_players d first ++ locked_entries d first) (locked_totals d first) (node.TeamGw e h)
    (among_right (locked_players d first) (locked_entries d first) (node.TeamGw e h)
    (numbered_among (λ k. entry_nodes k first (d.calendar.locked - first)) d.entries e (node.TeamGw e h) alive.0 alive.1
    (gameweek_among (node.TeamGw e) first h (d.calendar.locked - first) behind (upto h first d.calendar.locked rises (at_most h d.calendar.locked alive.3)))))

less : (m n : ℕ) → m < n → nat_lt m n ≡ true
less m n e = grind (arith, nat_tests)

is_less : (m n : ℕ) → nat_lt m n ≡ true → m < n
is_less m n e = grind (arith, nat_tests)

-- so is each live total where more gameweeks are locked than the first ones
pub locked_total : (d : SeasonFacts) (first e s : ℕ) → first < d.calendar.locked → is_live d (node.Total e s) ≡ true → Among (locked_scores d first) (node.Total e s)
locked_total d first e s more l =
    let alive = total_alive d e s l in
    let issued = begun_issued d e d.calendar.locked alive.0 in
    among_right (locked_players d first ++ locked_entries d first) (locked_totals d first) (node.Total e s)
    (to_rest (nat_lt first d.calendar.locked) (numbered_nodes (total_nodes d) d.entries) (node.Total e s) (less first d.calendar.locked more)
    (numbered_among (total_nodes d) d.entries e (node.Total e s) issued.0 issued.1
    (to_map (node.Total e) (starts_of d e) s (from_any s (starts_of d e) alive.1))))

-- so is what is live of a league behind them
locked_round : (d : SeasonFacts) (first l g : ℕ) (m : Node) → first < g → g ≤ d.calendar.locked → 0 < length (order_in d.leagues l)
    → Among (rounds_since d l (max (start_in d.leagues l) (first + 1))) m → Among (locked_leagues d first) m
locked_round d first l g m behind high some a =
    let number = numbered_league d l some in
    to_rest (nat_lt first d.calendar.locked) (numbered_nodes (locked_rounds d first) (length d.leagues)) m (less first d.calendar.locked (omega (arith, behind, high)))
    (numbered_among (locked_rounds d first) (length d.leagues) l m number.0 number.1
    (among_left (rounds_since d l (max (start_in d.leagues l) (first + 1))) (if nat_le (start_in d.leagues l) d.calendar.locked then row_nodes d l else []) m a))

locked_average : (d : SeasonFacts) (first l g : ℕ) → first < g → is_live d (node.Average l g) ≡ true → Among (locked_leagues d first) (node.Average l g)
locked_average d first l g behind live =
    let round = round_within d l g (first_true (has_round d l g) (has_average (length (order_in d.leagues l))) live) in
    locked_round d first l g (node.Average l g) behind round.1 (average_drawn d l g live)
    (average_since d l (max (start_in d.leagues l) (first + 1)) g (omega (arith, behind, round.0)) live)

locked_match : (d : SeasonFacts) (first l g i : ℕ) → first < g → is_live d (node.Match l g i) ≡ true → Among (locked_leagues d first) (node.Match l g i)
locked_match d first l g i behind live =
    let round = round_within d l g (match_alive d l g i live).0 in
    locked_round d first l g (node.Match l g i) behind round.1 (match_drawn d l g i live)
    (match_since d l (max (start_in d.leagues l) (first + 1)) g i (omega (arith, behind, round.0)) live)

-- and the rows of a league that has started, where more gameweeks are locked than the first ones
locked_row : (d : SeasonFacts) (first l e : ℕ) → first < d.calendar.locked → start_in d.leagues l ≤ d.calendar.locked → is_live d (node.HeadRow l e) ≡ true
    → Among (locked_leagues d first) (node.HeadRow l e)
locked_row d first l e more started live =
    let number = numbered_league d l (row_drawn d l e live) in
    let rounds = rounds_since d l (max (start_in d.leagues l) (first + 1)) in
    to_rest (nat_lt first d.calendar.locked) (numbered_nodes (locked_rounds d first) (length d.leagues)) (node.HeadRow l e) (less first d.calendar.locked more)
    (numbered_among (locked_rounds d first) (length d.leagues) l (node.HeadRow l e) number.0 number.1
    (among_right rounds (if nat_le (start_in d.leagues l) d.calendar.locked then row_nodes d l else []) (node.HeadRow l e)
    (to_rest (nat_le (start_in d.leagues l) d.calendar.locked) (row_nodes d l) (node.HeadRow l e) (within (start_in d.leagues l) d.calendar.locked started) (row_listed d l e live))))

-- and the ties behind them
locked_tie : (d : SeasonFacts) (first k r i : ℕ) → first < round_of d k r → is_live d (node.Tie k r i) ≡ true → Among (locked_cups d first) (node.Tie k r i)
locked_tie d first k r i behind live =
    let played = (tie_alive d k r i live).0 in
    let more : first < d.calendar.locked = omega (arith, behind, played) in
    to_rest (nat_lt first d.calendar.locked) (cups_since d (first + 1)) (node.Tie k r i) (less first d.calendar.locked more)
    (tie_since d k r i (first + 1) (omega (arith, behind)) live)

round_false : (u v w : Bool) → v ≡ false → ((u && v) && w) ≡ false
round_false true v w e = ap (λ t. t && w) e
round_false false v w e = refl

and_false : (u v w : Bool) → w ≡ false → (u && (v && w)) ≡ false
and_false true true w e = e
and_false true false w e = refl
and_false false v w e = refl

module _ (b d : SeasonFacts) (first : ℕ) (c : DifferInLocks b d first) where
  fixtures_same : (q h : ℕ) → fixtures_of b q h ≡ fixtures_of d q h
  fixtures_same q h = λ i. filter (λ f. is_some (line_of (c.matches i) f q)) (standing_among (c.fixtures i) h)

  pub before : (h : ℕ) → h ≤ first → nat_le h b.calendar.locked ≡ nat_le h d.calendar.locked
  before h low = ap (nat_le h) c.before ∙ within h first low ∙ sym (within h d.calendar.locked (further low c.rises))
    where
      further : h ≤ first → first ≤ d.calendar.locked → h ≤ d.calendar.locked
      further x y = omega arith

  not_yet : (q h : ℕ) → first < h → is_live b (node.PlayerGw q h) ≡ false
  not_yet q h behind = and_false (is_some (player_of b.players q)) (nat_le 1 h) (nat_le h b.calendar.locked) (ap (nat_le h) c.before ∙ beyond h first behind)

  team_not_yet : (e h : ℕ) → first < h → is_live b (node.TeamGw e h) ≡ false
  team_not_yet e h behind = and_false (has_begun b e h) (nat_le 1 h) (nat_le h b.calendar.locked) (ap (nat_le h) c.before ∙ beyond h first behind)

  not_locked : (h : ℕ) → first < h → nat_le h b.calendar.locked ≡ false
  not_locked h behind = ap (nat_le h) c.before ∙ beyond h first behind

  average_not_yet : (l h : ℕ) → first < h → is_live b (node.Average l h) ≡ false
  average_not_yet l h behind = round_false (nat_le (start_in b.leagues l) h) (nat_le h b.calendar.locked) (has_average (length (order_in b.leagues l))) (not_locked h behind)

  match_not_yet : (l h i : ℕ) → first < h → is_live b (node.Match l h i) ≡ false
  match_not_yet l h i behind = round_false (nat_le (start_in b.leagues l) h) (nat_le h b.calendar.locked) (is_lower b l h i) (not_locked h behind)

  order_same : (l : ℕ) → order_in b.leagues l ≡ order_in d.leagues l
  order_same l = λ x. order_in (c.leagues x) l

  start_same : (l : ℕ) → start_in b.leagues l ≡ start_in d.leagues l
  start_same l = λ x. start_in (c.leagues x) l

  -- a league that has not started has no gameweeks
  no_weeks : (s n : ℕ) → n < s → gameweeks s n ≡ []
  no_weeks s n late = let none : (n + 1) - s ≡ 0 = omega (arith, late) in ap (range_with_len s) none

  unstarted : (l : ℕ) → d.calendar.locked < start_in d.leagues l → gameweeks (start_in b.leagues l) b.calendar.locked ≡ gameweeks (start_in d.leagues l) d.calendar.locked
  unstarted l late =
      let up : b.calendar.locked ≤ d.calendar.locked = subst (λ n. n ≤ d.calendar.locked) (sym c.before) c.rises in
      ap (λ s. gameweeks s b.calendar.locked) (start_same l)
      ∙ no_weeks (start_in d.leagues l) b.calendar.locked (omega (arith, up, late)) ∙ sym (no_weeks (start_in d.leagues l) d.calendar.locked late)

  -- one that has started counts the last locked one
  weeks_more : first < d.calendar.locked → (l : ℕ) → start_in d.leagues l ≤ d.calendar.locked → gameweeks (start_in b.leagues l) b.calendar.locked ≡ gameweeks (start_in d.leagues l) d.calendar.locked → ⊥
  weeks_more more l started same =
      let last = d.calendar.locked in
      let now : Among (gameweeks (start_in d.leagues l) last) last = to_range (start_in d.leagues l) ((last + 1) - start_in d.leagues l) last started (omega (arith, started)) in
      let found = from_range (start_in b.leagues l) ((b.calendar.locked + 1) - start_in b.leagues l) last (subst (λ gs. Among gs last) (sym same) now) in
      let high : last ≤ b.calendar.locked = omega (arith, found.0, found.1) in
      apart (subst (λ n. last ≤ n) c.before high)
    where
      apart : d.calendar.locked ≤ first → ⊥
      apart h = omega (arith, more, h)

  starts_same : (e s : ℕ) → has_start b e s ≡ has_start d e s
  starts_same e s = λ i. list_any (λ k. s == k) (1 ∷ flat_map (classic_starts (c.leagues i)) (leagues_of (c.leagues i) e))

  no_more : d.calendar.locked ≤ first → b.calendar.locked ≡ d.calendar.locked
  no_more h = c.before ∙ both first d.calendar.locked c.rises h
    where
      both : (m n : ℕ) → m ≤ n → n ≤ m → m ≡ n
      both m n x y = omega arith

  -- a total that was live is live
  lives_on : (e s : ℕ) → is_live b (node.Total e s) ≡ true → is_live d (node.Total e s) ≡ true
  lives_on e s l =
      let alive = total_alive b e s l in
      let up : b.calendar.locked ≤ d.calendar.locked = subst (λ n. n ≤ d.calendar.locked) (sym c.before) c.rises in
      let w = second_true (has_begun b e b.calendar.locked && has_start b e s) (nat_le 1 s && nat_le s b.calendar.locked) l in
      total_lives d e s
      (begun_later d e b.calendar.locked d.calendar.locked (sym (c.entries.begun e b.calendar.locked (last_locked s b.calendar.locked w)) ∙ alive.0) up)
      (sym (starts_same e s) ∙ alive.1) alive.2 (omega (arith, alive.3, up))

  -- one that is live counts the last locked gameweek
  counts_more : first < d.calendar.locked → (e s : ℕ) → is_live d (node.Total e s) ≡ true → counted_gameweeks b e s ≡ counted_gameweeks d e s → ⊥
  counts_more more e s l same =
      let alive = total_alive d e s l in
      let last = from_counted b e s d.calendar.locked (subst (λ gs. Among gs d.calendar.locked) (sym same) (to_counted d e s d.calendar.locked alive.3 (omega arith) alive.0)) in
      apart (subst (λ n. d.calendar.locked ≤ n) c.before last.1)
    where
      apart : d.calendar.locked ≤ first → ⊥
      apart h = omega (arith, more, h)

  bracket_same : (k : ℕ) → bracket_of b k ≡ bracket_of d k
  bracket_same k = λ x. bracket_in (c.cups x) k

  tie_not_yet : (k r i : ℕ) → first < round_of d k r → is_live b (node.Tie k r i) ≡ false
  tie_not_yet k r i behind =
      let test = nat_lt i (ties_after (bracket_of b k) r) in
      ap (λ (x : Bracket). nat_le (x.start + r) b.calendar.locked && test) (bracket_same k) ∙ ap (λ t. t && test) (not_locked (round_of d k r) behind)

  in_scores : (n : Node) → Among (locked_scores d first) n → Among (locked_nodes d first) n
  in_scores n a = among_left (locked_tables d first) (locked_cups d first) n (among_left (locked_scores d first) (locked_leagues d first) n a)

  in_leagues : (n : Node) → Among (locked_leagues d first) n → Among (locked_nodes d first) n
  in_leagues n a = among_left (locked_tables d first) (locked_cups d first) n (among_right (locked_scores d first) (locked_leagues d first) n a)

  pub lock_listed : (n : Node) → IsKept b d n ⊎ Among (locked_nodes d first) n
  lock_listed (node.Line f p) = inl (ap (λ m. is_some (line_of m f p)) c.matches, λ l. (ap (λ m. line_of m f p) c.matches, c.profile, ap (λ ps. position_in ps p) c.players))
  lock_listed (node.Bonus f) = inl (ap (λ m. is_live (record b { matches = m }) (node.Bonus f)) c.matches, λ l. (ap (λ m. players_of (record b { matches = m }) f) c.matches, ap (λ m. is_finished m f) c.matches))
  lock_listed (node.PlayerGw q h) = ⊎_elim
      (λ a. inl ((λ i. is_some (player_of (c.players i) q) && (nat_le 1 h && before h a.1 i)), λ x. fixtures_same q h))
      (λ a. ⊎_elim
      (λ l. inl (not_yet q h a.1 ∙ sym l, λ x. fixtures_same q h))
      (λ l. inr (in_scores (node.PlayerGw q h) (locked_among d first q h c.rises a.1 l)))
      (false_or_true (is_live d (node.PlayerGw q h))))
      (leb_tells h first)
  lock_listed (node.TeamGw e h) = ⊎_elim
      (λ a. inl (team_kept b d c.entries e h (before h a.1) (λ i. list_all (is_finished (c.matches i)) (standing_among (c.fixtures i) h)) (λ q a i. is_some (player_of (c.players i) q))))
      (λ a. ⊎_elim
      (λ no. inl (team_not_yet e h a.1 ∙ sym no, λ l. absurd (clash (sym l ∙ no))))
      (λ l. inr (in_scores (node.TeamGw e h) (locked_team d first e h c.rises a.1 l)))
      (false_or_true (is_live d (node.TeamGw e h))))
      (leb_tells h first)
  lock_listed (node.Total e s) = ⊎_elim
      (λ a. inl (total_kept b d c.entries (no_more a.1) c.leagues e s))
      (λ a. ⊎_elim
      (λ no. inl (iff_same (is_live b (node.Total e s)) (is_live d (node.Total e s)) (lives_on e s) (λ l. absurd (clash (sym l ∙ no))), λ l. absurd (clash (sym l ∙ no))))
      (λ l. inr (in_scores (node.Total e s) (locked_total d first e s a.1 l)))
      (false_or_true (is_live d (node.Total e s))))
      (leb_tells d.calendar.locked first)
  lock_listed (node.Average l h) = ⊎_elim
      (λ a. inl (average_kept b d l (order_same l) c.entries (start_same l) h (before h a.1)))
      (λ a. ⊎_elim
      (λ no. inl (average_not_yet l h a.1 ∙ sym no, λ live. absurd (clash (sym live ∙ no))))
      (λ live. inr (in_leagues (node.Average l h) (locked_average d first l h a.1 live)))
      (false_or_true (is_live d (node.Average l h))))
      (leb_tells h first)
  lock_listed (node.Match l h i) = ⊎_elim
      (λ a. inl (match_kept b d l (order_same l) c.entries (start_same l) h i (before h a.1)))
      (λ a. ⊎_elim
      (λ no. inl (match_not_yet l h i a.1 ∙ sym no, λ live. absurd (clash (sym live ∙ no))))
      (λ live. inr (in_leagues (node.Match l h i) (locked_match d first l h i a.1 live)))
      (false_or_true (is_live d (node.Match l h i))))
      (leb_tells h first)
  lock_listed (node.HeadRow l e) = ⊎_elim
      (λ a. inl (row_kept b d l (order_same l) c.entries (start_same l) e (λ x. gameweeks (start_same l x) (no_more a.1 x))))
      (λ a. ⊎_elim
      (λ started. ⊎_elim
      (λ no. inl ((λ x. is_some (place_of (order_same l x) e)), λ live. absurd (clash (sym live ∙ no))))
      (λ live. inr (in_leagues (node.HeadRow l e) (locked_row d first l e a.1 started.1 live)))
      (false_or_true (is_live d (node.HeadRow l e))))
      (λ late. inl (row_kept b d l (order_same l) c.entries (start_same l) e (unstarted l late.1)))
      (leb_tells (start_in d.leagues l) d.calendar.locked))
      (leb_tells d.calendar.locked first)
  lock_listed (node.Tie k r i) = ⊎_elim
      (λ a. inl (tie_kept b d k (bracket_same k) c.entries r i (before (round_of d k r) a.1)))
      (λ a. ⊎_elim
      (λ no. inl (tie_not_yet k r i a.1 ∙ sym no, λ live. absurd (clash (sym live ∙ no))))
      (λ live. inr (among_right (locked_tables d first) (locked_cups d first) (node.Tie k r i) (locked_tie d first k r i a.1 live)))
      (false_or_true (is_live d (node.Tie k r i))))
      (leb_tells (round_of d k r) first)

  total_touched : (n : Node) → Among (locked_totals d first) n → is_live d n ≡ true → IsTouched b d n
  total_touched n a l =
      let r = from_rest (nat_lt first d.calendar.locked) (numbered_nodes (total_nodes d) d.entries) n a in
      let k = from_numbered (total_nodes d) d.entries n r.1 in
      let m = from_map (node.Total k.0) (starts_of d k.0) n k.1 in
      (l, λ kept. other k.0 m.0 (is_less first d.calendar.locked r.0) (subst (λ z. is_live d z ≡ true) (sym m.1.1) l) (subst (λ z. IsKept b d z) (sym m.1.1) kept))
    where
      other : (e s : ℕ) → first < d.calendar.locked → is_live d (node.Total e s) ≡ true → IsKept b d (node.Total e s) → ⊥
      other e s more live kept = counts_more more e s live (kept.1 live)

  league_touched : (n : Node) → Among (locked_leagues d first) n → is_live d n ≡ true → IsTouched b d n
  league_touched n a live =
      let r = from_rest (nat_lt first d.calendar.locked) (numbered_nodes (locked_rounds d first) (length d.leagues)) n a in
      let l = from_numbered (locked_rounds d first) (length d.leagues) n r.1 in
      ⊎_elim (round l.0) (row l.0 (is_less first d.calendar.locked r.0))
      (among_either (rounds_since d l.0 (max (start_in d.leagues l.0) (first + 1))) (if nat_le (start_in d.leagues l.0) d.calendar.locked then row_nodes d l.0 else []) n l.1)
    where
      behind : (s h : ℕ) → max s (first + 1) ≤ h → first < h
      behind s h low = omega (arith, low)

      new : (m : Node) → m ≡ n → is_live b m ≡ false → IsTouched b d n
      new m e not = (live, λ k. clash (sym live ∙ sym k.0 ∙ subst (λ z. is_live b z ≡ false) e not))

      round : (l : ℕ) → Among (rounds_since d l (max (start_in d.leagues l) (first + 1))) n → IsTouched b d n
      round l x =
          let k = from_since d l (max (start_in d.leagues l) (first + 1)) n x in
          let late = behind (start_in d.leagues l) k.0 k.1.0 in
          ⊎_elim (λ e. new (node.Average l k.0) e (average_not_yet l k.0 late)) (λ i. new (node.Match l k.0 i.0) i.1 (match_not_yet l k.0 i.0 late)) k.1.1

      row : (l : ℕ) → first < d.calendar.locked → Among (if nat_le (start_in d.leagues l) d.calendar.locked then row_nodes d l else []) n → IsTouched b d n
      row l more x =
          let k = from_rest (nat_le (start_in d.leagues l) d.calendar.locked) (row_nodes d l) n x in
          let m = from_map (node.HeadRow l) (order_in d.leagues l) n k.1 in
          at_node b d (node.HeadRow l m.0) n m.1.1 live (λ same alive. weeks_more more l (at_most (start_in d.leagues l) d.calendar.locked k.0) (same alive).2)

  score_touched : (n : Node) → Among (locked_scores d first) n → is_live d n ≡ true → IsTouched b d n
  score_touched n a l = ⊎_elim
      (λ both. ⊎_elim
      (λ x. let r = from_flat (λ x. player_nodes x.id first (d.calendar.locked - first)) d.players n x in
      let s = from_gameweeks (node.PlayerGw (r.0).id) first (d.calendar.locked - first) n r.1.1 in
      (l, λ k. clash (sym l ∙ sym k.0 ∙ subst (λ z. is_live b z ≡ false) s.1.1 (not_yet (r.0).id s.0 s.1.0))))
      (λ x. let r = from_numbered (λ k. entry_nodes k first (d.calendar.locked - first)) d.entries n x in
      let s = from_gameweeks (node.TeamGw r.0) first (d.calendar.locked - first) n r.1 in
      (l, λ k. clash (sym l ∙ sym k.0 ∙ subst (λ z. is_live b z ≡ false) s.1.1 (team_not_yet r.0 s.0 s.1.0))))
      (among_either (locked_players d first) (locked_entries d first) n both))
      (λ x. total_touched n x l)
      (among_either (locked_players d first ++ locked_entries d first) (locked_totals d first) n a)

  cup_touched : (n : Node) → Among (locked_cups d first) n → is_live d n ≡ true → IsTouched b d n
  cup_touched n a live =
      let x = from_numbered (ties_since d (first + 1)) (length d.cups) n (from_rest (nat_lt first d.calendar.locked) (cups_since d (first + 1)) n a).1 in
      let y = from_ties d (first + 1) x.0 n x.1 in
      let up : first + 1 ≤ round_of d x.0 y.0 = y.1.1.0 in
      (live, λ k. clash (sym live ∙ sym k.0 ∙ subst (λ z. is_live b z ≡ false) y.1.1.1 (tie_not_yet x.0 y.0 y.1.0 (omega (arith, up)))))

  table_touched : (n : Node) → Among (locked_tables d first) n → is_live d n ≡ true → IsTouched b d n
  table_touched n a l =
      ⊎_elim (λ x. score_touched n x l) (λ x. league_touched n x l) (among_either (locked_scores d first) (locked_leagues d first) n a)

  pub lock_touched : (n : Node) → Among (locked_nodes d first) n → is_live d n ≡ true → IsTouched b d n
  lock_touched n a l =
      ⊎_elim (λ x. table_touched n x l) (λ x. cup_touched n x l) (among_either (locked_tables d first) (locked_cups d first) n a)

  -- the cells follow
  module _ (is_b : IsSeason b) (is_d : IsSeason d) (s t : State Node Value) (r : Refreshed (is_live d) (Among (locked_nodes d first)) s t) where
    pub lock_follows : Follows b d s t
    lock_follows sound = change_sound b d is_b is_d (locked_nodes d first) lock_listed s t sound r

    pub lock_marks : MarksTouched b d s t
    lock_marks sound = change_exact b d is_b is_d (locked_nodes d first) lock_listed s t sound r lock_touched
