-- Dependents are the converse of inputs.
use Rattle.std.proofs.Common.{◌≡◌, ℕ, zero, suc, ◌+◌, ◌*◌, ◌/◌, ◌<◌, ◌≤◌, ◌==◌, Bool, true, false, not, ◌&&◌, nat_le, if◌then◌else◌, cond, ◌⊎◌, inl, inr, ⊎_elim, List, [], ◌∷◌, ◌-◌, Option, Some, None, is_some, length, get_or, ne_eqb, refl, sym, ◌∙◌, ap, ap₂, subst, arith}
use Rattle.std.specs.List.{filter, find, flat_map, range_with_len, slice_index, AllPairs}
use Rattle.std.specs.Option.{option_and_then, option_map_or, unwrap_or}
use Rattle.std.proofs.lemmas.Bool.{cases_eq, cases_lt}
use Rattle.std.proofs.lemmas.Bool.Decides.{leb_tells, nat_tests}
use Rattle.std.proofs.lemmas.Option.{same_Some}
use Rattle.rule_book.specs.declared.season.Fixture.{Fixture}
use Rattle.rule_book.specs.ById.{at_id}
use Rattle.rule_book.specs.Calendar.{is_gameweek, standing_among, standing, stands_in}
use Rattle.rule_book.specs.LeagueCalls.{leagues_of}
use Rattle.rule_book.specs.LeagueRows.{place_of}
use Rattle.rule_book.specs.MatchFacts.{lines_of}
use Rattle.rule_book.specs.declared.pairing.Opponent.{Opponent}
use Rattle.rule_book.specs.declared.pairing.Opponent.TheVariants.{Place, Average}
use Rattle.rescore_graph.specs.Graph.{Among, AreAffected, IsDependents, IsIndifferent}
use Rattle.season_nodes.specs.declared.nodes.Node.{Node}
use Rattle.season_nodes.specs.declared.nodes.Node.TheVariants as node
use Rattle.season_nodes.specs.declared.nodes.Value.{Value}
use Rattle.season_nodes.specs.declared.nodes.Value.TheVariants as value
use Rattle.season_nodes.specs.Dependents.{bonus_affected, given, average_dependents, average_if, counting, cup_dependents, reached, table_dependents, tie_dependents, is_average, line_dependents, bonus_dependents, gameweek_dependents, match_dependents, opponent_dependents, place_in, round_dependents, team_dependents, total_dependents, dependents_of}
use Rattle.season_nodes.specs.Brackets.{is_in, part_of, ties_after}
use Rattle.season_nodes.specs.IndexFacts.{IsIndex}
use Rattle.season_nodes.specs.NodeOrder.{kind_of, first_of, second_of, third_of}
use Rattle.season_nodes.specs.Places.{at_place, has_place, order_differs, order_mine, own_place, placed_among}
use Rattle.season_nodes.specs.Reading.{among_either, among_left, among_right, fold_local, from_any, from_range, to_range, from_filter, to_any, to_filter, from_map, to_map, from_flat, to_flat}
use Rattle.season_nodes.specs.RoundLaws.{lower_both, lower_own, lower_whose, met_place}
use Rattle.season_nodes.specs.Rounds.{has_average, order_in, place_met, start_in}
use Rattle.season_nodes.specs.TieLaws.{cup_within, in_slots, slots_in}
use Rattle.season_nodes.specs.Season.{SeasonFacts, bonuses_in, no_figures, own_value, with_worth, worth_in, bracket_of, entrant_inputs, round_of, ties_before, counted_gameweeks, fielded_in, fifteen_of, has_begun, has_line, is_there, players_of, fixtures_of, has_round, is_live, lower_in, match_node, met_in, opponent_in, inputs_of, season_graph, starts_of, IsSeason}
use Rattle.season_nodes.specs.SeasonLaws.{from_tie, tie_alive, tie_lives, to_tie, begun_later, both_true, first_true, from_average, from_counted, from_match, from_row, listed_has, has_listed, has_some, match_alive, match_lives, own_match_lives, second_true, to_average, to_counted, to_match_average, to_match_met, to_match_own, to_row, total_alive, total_lives}

-- the place of an element
place_among : {X : Type 0} (xs : List X) (x : X) → Among xs x → (i : ℕ) × ((i < length xs) × ((d : X) → get_or xs i d ≡ x))
place_among [] x a = absurd a
place_among (y ∷ xs) x (inl e) = (zero, (omega arith, λ d. e))
place_among (y ∷ xs) x (inr a) = let r = place_among xs x a in (suc r.0, (omega (arith, r.1.0), r.1.1))

abbrev pub IdsRise : List Fixture → Type 0
IdsRise xs = AllPairs (λ x y. x.id < y.id) xs

pub rising_tail : (x : Fixture) (xs : List Fixture) → IdsRise (x ∷ xs) → IdsRise xs
rising_tail x xs up i j d lt within = up (suc i) (suc j) d (omega arith) (omega arith)

pub rising_head : (x : Fixture) (xs : List Fixture) (y : Fixture) → IdsRise (x ∷ xs) → Among xs y → x.id < y.id
rising_head x xs y up a = let r = place_among xs y a in subst (λ z. x.id < z.id) (r.1.1 x) (up zero (suc r.0) x (omega arith) (omega (arith, r.1.0)))

pub same_test : (n m : ℕ) → n ≡ m → (n == m) ≡ true
same_test n m e = grind (arith, nat_tests)

below_test : (n m : ℕ) → n < m → (n == m) ≡ false
below_test n m e = grind (arith, nat_tests)

other_case : (m n : ℕ) (b : Bool) → (m == n) ≡ b → (m ≡ n → ⊥) → b ≡ false
other_case m n true e o = absurd (o (grind (arith, nat_tests, e)))
other_case m n false e o = refl

pub below_or_above : (m n : ℕ) → (m ≡ n → ⊥) → (m == n) ≡ false
below_or_above m n o = other_case m n (m == n) refl o

same_id : (n m : ℕ) → (n == m) ≡ true → n ≡ m
same_id n m e = grind (arith, nat_tests)

-- a fixture of the list is found by its id
found : (xs : List Fixture) (x : Fixture) (f : ℕ) → IdsRise xs → Among xs x → x.id ≡ f → find (λ y. y.id == f) xs ≡ Some x
found [] x f up a e = absurd a
found (y ∷ xs) x f up (inl i) e = ap (λ b. cond b (Some y) (find (λ y. y.id == f) xs)) (same_test y.id f (ap (λ z. z.id) i ∙ e)) ∙ ap Some i
found (y ∷ xs) x f up (inr a) e =
    ap (λ b. cond b (Some y) (find (λ y. y.id == f) xs)) (below_test y.id f (subst (λ n. y.id < n) e (rising_head y xs x up a)))
    ∙ found xs x f (rising_tail y xs up) a e

find_case : (b : Bool) (y x : Fixture) (rest : Option Fixture) → cond b (Some y) rest ≡ Some x → ((b ≡ true) × (y ≡ x)) ⊎ (rest ≡ Some x)
find_case true y x rest e = inl (refl, same_Some y x e)
find_case false y x rest e = inr e

-- what is found stands in the list and has the id
found_is : (xs : List Fixture) (x : Fixture) (f : ℕ) → find (λ y. y.id == f) xs ≡ Some x → Among xs x × (x.id ≡ f)
found_is [] x f e = absurd (cc)
found_is (y ∷ xs) x f e = ⊎_elim
    (λ p. (inl p.1, sym (ap (λ z. z.id) p.1) ∙ same_id y.id f p.0))
    (λ p. let r = found_is xs x f p in (inr r.0, r.1))
    (find_case (y.id == f) y x (find (λ y. y.id == f) xs) e)

place_is : (g : ℕ) (place : Option ℕ) → is_gameweek g place ≡ true → place ≡ Some g
place_is g None e = absurd (cc)
place_is g (Some h) e = ap Some (same_id h g e)

place_test : (g : ℕ) (place : Option ℕ) → place ≡ Some g → is_gameweek g place ≡ true
place_test g place e = subst (λ o. is_gameweek g o ≡ true) (sym e) (same_test g g refl)

then_some : (o : Option Fixture) (g : ℕ) → option_and_then (λ x. x.gw) o ≡ Some g → (x : Fixture) × ((o ≡ Some x) × (x.gw ≡ Some g))
then_some None g e = absurd (cc)
then_some (Some x) g e = (x, (refl, e))

-- a fixture stands among those of a gameweek exactly where it stands in it
pub stands_there : (xs : List Fixture) (f g : ℕ) → IdsRise xs → Among (standing_among xs g) f → option_and_then (λ x. x.gw) (find (λ x. x.id == f) xs) ≡ Some g
stands_there xs f g up a =
    let r = from_map (λ x. x.id) (filter (λ x. is_gameweek g x.gw) xs) f a in
    let s = from_filter (λ x. is_gameweek g x.gw) xs r.0 r.1.0 in
    ap (option_and_then (λ x. x.gw)) (found xs r.0 f up s.0 r.1.1) ∙ place_is g (r.0).gw s.1

pub there_stands : (xs : List Fixture) (f g : ℕ) → option_and_then (λ x. x.gw) (find (λ x. x.id == f) xs) ≡ Some g → Among (standing_among xs g) f
there_stands xs f g e =
    let t = then_some (find (λ x. x.id == f) xs) g e in
    let s = found_is xs t.0 f t.1.0 in
    subst (λ n. Among (standing_among xs g) n) s.1
    (to_map (λ x. x.id) (filter (λ x. is_gameweek g x.gw) xs) t.0 (to_filter (λ x. is_gameweek g x.gw) xs t.0 s.0 (place_test g (t.0).gw t.1.1)))

other_kind : (k l : ℕ) → k < l → (k ≡ l) → ⊥
other_kind k l h e = omega arith

back_kind : (k l : ℕ) → l < k → (k ≡ l) → ⊥
back_kind k l h e = omega arith

within : (h n : ℕ) → h ≤ n → nat_le h n ≡ true
within h n e = ⊎_elim (λ a. a.0) (λ a. let x : n < h = a.1 in absurd (omega arith)) (leb_tells h n)

at_most : (h n : ℕ) → nat_le h n ≡ true → h ≤ n
at_most h n e = grind (arith, nat_tests)

module _ (b : SeasonFacts) (is : IsSeason b) where
  at : (f g : ℕ) → Among (standing b.calendar g) f → stands_in b.calendar f ≡ Some g
  at f g a = stands_there b.calendar.fixtures f g is.calendar.ids_rise a

  stands : (f g : ℕ) → stands_in b.calendar f ≡ Some g → Among (standing b.calendar g) f
  stands f g e = there_stands b.calendar.fixtures f g e

  live_case : (t : Bool) (g : ℕ) (p : ℕ) (m : Node) → Among (option_map_or (λ h. node.PlayerGw p h ∷ []) (if t then Some g else None) []) m → (t ≡ true) × (node.PlayerGw p g ≡ m)
  live_case true g p m (inl e) = (refl, e)
  live_case true g p m (inr a) = absurd a
  live_case false g p m a = absurd a

  place_case : (o : Option ℕ) (p : ℕ) (m : Node)
      → Among (option_map_or (λ h. node.PlayerGw p h ∷ []) (option_and_then (λ g. if is_live b (node.PlayerGw p g) then Some g else None) o) []) m
      → (g : ℕ) × ((o ≡ Some g) × (is_live b (node.PlayerGw p g) ≡ true) × (node.PlayerGw p g ≡ m))
  place_case None p m a = absurd a
  place_case (Some g) p m a = let r = live_case (is_live b (node.PlayerGw p g)) g p m a in (g, (refl, r.0, r.1))

  -- the gameweek that counts a fixture is live, and the fixture stands in it
  from_counting : (f p : ℕ) (m : Node) → Among (counting b f p) m → (g : ℕ) × ((stands_in b.calendar f ≡ Some g) × (is_live b (node.PlayerGw p g) ≡ true) × (node.PlayerGw p g ≡ m))
  from_counting f p m a = place_case (stands_in b.calendar f) p m a

  to_counting : (f p g : ℕ) → stands_in b.calendar f ≡ Some g → is_live b (node.PlayerGw p g) ≡ true → Among (counting b f p) (node.PlayerGw p g)
  to_counting f p g e l =
      subst (λ o. Among (option_map_or (λ h. node.PlayerGw p h ∷ []) (option_and_then (λ g. if is_live b (node.PlayerGw p g) then Some g else None) o) []) (node.PlayerGw p g)) (sym e)
      (subst (λ t. Among (option_map_or (λ h. node.PlayerGw p h ∷ []) (if t then Some g else None) []) (node.PlayerGw p g)) (sym l) (inl refl))

  -- a fixture that a gameweek counts stands in it, and the player has a line there
  counts : (p g f : ℕ) → has_line b p f ≡ true → stands_in b.calendar f ≡ Some g → Among (fixtures_of b p g) f
  counts p g f h e = to_filter (has_line b p) (standing b.calendar g) f (stands f g e) h

  counted : (p g f : ℕ) → Among (fixtures_of b p g) f → (stands_in b.calendar f ≡ Some g) × (has_line b p f ≡ true)
  counted p g f a = let r = from_filter (has_line b p) (standing b.calendar g) f a in (at f g r.0, r.1)

  -- the inputs of an Average are gameweeks of entries, those of a match too, or an Average, and those of a row are matches
  no_average_input : (l g : ℕ) (m : Node) → (3 ≡ kind_of m → ⊥) → Among (inputs_of b (node.Average l g)) m → ⊥
  no_average_input l g m other a = other (ap kind_of (from_average b l g m a).1.2)

  no_match_input : (l g i : ℕ) (m : Node) → (3 ≡ kind_of m → ⊥) → (5 ≡ kind_of m → ⊥) → Among (inputs_of b (node.Match l g i)) m → ⊥
  no_match_input l g i m other others a =
      ⊎_elim (λ own. other (ap kind_of own.1)) (⊎_elim (λ met. other (ap kind_of met.1.1.1)) (λ average. others (ap kind_of average.1))) (from_match b l g i m a)

  no_row_input : (l e : ℕ) (m : Node) → (6 ≡ kind_of m → ⊥) → Among (inputs_of b (node.HeadRow l e)) m → ⊥
  no_row_input l e m other a = other (ap kind_of (from_row b l e m a).1.1.2)

  -- those of a tie are ties, or gameweeks of entries
  no_tie_input : (c r i : ℕ) (m : Node) → (8 ≡ kind_of m → ⊥) → (3 ≡ kind_of m → ⊥) → Among (inputs_of b (node.Tie c r i)) m → ⊥
  no_tie_input c r i m other others a =
      ⊎_elim (λ x. ⊎_elim (λ e. other (ap kind_of e)) (λ e. other (ap kind_of e)) x.1.1) (λ x. others (ap kind_of x.1.2)) (from_tie b c r i m a)

  line_there : (f p : ℕ) (m : Node) → has_line b p f ≡ true → Among (line_dependents b f p) m → (is_live b m ≡ true) × Among (inputs_of b m) (node.Line f p)
  line_there f p m h (inl e) = subst (λ q. (is_live b q ≡ true) × Among (inputs_of b q) (node.Line f p)) e
      (has_some (lines_of b.matches f) p h, to_map (node.Line f) (players_of b f) p (has_listed (lines_of b.matches f) p h))
  line_there f p m h (inr a) = let r = from_counting f p m a in
      subst (λ q. (is_live b q ≡ true) × Among (inputs_of b q) (node.Line f p)) r.1.2
      (r.1.1, to_flat (λ k. node.Line k p ∷ node.Bonus k ∷ []) (fixtures_of b p r.0) f (node.Line f p) (counts p r.0 f h r.1.0) (inl refl))

  line_back : (f p : ℕ) (m : Node) → (is_live b m ≡ true) × Among (inputs_of b m) (node.Line f p) → Among (line_dependents b f p) m
  line_back f p (node.Line k q) a = absurd a.1
  line_back f p (node.Bonus k) a = let r = from_map (node.Line k) (players_of b k) (node.Line f p) a.1 in inl (ap node.Bonus (sym (ap first_of r.1.1)))
  line_back f p (node.PlayerGw q g) a = pick (from_flat (λ k. node.Line k q ∷ node.Bonus k ∷ []) (fixtures_of b q g) (node.Line f p) a.1)
    where
      pick : (k : ℕ) × (Among (fixtures_of b q g) k × Among (node.Line k q ∷ node.Bonus k ∷ []) (node.Line f p)) → Among (line_dependents b f p) (node.PlayerGw q g)
      pick r = ⊎_elim
          (λ e. subst (λ x. Among (line_dependents b f x) (node.PlayerGw q g)) (ap second_of e)
          (inr (to_counting f q g (subst (λ x. stands_in b.calendar x ≡ Some g) (ap first_of e) (counted q g r.0 r.1.0).0) a.0)))
          (⊎_elim (λ e. absurd (back_kind 1 0 (omega arith) (ap kind_of e))) (λ x. absurd x))
          r.1.1
  line_back f p (node.TeamGw e g) a = let r = from_map (λ q. node.PlayerGw q g) (fielded_in b e g) (node.Line f p) a.1 in absurd (back_kind 2 0 (omega arith) (ap kind_of r.1.1))
  line_back f p (node.Total e s) a = let r = from_map (node.TeamGw e) (counted_gameweeks b e s) (node.Line f p) a.1 in absurd (back_kind 3 0 (omega arith) (ap kind_of r.1.1))
  line_back f p (node.Average k h) a = absurd (no_average_input k h (node.Line f p) (back_kind 3 0 (omega arith)) a.1)
  line_back f p (node.Match k h i) a = absurd (no_match_input k h i (node.Line f p) (back_kind 3 0 (omega arith)) (back_kind 5 0 (omega arith)) a.1)
  line_back f p (node.HeadRow k q) a = absurd (no_row_input k q (node.Line f p) (back_kind 6 0 (omega arith)) a.1)
  line_back f p (node.Tie k h j) a = absurd (no_tie_input k h j (node.Line f p) (back_kind 8 0 (omega arith)) (back_kind 3 0 (omega arith)) a.1)

  bonus_there : (f : ℕ) (m : Node) → Among (bonus_dependents b f) m → (is_live b m ≡ true) × Among (inputs_of b m) (node.Bonus f)
  bonus_there f m a =
      let p = from_flat (counting b f) (players_of b f) m a in
      let r = from_counting f p.0 m p.1.1 in
      subst (λ q. (is_live b q ≡ true) × Among (inputs_of b q) (node.Bonus f)) r.1.2
      (r.1.1, to_flat (λ k. node.Line k p.0 ∷ node.Bonus k ∷ []) (fixtures_of b p.0 r.0) f (node.Bonus f) (counts p.0 r.0 f (listed_has (lines_of b.matches f) p.0 p.1.0) r.1.0) (inr (inl refl)))

  bonus_back : (f : ℕ) (m : Node) → (is_live b m ≡ true) × Among (inputs_of b m) (node.Bonus f) → Among (bonus_dependents b f) m
  bonus_back f (node.Line k q) a = absurd a.1
  bonus_back f (node.Bonus k) a = let r = from_map (node.Line k) (players_of b k) (node.Bonus f) a.1 in absurd (other_kind 0 1 (omega arith) (ap kind_of r.1.1))
  bonus_back f (node.PlayerGw q g) a = pick (from_flat (λ k. node.Line k q ∷ node.Bonus k ∷ []) (fixtures_of b q g) (node.Bonus f) a.1)
    where
      pick : (k : ℕ) × (Among (fixtures_of b q g) k × Among (node.Line k q ∷ node.Bonus k ∷ []) (node.Bonus f)) → Among (bonus_dependents b f) (node.PlayerGw q g)
      pick r = ⊎_elim
          (λ e. absurd (other_kind 0 1 (omega arith) (ap kind_of e)))
          (⊎_elim
          (λ e. let c = counted q g r.0 r.1.0 in
          let h : has_line b q f ≡ true = subst (λ x. has_line b q x ≡ true) (ap first_of e) c.1 in
          to_flat (counting b f) (players_of b f) q (node.PlayerGw q g) (has_listed (lines_of b.matches f) q h)
          (to_counting f q g (subst (λ x. stands_in b.calendar x ≡ Some g) (ap first_of e) c.0) a.0))
          (λ x. absurd x))
          r.1.1
  bonus_back f (node.TeamGw e g) a = let r = from_map (λ q. node.PlayerGw q g) (fielded_in b e g) (node.Bonus f) a.1 in absurd (back_kind 2 1 (omega arith) (ap kind_of r.1.1))
  bonus_back f (node.Total e s) a = let r = from_map (node.TeamGw e) (counted_gameweeks b e s) (node.Bonus f) a.1 in absurd (back_kind 3 1 (omega arith) (ap kind_of r.1.1))
  bonus_back f (node.Average k h) a = absurd (no_average_input k h (node.Bonus f) (back_kind 3 1 (omega arith)) a.1)
  bonus_back f (node.Match k h i) a = absurd (no_match_input k h i (node.Bonus f) (back_kind 3 1 (omega arith)) (back_kind 5 1 (omega arith)) a.1)
  bonus_back f (node.HeadRow k q) a = absurd (no_row_input k q (node.Bonus f) (back_kind 6 1 (omega arith)) a.1)
  bonus_back f (node.Tie k h j) a = absurd (no_tie_input k h j (node.Bonus f) (back_kind 8 1 (omega arith)) (back_kind 3 1 (omega arith)) a.1)

  -- the players whom two values of it give different bonuses are among them
  bonus_subset : (f : ℕ) (old new : Value) (m : Node) → Among (bonus_affected b f old new) m → Among (bonus_dependents b f) m
  bonus_subset f old new m a =
      let test : ℕ → Bool = λ p. not (given old p == given new p) in
      let p = from_flat (counting b f) (filter test (players_of b f)) m a in
      to_flat (counting b f) (players_of b f) p.0 m (from_filter test (players_of b f) p.0 p.1.0).0 p.1.1

  -- a player's gameweek takes of a bonus what it gives him
  gathers_same : (v u : Node → Option Value) (p g : ℕ) → ((f : ℕ) → v (node.Line f p) ≡ u (node.Line f p))
      → ((f : ℕ) → unwrap_or (at_id (bonuses_in (v (node.Bonus f))) p) 0 ≡ unwrap_or (at_id (bonuses_in (u (node.Bonus f))) p) 0)
      → own_value b (node.PlayerGw p g) v ≡ own_value b (node.PlayerGw p g) u
  gathers_same v u p g lines bonuses = ap value.PlayerGw
      (fold_local (λ figures f. with_worth figures (worth_in (v (node.Line f p))) (unwrap_or (at_id (bonuses_in (v (node.Bonus f))) p) 0))
      (λ figures f. with_worth figures (worth_in (u (node.Line f p))) (unwrap_or (at_id (bonuses_in (u (node.Bonus f))) p) 0)) no_figures (fixtures_of b p g)
      (λ figures f a. ap₂ (with_worth figures) (ap worth_in (lines f)) (bonuses f)))

  bonus_indifferent : (f p g : ℕ) (old new : Value) → given old p ≡ given new p → IsIndifferent (season_graph b) (node.Bonus f) old new (node.PlayerGw p g)
  bonus_indifferent f p g old new same v u was is others =
      let won : Option Value → ℕ = λ o. unwrap_or (at_id (bonuses_in o) p) 0 in
      gathers_same v u p g
      (λ k. others (node.Line k p) (λ e. back_kind 1 0 (omega arith) (ap kind_of e)))
      (λ k. elim (cases_eq f k) [
        | inl e ↦ subst (λ x. won (v (node.Bonus x)) ≡ won (u (node.Bonus x))) e (ap won was ∙ same ∙ sym (ap won is))
        | inr apart ↦ ap won (others (node.Bonus k) (λ e. apart (ap first_of e)))
      ])

  bonus_rest : (f : ℕ) (old new : Value) (m : Node) → Among (bonus_dependents b f) m → Among (bonus_affected b f old new) m ⊎ IsIndifferent (season_graph b) (node.Bonus f) old new m
  bonus_rest f old new m a =
      let test : ℕ → Bool = λ p. not (given old p == given new p) in
      let p = from_flat (counting b f) (players_of b f) m a in
      let r = from_counting f p.0 m p.1.1 in
      elim (cases_eq (given old p.0) (given new p.0)) [
        | inl same ↦ inr (subst (IsIndifferent (season_graph b) (node.Bonus f) old new) r.1.2 (bonus_indifferent f p.0 r.0 old new same))
        | inr apart ↦ inl (to_flat (counting b f) (filter test (players_of b f)) p.0 m
            (to_filter test (players_of b f) p.0 p.1.0 (ap not (ne_eqb (given old p.0) (given new p.0) apart))) p.1.1)
      ]

  -- an entry's gameweek is an input of its totals
  total_there : (e g : ℕ) (m : Node) → is_live b (node.TeamGw e g) ≡ true → Among (total_dependents b e g) m → (is_live b m ≡ true) × Among (inputs_of b m) (node.TeamGw e g)
  total_there e g m l a =
      let test : ℕ → Bool = λ s. nat_le 1 s && nat_le s g in
      let r = from_map (node.Total e) (filter test (starts_of b e)) m a in
      let f = from_filter test (starts_of b e) r.0 r.1.0 in
      let low = at_most 1 r.0 (first_true (nat_le 1 r.0) (nat_le r.0 g) f.1) in
      let high = at_most r.0 g (second_true (nat_le 1 r.0) (nat_le r.0 g) f.1) in
      let begun = first_true (has_begun b e g) (nat_le 1 g && nat_le g b.calendar.locked) l in
      let top = at_most g b.calendar.locked (second_true (nat_le 1 g) (nat_le g b.calendar.locked) (second_true (has_begun b e g) (nat_le 1 g && nat_le g b.calendar.locked) l)) in
      subst (λ q. (is_live b q ≡ true) × Among (inputs_of b q) (node.TeamGw e g)) r.1.1 (
        total_lives b e r.0 (begun_later b e g b.calendar.locked begun top) (to_any r.0 (starts_of b e) f.0) low (omega (arith, high, top)),
        to_map (node.TeamGw e) (counted_gameweeks b e r.0) g (to_counted b e r.0 g high top begun),
      )

  if_case : (t : Bool) (o : Option ℕ) (i : ℕ) → (if t then o else None) ≡ Some i → (t ≡ true) × (o ≡ Some i)
  if_case true o i e = (refl, e)
  if_case false o i e = absurd (cc)

  -- the place of an entry in the order of a league that has a round
  from_place : (e g l : ℕ) (m : Node) (o : Option ℕ) → place_in b e g l ≡ o → Among (option_map_or (λ i. match_node b l i g ∷ average_if b l g) o []) m
      → (i : ℕ) × ((has_round b l g ≡ true) × (place_of (order_in b.leagues l) e ≡ Some i) × Among (match_node b l i g ∷ average_if b l g) m)
  from_place e g l m None is a = absurd a
  from_place e g l m (Some i) is a =
      let r = if_case (has_round b l g) (place_of (order_in b.leagues l) e) i is in
      (i, (r.0, r.1, a))

  to_place : (e g l i : ℕ) (m : Node) → has_round b l g ≡ true → place_of (order_in b.leagues l) e ≡ Some i → Among (match_node b l i g ∷ average_if b l g) m → Among (round_dependents b e g l) m
  to_place e g l i m round place a =
      let is : place_in b e g l ≡ Some i = ap (λ t. if t then place_of (order_in b.leagues l) e else None) round ∙ place in
      subst (λ o. Among (option_map_or (λ k. match_node b l k g ∷ average_if b l g) o []) m) (sym is) a

  average_case : (t : Bool) (n m : Node) → Among (if t then n ∷ [] else []) m → (t ≡ true) × (n ≡ m)
  average_case true n m (inl e) = (refl, e)
  average_case true n m (inr a) = absurd a
  average_case false n m a = absurd a

  -- who stands at a place plays in the match of that place
  match_case : (l g i : ℕ) (o : Opponent) → i < length (order_in b.leagues l) → opponent_in b l g i ≡ o
      → is_live b (node.TeamGw (slice_index (order_in b.leagues l) i) g) ≡ true → Among (inputs_of b (match_node b l i g)) (node.TeamGw (slice_index (order_in b.leagues l) i) g)
  match_case l g i Average within is live =
      let low : i < met_in b l g i = subst (λ o. i < place_met (length (order_in b.leagues l)) o) (sym is) within in
      subst (λ k. Among (inputs_of b (node.Match l g k)) (node.TeamGw (slice_index (order_in b.leagues l) i) g)) (sym (lower_own (length (order_in b.leagues l)) (g - start_in b.leagues l) i low)) (to_match_own b l g i live)
  match_case l g i (Place j) within is live = ⊎_elim own other (lower_whose n k i (lower_in b l g i) (Place j) is refl within)
    where
      n : ℕ
      n = length (order_in b.leagues l)

      k : ℕ
      k = g - start_in b.leagues l

      own : i ≡ lower_in b l g i → Among (inputs_of b (match_node b l i g)) (node.TeamGw (slice_index (order_in b.leagues l) i) g)
      own same = subst (λ q. Among (inputs_of b (node.Match l g q)) (node.TeamGw (slice_index (order_in b.leagues l) i) g)) same (to_match_own b l g i live)

      other : opponent_in b l g i ≡ Place (lower_in b l g i) → Among (inputs_of b (match_node b l i g)) (node.TeamGw (slice_index (order_in b.leagues l) i) g)
      other meets = to_match_met b l g (lower_in b l g i) i (met_place n k i (lower_in b l g i) within meets).2 live

  round_there : (e g l : ℕ) (m : Node) → is_live b (node.TeamGw e g) ≡ true → Among (round_dependents b e g l) m → (is_live b m ≡ true) × Among (inputs_of b m) (node.TeamGw e g)
  round_there e g l m live a = pick (from_place e g l m (place_in b e g l) refl a)
    where
      pick : (i : ℕ) × ((has_round b l g ≡ true) × (place_of (order_in b.leagues l) e ≡ Some i) × Among (match_node b l i g ∷ average_if b l g) m) → (is_live b m ≡ true) × Among (inputs_of b m) (node.TeamGw e g)
      pick r =
          let there = at_place (order_in b.leagues l) e r.0 r.1.1 in
          ⊎_elim
          (λ is. subst (λ q. (is_live b q ≡ true) × Among (inputs_of b q) (node.TeamGw e g)) is (
            own_match_lives b l r.0 g r.1.0 there.0,
            subst (λ q. Among (inputs_of b (match_node b l r.0 g)) (node.TeamGw q g)) there.1
                (match_case l g r.0 (opponent_in b l g r.0) there.0 refl (subst (λ q. is_live b (node.TeamGw q g) ≡ true) (sym there.1) live)),
          ))
          (λ average. let one = average_case (has_average (length (order_in b.leagues l))) (node.Average l g) m average in
          subst (λ q. (is_live b q ≡ true) × Among (inputs_of b q) (node.TeamGw e g)) one.1 (
            both_true (has_round b l g) (has_average (length (order_in b.leagues l))) r.1.0 one.0,
            to_average b l g e (placed_among (order_in b.leagues l) e r.0 r.1.1) live,
          ))
          r.1.2

  -- and of what its leagues have of it
  table_there : (e g : ℕ) (m : Node) → is_live b (node.TeamGw e g) ≡ true → Among (table_dependents b e g) m → (is_live b m ≡ true) × Among (inputs_of b m) (node.TeamGw e g)
  table_there e g m l a =
      ⊎_elim (total_there e g m l)
      (λ x. let r = from_flat (round_dependents b e g) (leagues_of b.leagues e) m x in round_there e g r.0 m l r.1.1)
      (among_either (total_dependents b e g) (flat_map (round_dependents b e g) (leagues_of b.leagues e)) m a)

  -- what a league has of an entry in its order is told
  round_listed : (e g l i : ℕ) (m : Node) → has_round b l g ≡ true → place_of (order_in b.leagues l) e ≡ Some i → Among (match_node b l i g ∷ average_if b l g) m → Among (table_dependents b e g) m
  round_listed e g l i m round place a =
      among_right (total_dependents b e g) (flat_map (round_dependents b e g) (leagues_of b.leagues e)) m
      (to_flat (round_dependents b e g) (leagues_of b.leagues e) l m
      (order_mine b is l e (placed_among (order_in b.leagues l) e i place)) (to_place e g l i m round place a))

  -- so for the one at a place of the order
  place_listed : (e g l h j : ℕ) (m : Node) → node.TeamGw (slice_index (order_in b.leagues l) j) h ≡ node.TeamGw e g → has_round b l h ≡ true → j < length (order_in b.leagues l)
      → match_node b l j h ≡ m → Among (table_dependents b e g) m
  place_listed e g l h j m same round within names =
      subst (λ x. Among (table_dependents b x g) m) (ap first_of same)
      (subst (λ y. Among (table_dependents b (slice_index (order_in b.leagues l) j) y) m) (ap second_of same)
      (round_listed (slice_index (order_in b.leagues l) j) h l j m round (own_place (order_in b.leagues l) (order_differs b is l) j within) (inl names)))

  table_back : (e g : ℕ) (m : Node) → (is_live b m ≡ true) × Among (inputs_of b m) (node.TeamGw e g) → (8 ≡ kind_of m → ⊥) → Among (table_dependents b e g) m
  table_back e g (node.Line k q) a other = absurd a.1
  table_back e g (node.Bonus k) a other = let r = from_map (node.Line k) (players_of b k) (node.TeamGw e g) a.1 in absurd (other_kind 0 3 (omega arith) (ap kind_of r.1.1))
  table_back e g (node.PlayerGw q h) a other =
      let r = from_flat (λ k. node.Line k q ∷ node.Bonus k ∷ []) (fixtures_of b q h) (node.TeamGw e g) a.1 in
      absurd (⊎_elim (λ i. other_kind 0 3 (omega arith) (ap kind_of i)) (⊎_elim (λ i. other_kind 1 3 (omega arith) (ap kind_of i)) (λ x. x)) r.1.1)
  table_back e g (node.TeamGw k h) a other = let r = from_map (λ q. node.PlayerGw q h) (fielded_in b k h) (node.TeamGw e g) a.1 in absurd (other_kind 2 3 (omega arith) (ap kind_of r.1.1))
  table_back e g (node.Total k s) a other =
      let r = from_map (node.TeamGw k) (counted_gameweeks b k s) (node.TeamGw e g) a.1 in
      let c = from_counted b k s r.0 r.1.0 in
      let alive = total_alive b k s a.0 in
      let test : ℕ → Bool = λ n. nat_le 1 n && nat_le n r.0 in
      subst (λ x. Among (table_dependents b x g) (node.Total k s)) (ap first_of r.1.1)
      (subst (λ y. Among (table_dependents b k y) (node.Total k s)) (ap second_of r.1.1)
      (among_left (total_dependents b k r.0) (flat_map (round_dependents b k r.0) (leagues_of b.leagues k)) (node.Total k s)
      (to_map (node.Total k) (filter test (starts_of b k)) s
      (to_filter test (starts_of b k) s (from_any s (starts_of b k) alive.1) (both_true (nat_le 1 s) (nat_le s r.0) (within 1 s alive.2) (within s r.0 c.0))))))
  table_back e g (node.Average k h) a other =
      let r = from_average b k h (node.TeamGw e g) a.1 in
      let order = order_in b.leagues k in
      let place = has_place order r.0 r.1.0 in
      let round = first_true (has_round b k h) (has_average (length order)) a.0 in
      let plays = second_true (has_round b k h) (has_average (length order)) a.0 in
      subst (λ x. Among (table_dependents b x g) (node.Average k h)) (ap first_of r.1.2)
      (subst (λ y. Among (table_dependents b r.0 y) (node.Average k h)) (ap second_of r.1.2)
      (round_listed r.0 h k place.0 (node.Average k h) round place.1
      (inr (subst (λ t. Among (if t then node.Average k h ∷ [] else []) (node.Average k h)) (sym plays) (inl refl)))))
  table_back e g (node.Match k h i) a other =
      let alive = match_alive b k h i a.0 in
      let n = length (order_in b.leagues k) in
      let round = h - start_in b.leagues k in
      let own = lower_own n round i alive.2 in
      ⊎_elim (λ mine. place_listed e g k h i (node.Match k h i) mine.1 alive.0 alive.1 (ap (node.Match k h) own))
      (⊎_elim
      (λ met. place_listed e g k h met.0 (node.Match k h i) met.1.1.1 alive.0 (met_place n round i met.0 alive.1 met.1.0).0
      (ap (node.Match k h) (lower_both n round i met.0 alive.1 met.1.0 ∙ own)))
      (λ average. absurd (back_kind 5 3 (omega arith) (ap kind_of average.1))))
      (from_match b k h i (node.TeamGw e g) a.1)
  table_back e g (node.HeadRow k q) a other = absurd (no_row_input k q (node.TeamGw e g) (back_kind 6 3 (omega arith)) a.1)
  table_back e g (node.Tie k h i) a other = absurd (other refl)

  -- the ties of a round that an entry can reach
  from_reached : (e c r : ℕ) (m : Node) → Among (reached b e c r) m → (i : ℕ) × ((i < ties_after (bracket_of b c) r) × Among (part_of (bracket_of b c) r i) e × (node.Tie c r i ≡ m))
  from_reached e c r m a =
      let n = ties_after (bracket_of b c) r in
      let test : ℕ → Bool = λ i. is_in (part_of (bracket_of b c) r i) e in
      let x = from_map (node.Tie c r) (filter test (range_with_len 0 n)) m a in
      let f = from_filter test (range_with_len 0 n) x.0 x.1.0 in
      let k = from_range 0 n x.0 f.0 in
      (x.0, (omega (arith, k.1), in_slots (part_of (bracket_of b c) r x.0) e f.1, x.1.1))

  to_reached : (e c r i : ℕ) → i < ties_after (bracket_of b c) r → Among (part_of (bracket_of b c) r i) e → Among (reached b e c r) (node.Tie c r i)
  to_reached e c r i low a =
      let n = ties_after (bracket_of b c) r in
      let test : ℕ → Bool = λ i. is_in (part_of (bracket_of b c) r i) e in
      to_map (node.Tie c r) (filter test (range_with_len 0 n)) i
      (to_filter test (range_with_len 0 n) i (to_range 0 n i (omega arith) (omega (arith, low))) (slots_in (part_of (bracket_of b c) r i) e a))

  cup_case : (e g c : ℕ) (m : Node) (t : Bool) → nat_le (bracket_of b c).start g ≡ t → Among (if t then reached b e c (g - (bracket_of b c).start) else []) m
      → ((bracket_of b c).start ≤ g) × Among (reached b e c (g - (bracket_of b c).start)) m
  cup_case e g c m true is a = (at_most (bracket_of b c).start g is, a)
  cup_case e g c m false is a = absurd a

  -- an entry's gameweek is an input of the ties of its round that the entry can reach
  cup_there : (e g c : ℕ) (m : Node) → is_live b (node.TeamGw e g) ≡ true → Among (cup_dependents b e g c) m → (is_live b m ≡ true) × Among (inputs_of b m) (node.TeamGw e g)
  cup_there e g c m l a =
      let start = (bracket_of b c).start in
      let r = g - start in
      let x = cup_case e g c m (nat_le start g) refl a in
      let y = from_reached e c r m x.1 in
      let round : round_of b c r ≡ g = omega (arith, x.0) in
      let top = at_most g b.calendar.locked (second_true (nat_le 1 g) (nat_le g b.calendar.locked) (second_true (has_begun b e g) (nat_le 1 g && nat_le g b.calendar.locked) l)) in
      let alive : is_live b (node.TeamGw e (round_of b c r)) ≡ true = subst (λ h. is_live b (node.TeamGw e h) ≡ true) (sym round) l in
      subst (λ q. (is_live b q ≡ true) × Among (inputs_of b q) (node.TeamGw e g)) y.1.2 (
        tie_lives b c r y.0 (subst (λ h. h ≤ b.calendar.locked) (sym round) top) y.1.0,
        subst (λ h. Among (inputs_of b (node.Tie c r y.0)) (node.TeamGw e h)) round (to_tie b c r y.0 e y.1.1 alive),
      )

  -- and of what its leagues and its cups have of it
  team_there : (e g : ℕ) (m : Node) → is_live b (node.TeamGw e g) ≡ true → Among (team_dependents b e g) m → (is_live b m ≡ true) × Among (inputs_of b m) (node.TeamGw e g)
  team_there e g m l a =
      ⊎_elim (table_there e g m l)
      (λ x. let r = from_flat (cup_dependents b e g) (range_with_len 1 (length b.cups)) m x in cup_there e g r.0 m l r.1.1)
      (among_either (table_dependents b e g) (flat_map (cup_dependents b e g) (range_with_len 1 (length b.cups))) m a)

  in_table : (e g : ℕ) (m : Node) → Among (table_dependents b e g) m → Among (team_dependents b e g) m
  in_table e g m a = among_left (table_dependents b e g) (flat_map (cup_dependents b e g) (range_with_len 1 (length b.cups))) m a

  in_cups : (e c r i : ℕ) → i < ties_after (bracket_of b c) r → Among (part_of (bracket_of b c) r i) e → Among (team_dependents b e (round_of b c r)) (node.Tie c r i)
  in_cups e c r i low a =
      let start = (bracket_of b c).start in
      let g = round_of b c r in
      let there = cup_within b.cups c r i low in
      let up : start ≤ g = omega arith in
      let same : r ≡ g - start = omega arith in
      among_right (table_dependents b e g) (flat_map (cup_dependents b e g) (range_with_len 1 (length b.cups))) (node.Tie c r i)
      (to_flat (cup_dependents b e g) (range_with_len 1 (length b.cups)) c (node.Tie c r i)
      (to_range 1 (length b.cups) c there.0 (omega (arith, there.1)))
      (subst (λ t. Among (if t then reached b e c (g - start) else []) (node.Tie c r i)) (sym (within start g up))
      (subst (λ k. Among (reached b e c k) (node.Tie c r i)) same (to_reached e c r i low a))))

  team_back : (e g : ℕ) (m : Node) → (is_live b m ≡ true) × Among (inputs_of b m) (node.TeamGw e g) → Among (team_dependents b e g) m
  team_back e g (node.Line k q) a = in_table e g (node.Line k q) (table_back e g (node.Line k q) a (back_kind 8 0 (omega arith)))
  team_back e g (node.Bonus k) a = in_table e g (node.Bonus k) (table_back e g (node.Bonus k) a (back_kind 8 1 (omega arith)))
  team_back e g (node.PlayerGw q h) a = in_table e g (node.PlayerGw q h) (table_back e g (node.PlayerGw q h) a (back_kind 8 2 (omega arith)))
  team_back e g (node.TeamGw k h) a = in_table e g (node.TeamGw k h) (table_back e g (node.TeamGw k h) a (back_kind 8 3 (omega arith)))
  team_back e g (node.Total k s) a = in_table e g (node.Total k s) (table_back e g (node.Total k s) a (back_kind 8 4 (omega arith)))
  team_back e g (node.Average k h) a = in_table e g (node.Average k h) (table_back e g (node.Average k h) a (back_kind 8 5 (omega arith)))
  team_back e g (node.Match k h i) a = in_table e g (node.Match k h i) (table_back e g (node.Match k h i) a (back_kind 8 6 (omega arith)))
  team_back e g (node.HeadRow k q) a = in_table e g (node.HeadRow k q) (table_back e g (node.HeadRow k q) a (back_kind 8 7 (omega arith)))
  team_back e g (node.Tie c r i) a =
      let alive = tie_alive b c r i a.0 in
      ⊎_elim
      (λ x. absurd (⊎_elim (λ e. back_kind 8 3 (omega arith) (ap kind_of e)) (λ e. back_kind 8 3 (omega arith) (ap kind_of e)) x.1.1))
      (λ x. subst (λ k. Among (team_dependents b k g) (node.Tie c r i)) (ap first_of x.1.2)
      (subst (λ h. Among (team_dependents b x.0 h) (node.Tie c r i)) (ap second_of x.1.2) (in_cups x.0 c r i alive.1 x.1.0)))
      (from_tie b c r i (node.TeamGw e g) a.1)

  average_is : (o : Opponent) → is_average o ≡ true → o ≡ Average
  average_is (Place j) e = absurd (cc)
  average_is Average e = refl

  -- an Average is an input of the match of whom it meets
  average_there : (l g : ℕ) (m : Node) → is_live b (node.Average l g) ≡ true → Among (average_dependents b l g) m → (is_live b m ≡ true) × Among (inputs_of b m) (node.Average l g)
  average_there l g m live a =
      let n = length (order_in b.leagues l) in
      let test : ℕ → Bool = λ i. is_average (opponent_in b l g i) in
      let r = from_map (node.Match l g) (filter test (range_with_len 0 n)) m a in
      let f = from_filter test (range_with_len 0 n) r.0 r.1.0 in
      let k = from_range 0 n r.0 f.0 in
      let low : r.0 < n = omega (arith, k.1) in
      let meets = average_is (opponent_in b l g r.0) f.1 in
      subst (λ q. (is_live b q ≡ true) × Among (inputs_of b q) (node.Average l g)) r.1.1 (
        match_lives b l g r.0 (first_true (has_round b l g) (has_average n) live) low (subst (λ o. r.0 < place_met n o) (sym meets) low),
        to_match_average b l g r.0 meets,
      )

  average_back : (l g : ℕ) (m : Node) → (is_live b m ≡ true) × Among (inputs_of b m) (node.Average l g) → Among (average_dependents b l g) m
  average_back l g (node.Line k q) a = absurd a.1
  average_back l g (node.Bonus k) a = let r = from_map (node.Line k) (players_of b k) (node.Average l g) a.1 in absurd (other_kind 0 5 (omega arith) (ap kind_of r.1.1))
  average_back l g (node.PlayerGw q h) a =
      let r = from_flat (λ k. node.Line k q ∷ node.Bonus k ∷ []) (fixtures_of b q h) (node.Average l g) a.1 in
      absurd (⊎_elim (λ i. other_kind 0 5 (omega arith) (ap kind_of i)) (⊎_elim (λ i. other_kind 1 5 (omega arith) (ap kind_of i)) (λ x. x)) r.1.1)
  average_back l g (node.TeamGw k h) a = let r = from_map (λ q. node.PlayerGw q h) (fielded_in b k h) (node.Average l g) a.1 in absurd (other_kind 2 5 (omega arith) (ap kind_of r.1.1))
  average_back l g (node.Total k s) a = let r = from_map (node.TeamGw k) (counted_gameweeks b k s) (node.Average l g) a.1 in absurd (other_kind 3 5 (omega arith) (ap kind_of r.1.1))
  average_back l g (node.Average k h) a = absurd (no_average_input k h (node.Average l g) (other_kind 3 5 (omega arith)) a.1)
  average_back l g (node.Match k h i) a =
      let alive = match_alive b k h i a.0 in
      let n = length (order_in b.leagues k) in
      let test : ℕ → Bool = λ j. is_average (opponent_in b k h j) in
      ⊎_elim (λ mine. absurd (other_kind 3 5 (omega arith) (ap kind_of mine.1)))
      (⊎_elim (λ met. absurd (other_kind 3 5 (omega arith) (ap kind_of met.1.1.1)))
      (λ average. subst (λ x. Among (average_dependents b x g) (node.Match k h i)) (ap first_of average.1)
      (subst (λ y. Among (average_dependents b k y) (node.Match k h i)) (ap second_of average.1)
      (to_map (node.Match k h) (filter test (range_with_len 0 n)) i
      (to_filter test (range_with_len 0 n) i (to_range 0 n i (omega arith) (omega (arith, alive.1))) (ap is_average average.0))))))
      (from_match b k h i (node.Average l g) a.1)
  average_back l g (node.HeadRow k q) a = absurd (no_row_input k q (node.Average l g) (back_kind 6 5 (omega arith)) a.1)
  average_back l g (node.Tie k h j) a = absurd (no_tie_input k h j (node.Average l g) (back_kind 8 5 (omega arith)) (other_kind 3 5 (omega arith)) a.1)

  -- the row of who stands at a place has the match of that place
  row_there : (l g i j : ℕ) (m : Node) → has_round b l g ≡ true → j < length (order_in b.leagues l) → match_node b l j g ≡ node.Match l g i
      → node.HeadRow l (slice_index (order_in b.leagues l) j) ≡ m → (is_live b m ≡ true) × Among (inputs_of b m) (node.Match l g i)
  row_there l g i j m round within names is_it =
      let order = order_in b.leagues l in
      let place = own_place order (order_differs b is l) j within in
      subst (λ q. (is_live b q ≡ true) × Among (inputs_of b q) (node.Match l g i)) is_it (
        ap is_some place,
        subst (Among (inputs_of b (node.HeadRow l (slice_index order j)))) names (to_row b l (slice_index order j) j g place round),
      )

  opponent_case : (l g i : ℕ) (o : Opponent) (m : Node) → opponent_in b l g i ≡ o → has_round b l g ≡ true → i < length (order_in b.leagues l) → match_node b l i g ≡ node.Match l g i
      → Among (opponent_dependents b l o) m → (is_live b m ≡ true) × Among (inputs_of b m) (node.Match l g i)
  opponent_case l g i (Place j) m is round within names (inl e) =
      let n = length (order_in b.leagues l) in
      let k = g - start_in b.leagues l in
      row_there l g i j m round (met_place n k i j within is).0 (ap (node.Match l g) (lower_both n k i j within is) ∙ names) e
  opponent_case l g i (Place j) m is round within names (inr a) = absurd a
  opponent_case l g i Average m is round within names a = absurd a

  -- a match is an input of the rows of those who meet
  match_there : (l g i : ℕ) (m : Node) → is_live b (node.Match l g i) ≡ true → Among (match_dependents b l g i) m → (is_live b m ≡ true) × Among (inputs_of b m) (node.Match l g i)
  match_there l g i m live a =
      let alive = match_alive b l g i live in
      let names : match_node b l i g ≡ node.Match l g i = ap (node.Match l g) (lower_own (length (order_in b.leagues l)) (g - start_in b.leagues l) i alive.2) in
      ⊎_elim (λ own. row_there l g i i m alive.0 alive.1 names own) (opponent_case l g i (opponent_in b l g i) m refl alive.0 alive.1 names) a

  row_back : (l g i e j : ℕ) → place_of (order_in b.leagues l) e ≡ Some j → match_node b l j g ≡ node.Match l g i → Among (match_dependents b l g i) (node.HeadRow l e)
  row_back l g i e j place names =
      let order = order_in b.leagues l in
      let n = length order in
      let k = g - start_in b.leagues l in
      let there = at_place order e j place in
      ⊎_elim
      (λ same. inl (ap (node.HeadRow l) (ap (slice_index order) (sym same) ∙ there.1)))
      (λ meets. let back = (met_place n k j i there.0 meets).2 in
      inr (subst (λ o. Among (opponent_dependents b l o) (node.HeadRow l e)) (sym back) (inl (ap (node.HeadRow l) there.1))))
      (lower_whose n k j i (opponent_in b l g j) refl (ap third_of names) there.0)

  match_back : (l g i : ℕ) (m : Node) → (is_live b m ≡ true) × Among (inputs_of b m) (node.Match l g i) → Among (match_dependents b l g i) m
  match_back l g i (node.Line k q) a = absurd a.1
  match_back l g i (node.Bonus k) a = let r = from_map (node.Line k) (players_of b k) (node.Match l g i) a.1 in absurd (other_kind 0 6 (omega arith) (ap kind_of r.1.1))
  match_back l g i (node.PlayerGw q h) a =
      let r = from_flat (λ k. node.Line k q ∷ node.Bonus k ∷ []) (fixtures_of b q h) (node.Match l g i) a.1 in
      absurd (⊎_elim (λ e. other_kind 0 6 (omega arith) (ap kind_of e)) (⊎_elim (λ e. other_kind 1 6 (omega arith) (ap kind_of e)) (λ x. x)) r.1.1)
  match_back l g i (node.TeamGw k h) a = let r = from_map (λ q. node.PlayerGw q h) (fielded_in b k h) (node.Match l g i) a.1 in absurd (other_kind 2 6 (omega arith) (ap kind_of r.1.1))
  match_back l g i (node.Total k s) a = let r = from_map (node.TeamGw k) (counted_gameweeks b k s) (node.Match l g i) a.1 in absurd (other_kind 3 6 (omega arith) (ap kind_of r.1.1))
  match_back l g i (node.Average k h) a = absurd (no_average_input k h (node.Match l g i) (other_kind 3 6 (omega arith)) a.1)
  match_back l g i (node.Match k h j) a = absurd (no_match_input k h j (node.Match l g i) (other_kind 3 6 (omega arith)) (other_kind 5 6 (omega arith)) a.1)
  match_back l g i (node.HeadRow k e) a =
      let r = from_row b k e (node.Match l g i) a.1 in
      let league : k ≡ l = ap first_of r.1.1.2 in
      let gameweek : r.1.0 ≡ g = ap second_of r.1.1.2 in
      subst (λ x. Among (match_dependents b x g i) (node.HeadRow k e)) league
      (subst (λ y. Among (match_dependents b k y i) (node.HeadRow k e)) gameweek
      (row_back k r.1.0 i e r.0 r.1.1.0 (r.1.1.2 ∙ ap₂ (λ x y. node.Match x y i) (sym league) (sym gameweek))))
  match_back l g i (node.Tie k h j) a = absurd (no_tie_input k h j (node.Match l g i) (back_kind 8 6 (omega arith)) (other_kind 3 6 (omega arith)) a.1)

  -- a row is no input
  last_back : (l e : ℕ) (m : Node) → Among (inputs_of b m) (node.HeadRow l e) → ⊥
  last_back l e (node.Line k q) a = a
  last_back l e (node.Bonus k) a = let r = from_map (node.Line k) (players_of b k) (node.HeadRow l e) a in other_kind 0 7 (omega arith) (ap kind_of r.1.1)
  last_back l e (node.PlayerGw q h) a =
      let r = from_flat (λ k. node.Line k q ∷ node.Bonus k ∷ []) (fixtures_of b q h) (node.HeadRow l e) a in
      ⊎_elim (λ i. other_kind 0 7 (omega arith) (ap kind_of i)) (⊎_elim (λ i. other_kind 1 7 (omega arith) (ap kind_of i)) (λ x. x)) r.1.1
  last_back l e (node.TeamGw k h) a = let r = from_map (λ q. node.PlayerGw q h) (fielded_in b k h) (node.HeadRow l e) a in other_kind 2 7 (omega arith) (ap kind_of r.1.1)
  last_back l e (node.Total k n) a = let r = from_map (node.TeamGw k) (counted_gameweeks b k n) (node.HeadRow l e) a in other_kind 3 7 (omega arith) (ap kind_of r.1.1)
  last_back l e (node.Average k h) a = no_average_input k h (node.HeadRow l e) (other_kind 3 7 (omega arith)) a
  last_back l e (node.Match k h i) a = no_match_input k h i (node.HeadRow l e) (other_kind 3 7 (omega arith)) (other_kind 5 7 (omega arith)) a
  last_back l e (node.HeadRow k q) a = no_row_input k q (node.HeadRow l e) (other_kind 6 7 (omega arith)) a
  last_back l e (node.Tie k h j) a = no_tie_input k h j (node.HeadRow l e) (back_kind 8 7 (omega arith)) (other_kind 3 7 (omega arith)) a

  -- a total is no input
  total_back : (e s : ℕ) (m : Node) → Among (inputs_of b m) (node.Total e s) → ⊥
  total_back e s (node.Line k q) a = a
  total_back e s (node.Bonus k) a = let r = from_map (node.Line k) (players_of b k) (node.Total e s) a in other_kind 0 4 (omega arith) (ap kind_of r.1.1)
  total_back e s (node.PlayerGw q h) a =
      let r = from_flat (λ k. node.Line k q ∷ node.Bonus k ∷ []) (fixtures_of b q h) (node.Total e s) a in
      ⊎_elim (λ i. other_kind 0 4 (omega arith) (ap kind_of i)) (⊎_elim (λ i. other_kind 1 4 (omega arith) (ap kind_of i)) (λ x. x)) r.1.1
  total_back e s (node.TeamGw k h) a = let r = from_map (λ q. node.PlayerGw q h) (fielded_in b k h) (node.Total e s) a in other_kind 2 4 (omega arith) (ap kind_of r.1.1)
  total_back e s (node.Total k n) a = let r = from_map (node.TeamGw k) (counted_gameweeks b k n) (node.Total e s) a in other_kind 3 4 (omega arith) (ap kind_of r.1.1)
  total_back e s (node.Average k h) a = no_average_input k h (node.Total e s) (other_kind 3 4 (omega arith)) a
  total_back e s (node.Match k h i) a = no_match_input k h i (node.Total e s) (other_kind 3 4 (omega arith)) (back_kind 5 4 (omega arith)) a
  total_back e s (node.HeadRow k q) a = no_row_input k q (node.Total e s) (back_kind 6 4 (omega arith)) a
  total_back e s (node.Tie k h j) a = no_tie_input k h j (node.Total e s) (back_kind 8 4 (omega arith)) (other_kind 3 4 (omega arith)) a

  -- a tie is an input of that of the next round to which it leads
  next_inputs : (c r i : ℕ) → Among (ties_before b c (suc r) (i / 2)) (node.Tie c r i)
  next_inputs c r i =
      elim (cases_lt (2 * (i / 2)) i) [
        | inl odd ↦ let same : 2 * (i / 2) + 1 ≡ i = omega (arith, odd) in inr (inl (ap (node.Tie c r) same))
        | inr even ↦ let same : 2 * (i / 2) ≡ i = omega (arith, even) in inl (ap (node.Tie c r) same)
      ]

  tie_there : (c r i : ℕ) (m : Node) → Among (tie_dependents b c r i) m → (is_live b m ≡ true) × Among (inputs_of b m) (node.Tie c r i)
  tie_there c r i m a =
      let next = node.Tie c (suc r) (i / 2) in
      let x = average_case (is_live b next) next m a in
      subst (λ q. (is_live b q ≡ true) × Among (inputs_of b q) (node.Tie c r i)) x.1
      (x.0, among_left (ties_before b c (suc r) (i / 2)) (entrant_inputs b c (suc r) (i / 2)) (node.Tie c r i) (next_inputs c r i))

  tie_next : (c r i j : ℕ) → is_live b (node.Tie c (suc r) j) ≡ true → j ≡ i / 2 → Among (tie_dependents b c r i) (node.Tie c (suc r) j)
  tie_next c r i j alive half =
      let next = node.Tie c (suc r) (i / 2) in
      let lives : is_live b next ≡ true = subst (λ k. is_live b (node.Tie c (suc r) k) ≡ true) half alive in
      subst (λ t. Among (if t then next ∷ [] else []) (node.Tie c (suc r) j)) (sym lives) (inl (ap (node.Tie c (suc r)) (sym half)))

  -- so where it is the first or the second of those that lead to one
  tie_is : (c r i k q h j n : ℕ) → is_live b (node.Tie k h j) ≡ true → suc q ≡ h → (n ≡ 2 * j) ⊎ (n ≡ 2 * j + 1) → node.Tie k q n ≡ node.Tie c r i → Among (tie_dependents b c r i) (node.Tie k h j)
  tie_is c r i k q h j n alive up place same =
      let number : n ≡ i = ap third_of same in
      let half : j ≡ i / 2 = ⊎_elim (λ e. let x : n ≡ 2 * j = e in omega (arith, number, x)) (λ e. let x : n ≡ 2 * j + 1 = e in omega (arith, number, x)) place in
      subst (λ y. Among (tie_dependents b c r i) (node.Tie k y j)) up
      (subst (λ x. Among (tie_dependents b x r i) (node.Tie k (suc q) j)) (ap first_of same)
      (subst (λ y. Among (tie_dependents b k y i) (node.Tie k (suc q) j)) (ap second_of same)
      (tie_next k q i j (subst (λ y. is_live b (node.Tie k y j) ≡ true) (sym up) alive) half)))

  tie_back : (c r i : ℕ) (m : Node) → (is_live b m ≡ true) × Among (inputs_of b m) (node.Tie c r i) → Among (tie_dependents b c r i) m
  tie_back c r i (node.Line k q) a = absurd a.1
  tie_back c r i (node.Bonus k) a = let x = from_map (node.Line k) (players_of b k) (node.Tie c r i) a.1 in absurd (other_kind 0 8 (omega arith) (ap kind_of x.1.1))
  tie_back c r i (node.PlayerGw q h) a =
      let x = from_flat (λ k. node.Line k q ∷ node.Bonus k ∷ []) (fixtures_of b q h) (node.Tie c r i) a.1 in
      absurd (⊎_elim (λ e. other_kind 0 8 (omega arith) (ap kind_of e)) (⊎_elim (λ e. other_kind 1 8 (omega arith) (ap kind_of e)) (λ y. y)) x.1.1)
  tie_back c r i (node.TeamGw k h) a = let x = from_map (λ q. node.PlayerGw q h) (fielded_in b k h) (node.Tie c r i) a.1 in absurd (other_kind 2 8 (omega arith) (ap kind_of x.1.1))
  tie_back c r i (node.Total k s) a = let x = from_map (node.TeamGw k) (counted_gameweeks b k s) (node.Tie c r i) a.1 in absurd (other_kind 3 8 (omega arith) (ap kind_of x.1.1))
  tie_back c r i (node.Average k h) a = absurd (no_average_input k h (node.Tie c r i) (other_kind 3 8 (omega arith)) a.1)
  tie_back c r i (node.Match k h j) a = absurd (no_match_input k h j (node.Tie c r i) (other_kind 3 8 (omega arith)) (other_kind 5 8 (omega arith)) a.1)
  tie_back c r i (node.HeadRow k e) a = absurd (no_row_input k e (node.Tie c r i) (other_kind 6 8 (omega arith)) a.1)
  tie_back c r i (node.Tie k h j) a =
      ⊎_elim
      (λ x. ⊎_elim (tie_is c r i k x.0 h j (2 * j) a.0 x.1.0 (inl refl)) (tie_is c r i k x.0 h j (2 * j + 1) a.0 x.1.0 (inr refl)) x.1.1)
      (λ x. absurd (other_kind 3 8 (omega arith) (ap kind_of x.1.2)))
      (from_tie b k h j (node.Tie c r i) a.1)

  module _ (holders : ℕ → ℕ → List ℕ) (index : IsIndex b holders) where
    gameweek_there : (p g : ℕ) (m : Node) → is_live b (node.PlayerGw p g) ≡ true → Among (gameweek_dependents (holders p g) g) m → (is_live b m ≡ true) × Among (inputs_of b m) (node.PlayerGw p g)
    gameweek_there p g m l a =
        let r = from_map (λ e. node.TeamGw e g) (holders p g) m a in
        let h = (index p g r.0).0 r.1.0 in
        subst (λ q. (is_live b q ≡ true) × Among (inputs_of b q) (node.PlayerGw p g)) r.1.1 (
          h.0,
          to_map (λ q. node.PlayerGw q g) (fielded_in b r.0 g) p
              (to_filter (is_there b) (fifteen_of b r.0 g) p h.1 (first_true (is_there b p) (nat_le 1 g && nat_le g b.calendar.locked) l)),
        )

    gameweek_back : (p g : ℕ) (m : Node) → (is_live b m ≡ true) × Among (inputs_of b m) (node.PlayerGw p g) → Among (gameweek_dependents (holders p g) g) m
    gameweek_back p g (node.Line k q) a = absurd a.1
    gameweek_back p g (node.Bonus k) a = let r = from_map (node.Line k) (players_of b k) (node.PlayerGw p g) a.1 in absurd (other_kind 0 2 (omega arith) (ap kind_of r.1.1))
    gameweek_back p g (node.PlayerGw q h) a =
        let r = from_flat (λ k. node.Line k q ∷ node.Bonus k ∷ []) (fixtures_of b q h) (node.PlayerGw p g) a.1 in
        absurd (⊎_elim (λ e. other_kind 0 2 (omega arith) (ap kind_of e)) (⊎_elim (λ e. other_kind 1 2 (omega arith) (ap kind_of e)) (λ x. x)) r.1.1)
    gameweek_back p g (node.TeamGw e h) a =
        let r = from_map (λ q. node.PlayerGw q h) (fielded_in b e h) (node.PlayerGw p g) a.1 in
        subst (λ k. Among (gameweek_dependents (holders p k) k) (node.TeamGw e h)) (ap second_of r.1.1)
        (to_map (λ x. node.TeamGw x h) (holders p h) e
        ((index p h e).1 (a.0, subst (λ q. Among (fifteen_of b e h) q) (ap first_of r.1.1) (from_filter (is_there b) (fifteen_of b e h) r.0 r.1.0).0)))
    gameweek_back p g (node.Total e s) a = let r = from_map (node.TeamGw e) (counted_gameweeks b e s) (node.PlayerGw p g) a.1 in absurd (back_kind 3 2 (omega arith) (ap kind_of r.1.1))
    gameweek_back p g (node.Average k h) a = absurd (no_average_input k h (node.PlayerGw p g) (back_kind 3 2 (omega arith)) a.1)
    gameweek_back p g (node.Match k h i) a = absurd (no_match_input k h i (node.PlayerGw p g) (back_kind 3 2 (omega arith)) (back_kind 5 2 (omega arith)) a.1)
    gameweek_back p g (node.HeadRow k q) a = absurd (no_row_input k q (node.PlayerGw p g) (back_kind 6 2 (omega arith)) a.1)
    gameweek_back p g (node.Tie k h j) a = absurd (no_tie_input k h j (node.PlayerGw p g) (back_kind 8 2 (omega arith)) (back_kind 3 2 (omega arith)) a.1)

    -- dependents are the live nodes of which a node is an input
    pub season_dependents : (n : Node) → is_live b n ≡ true → IsDependents (season_graph b) n (dependents_of b holders n)
    season_dependents (node.Line f p) l m = (line_there f p m l, line_back f p m)
    season_dependents (node.Bonus f) l m = (bonus_there f m, bonus_back f m)
    season_dependents (node.PlayerGw p g) l m = (gameweek_there p g m l, gameweek_back p g m)
    season_dependents (node.TeamGw e g) l m = (team_there e g m l, team_back e g m)
    season_dependents (node.Total e s) l m = ((λ a. absurd a), (λ a. absurd (total_back e s m a.1)))
    season_dependents (node.Average l g) live m = (average_there l g m live, average_back l g m)
    season_dependents (node.Match l g i) live m = (match_there l g i m live, match_back l g i m)
    season_dependents (node.HeadRow l e) live m = ((λ a. absurd a), (λ a. absurd (last_back l e m a.1)))
    season_dependents (node.Tie c r i) live m = (tie_there c r i m, tie_back c r i m)

-- so of a list that is that of the dependents
pub dependents_are : (b : SeasonFacts) → IsSeason b → (holders : ℕ → ℕ → List ℕ) → IsIndex b holders → (n k : Node) (ns : List Node) → n ≡ k → ns ≡ dependents_of b holders k → is_live b n ≡ true → IsDependents (season_graph b) n ns
dependents_are b is holders index n k ns e d l = subst (IsDependents (season_graph b) n) (sym (d ∙ ap (dependents_of b holders) (sym e))) (season_dependents b is holders index n l)

-- and of a bonus those to whom it matters
pub affected_are : (b : SeasonFacts) → IsSeason b → (n : Node) (f : ℕ) (old new : Value) (ns : List Node) → n ≡ node.Bonus f → ns ≡ bonus_affected b f old new → AreAffected (season_graph b) n old new ns
affected_are b is n f old new ns e d = subst (λ q. AreAffected (season_graph b) q old new ns) (sym e) (subst (AreAffected (season_graph b) (node.Bonus f) old new) (sym d)
    (record { depend = λ m a. bonus_there b is f m (bonus_subset b is f old new m a); rest = λ m k. bonus_rest b is f old new m (bonus_back b is f m k) }))
