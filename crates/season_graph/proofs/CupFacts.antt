-- The ties of cups: which a change keeps, and what is listed of them.
use Rattle.std.proofs.Common.{◌≡◌, ℕ, zero, suc, ◌+◌, ◌-◌, ◌*◌, ◌<◌, ◌≤◌, nat_le, nat_lt, Bool, true, false, ◌&&◌, if◌then◌else◌, ⊎_elim, List, [], Option, length, slice_index, refl, sym, ◌∙◌, ap, subst, arith}
use Rattle.std.specs.List.{range_with_len}
use Rattle.std.proofs.lemmas.Bool.Decides.{leb_tells, nat_tests}
use Rattle.rule_book.specs.declared.cup.Bracket.{Bracket}
use Rattle.rule_book.specs.declared.cup.Side.{Side}
use Rattle.rule_book.specs.Cups.{coin_after, goes_through}
use Rattle.rule_book.specs.Totals.{gameweeks}
use Rattle.rescore_graph.specs.Graph.{Among}
use Rattle.season_graph.specs.Changes.{EntriesStay, IsKept, SameReach}
use Rattle.season_nodes.specs.declared.nodes.Node.{Node}
use Rattle.season_nodes.specs.declared.nodes.Node.TheVariants as node
use Rattle.season_nodes.specs.declared.nodes.Value.{Value}
use Rattle.season_nodes.specs.Brackets.{is_in, no_side, part_of, ties_after}
use Rattle.season_nodes.specs.Reading.{among_either, among_left, from_flat, from_map, from_range, to_flat, to_map, to_range}
use Rattle.season_nodes.specs.Season.{SeasonFacts, bracket_of, comer_by, entrant_inputs, inputs_of, is_live, round_of, side_among, side_by, side_held, tie_by, ties_before}
use Rattle.season_nodes.specs.SeasonLaws.{from_entrants, tie_alive, to_tie}
use Rattle.season_nodes.specs.TieLaws.{cup_within, in_slots}
use Rattle.season_graph.specs.Touched.{cup_round, cups_since, tie_nodes, ties_since}
use Rattle.season_graph.proofs.GameweekFacts.{numbered_among}
use Rattle.season_graph.proofs.TeamFacts.{team_live}

side_case : (t : Bool) (x y : Side) → (t ≡ true → x ≡ y) → (if t then x else no_side) ≡ (if t then y else no_side)
side_case true x y e = e refl
side_case false x y e = refl

-- A cup that has the same bracket in both.
module _ (b d : SeasonFacts) (c : ℕ) (bracket : bracket_of b c ≡ bracket_of d c) where
  same_before : (r i : ℕ) → ties_before d c r i ≡ ties_before b c r i
  same_before zero i = refl
  same_before (suc r) i = refl

  round_same : (r : ℕ) → round_of b c r ≡ round_of d c r
  round_same r = ap (λ (x : Bracket). x.start + r) bracket

  module _ (r i : ℕ) (same : SameReach b d c r i) where
    entrant_reads : (m : Node) → Among (entrant_inputs d c r i) m → Among (inputs_of b (node.Tie c r i)) m
    entrant_reads m a =
        let x = from_entrants d c r i m a in
        let e = x.0 in
        let live : is_live b (node.TeamGw e (round_of d c r)) ≡ true = same e x.1.0 ∙ x.1.1 in
        let part = subst (λ (y : Bracket). Among (part_of y r i) e) (sym bracket) x.1.0 in
        subst (Among (inputs_of b (node.Tie c r i))) x.1.2
        (subst (λ g. Among (inputs_of b (node.Tie c r i)) (node.TeamGw e g)) (round_same r)
        (to_tie b c r i e part (subst (λ g. is_live b (node.TeamGw e g) ≡ true) (sym (round_same r)) live)))

    -- a tie reads the same
    pub tie_reads : (m : Node) → Among (inputs_of d (node.Tie c r i)) m → Among (inputs_of b (node.Tie c r i)) m
    tie_reads m a =
        ⊎_elim
        (λ x. among_left (ties_before b c r i) (entrant_inputs b c r i) m (subst (λ ns. Among ns m) (same_before r i) x))
        (entrant_reads m)
        (among_either (ties_before d c r i) (entrant_inputs d c r i) m a)

    comer_same : (v : Node → Option Value) (k place : ℕ) → comer_by b v c k place ≡ comer_by d v c k place
    comer_same v zero place = ap (λ (x : Bracket). slice_index x.slots place) bracket
    comer_same v (suc k) place = refl

    side_same : (v : Node → Option Value) (e : ℕ) → side_among b v c r i e ≡ side_among d v c r i e
    side_same v e =
        let g = round_of d c r in
        let part = part_of (bracket_of d c) r i in
        ap (λ (x : Bracket). if is_in (part_of x r i) e then side_by b v e (x.start + r) else no_side) bracket
        ∙ side_case (is_in part e) (side_by b v e g) (side_by d v e g)
        (λ y. ap (λ t. if t then side_held (v (node.TeamGw e g)) else no_side) (same e (in_slots part e y)))

    pub tie_alike : (v : Node → Option Value) → tie_by b v c r i ≡ tie_by d v c r i
    tie_alike v = λ x. goes_through (comer_same v r (2 * i) x) (comer_same v r (2 * i + 1) x) (λ e. side_same v e x) (coin_after (bracket x) r i)

  -- it is kept where the entries are as they were
  pub tie_kept : EntriesStay b d → (r i : ℕ) → nat_le (round_of d c r) b.calendar.locked ≡ nat_le (round_of d c r) d.calendar.locked → IsKept b d (node.Tie c r i)
  tie_kept stay r i locked = (
    ap (λ (x : Bracket). nat_le (x.start + r) b.calendar.locked && nat_lt i (ties_after x r)) bracket
        ∙ ap (λ t. t && nat_lt i (ties_after (bracket_of d c) r)) locked,
    λ live. (bracket, λ e a. team_live b d stay e (round_of d c r) locked),
  )

-- so where as many gameweeks are locked
pub tie_stays : (b d : SeasonFacts) → EntriesStay b d → b.calendar.locked ≡ d.calendar.locked → (c : ℕ) → bracket_of b c ≡ bracket_of d c → (r i : ℕ) → IsKept b d (node.Tie c r i)
tie_stays b d stay locked c bracket r i = tie_kept b d c bracket stay r i (ap (nat_le (round_of d c r)) locked)

-- Where they are listed.

pub within : (h n : ℕ) → h ≤ n → nat_le h n ≡ true
within h n e = ⊎_elim (λ a. a.0) (λ a. let x : n < h = a.1 in absurd (omega arith)) (leb_tells h n)

at_most : (h n : ℕ) → nat_le h n ≡ true → h ≤ n
at_most h n e = grind (arith, nat_tests)

if_there : (t : Bool) (rest : List Node) (n : Node) → Among (if t then rest else []) n → (t ≡ true) × Among rest n
if_there true rest n a = (refl, a)
if_there false rest n a = absurd a

module _ (d : SeasonFacts) where
  tie_listed : (c r i from : ℕ) → from ≤ round_of d c r → is_live d (node.Tie c r i) ≡ true → Among (ties_since d from c) (node.Tie c r i)
  tie_listed c r i from low alive =
      let is = tie_alive d c r i alive in
      let start = (bracket_of d c).start in
      let g = round_of d c r in
      let n = ties_after (bracket_of d c) r in
      let up : start ≤ g = omega arith in
      let same : r ≡ g - start = omega arith in
      to_flat (cup_round d c) (gameweeks from d.calendar.locked) g (node.Tie c r i)
      (to_range from ((d.calendar.locked + 1) - from) g low (omega (arith, low, is.0)))
      (subst (λ t. Among (if t then tie_nodes d c (g - start) else []) (node.Tie c r i)) (sym (within start g up))
      (subst (λ k. Among (tie_nodes d c k) (node.Tie c r i)) same
      (to_map (node.Tie c r) (range_with_len 0 n) i (to_range 0 n i (omega arith) (omega (arith, is.1))))))

  -- a live one is among those of all cups from its gameweek or from one before it on
  pub tie_since : (c r i from : ℕ) → from ≤ round_of d c r → is_live d (node.Tie c r i) ≡ true → Among (cups_since d from) (node.Tie c r i)
  tie_since c r i from low alive =
      let number = cup_within d.cups c r i (tie_alive d c r i alive).1 in
      numbered_among (ties_since d from) (length d.cups) c (node.Tie c r i) number.0 number.1 (tie_listed c r i from low alive)

  -- and what is listed of a cup is of such a gameweek
  pub from_ties : (from c : ℕ) (m : Node) → Among (ties_since d from c) m → (r : ℕ) × ((i : ℕ) × ((from ≤ round_of d c r) × (node.Tie c r i ≡ m)))
  from_ties from c m a =
      let start = (bracket_of d c).start in
      let x = from_flat (cup_round d c) (gameweeks from d.calendar.locked) m a in
      let k = from_range from ((d.calendar.locked + 1) - from) x.0 x.1.0 in
      let there = if_there (nat_le start x.0) (tie_nodes d c (x.0 - start)) m x.1.1 in
      let up = at_most start x.0 there.0 in
      let i = from_map (node.Tie c (x.0 - start)) (range_with_len 0 (ties_after (bracket_of d c) (x.0 - start))) m there.1 in
      (x.0 - start, (i.0, (omega (arith, up, k.0), i.1.1)))
