-- Who goes on from a tie wins it by the rule book.
use Rattle.std.proofs.Common.{◌≡◌, ℕ, zero, suc, ◌+◌, ◌-◌, ◌*◌, ◌^◌, ◌<◌, ◌≤◌, ◌==◌, Bool, true, false, if◌then◌else◌, cond, ◌⊎◌, inl, inr, List, take, drop, Option, length, slice_index, refl, sym, ◌∙◌, ap, ap₂, subst, arith, add-one}
use Rattle.std.proofs.Math.Nat.{pow-succ'}
use Rattle.std.proofs.lemmas.List.{get_or-drop, get_or-take, length-drop, length-take}
use Rattle.rule_book.specs.declared.cup.Bracket.{Bracket}
use Rattle.rule_book.specs.declared.cup.Side.{Side}
use Rattle.rule_book.specs.Cups.{coin_after, first_goes_on, goes_through, winner}
use Rattle.rescore_graph.specs.Graph.{Among}
use Rattle.season_nodes.specs.declared.nodes.Node.{Node}
use Rattle.season_nodes.specs.declared.nodes.Node.TheVariants as node
use Rattle.season_nodes.specs.declared.nodes.Value.{Value}
use Rattle.season_nodes.specs.Brackets.{is_in, no_side, part_of, ties_after}
use Rattle.season_nodes.specs.Places.{among_at}
use Rattle.season_nodes.specs.Season.{SeasonFacts, bracket_of, comer_by, is_live, round_of, side_among, side_by, tie_by, winner_held}
use Rattle.season_nodes.specs.SeasonLaws.{before_lives, tie_alive}
use Rattle.season_nodes.specs.TieLaws.{part_within, slots_in}
use Rattle.season_nodes.specs.TiesTold.{TiesAreTold, TiesHoldTheirOwn}

one_case : (bye other first : Bool) (a b : ℕ) → (cond bye b (cond other a (cond first a b)) ≡ a) ⊎ (cond bye b (cond other a (cond first a b)) ≡ b)
one_case true other first a b = inr refl
one_case false true first a b = inl refl
one_case false false true a b = inl refl
one_case false false false a b = inr refl

-- one of two goes through
one_goes : (a b : ℕ) (side : ℕ → Side) (coin : ℕ) → (goes_through a b side coin ≡ a) ⊎ (goes_through a b side coin ≡ b)
one_goes a b side coin = one_case (a == 0) (b == 0) (first_goes_on (side a) (side b) coin) a b

-- what the two have decides
through_at : (a b : ℕ) (s t : ℕ → Side) (coin : ℕ) → s a ≡ t a → s b ≡ t b → goes_through a b s coin ≡ goes_through a b t coin
through_at a b s t coin x y = λ j. if a == 0 then b else (if b == 0 then a else (if first_goes_on (x j) (y j) coin then a else b))

in_first : (p q i slot : ℕ) → q ≡ 2 * p → p * (2 * i) ≤ slot → slot < p * (2 * i + 1) → (q * i ≤ slot) × (slot < q * (i + 1))
in_first p q i slot e from to = rw e (omega arith, omega arith)

in_second : (p q i slot : ℕ) → q ≡ 2 * p → p * (2 * i + 1) ≤ slot → slot < p * (2 * i + 1 + 1) → (q * i ≤ slot) × (slot < q * (i + 1))
in_second p q i slot e from to = rw e (omega arith, omega arith)

-- where a winner of a round stands: in a slot that leads to the place
abbrev StandsAt : Bracket → (ℕ → ℕ → Side) → ℕ → ℕ → ℕ → Type 0
StandsAt b side r i slot = (2 ^ r * i ≤ slot) × (slot < 2 ^ r * (i + 1)) × (slice_index b.slots slot ≡ winner b side r i)

won_at : (b : Bracket) (side : ℕ → ℕ → Side) (r i : ℕ) → (slot : ℕ) × StandsAt b side r i slot
won_at b side zero i = (i, (omega arith, omega arith, refl))
won_at b side (suc r) i =
    let double = pow-succ' 2 r in
    let one = won_at b side r (2 * i) in
    let other = won_at b side r (2 * i + 1) in
    let range = in_first (2 ^ r) (2 ^ suc r) i one.0 double one.1.0 one.1.1 in
    let range' = in_second (2 ^ r) (2 ^ suc r) i other.0 double other.1.0 other.1.1 in
    elim (one_goes (winner b side r (2 * i)) (winner b side r (2 * i + 1)) (λ e. side e (b.start + r)) (coin_after b r i)) [
      | inl e ↦ (one.0, (range.0, range.1, one.1.2 ∙ sym e))
      | inr e ↦ (other.0, (range'.0, range'.1, other.1.2 ∙ sym e))
    ]

-- a slot of a part of a list
in_part : (slots : List ℕ) (w low slot : ℕ) → low ≤ slot → slot < low + w → slot < length slots → Among (take w (drop low slots)) (slice_index slots slot)
in_part slots w low slot from to within =
    let k = slot - low in
    let part = take w (drop low slots) in
    let long = length-take w (drop low slots) in
    let rest = length-drop low slots in
    let inside : k < length part = omega (arith, long, rest, from, to, within) in
    let less : k < w = omega (arith, from, to) in
    let place : low + k ≡ slot = omega (arith, from) in
    let is : slice_index part k ≡ slice_index slots slot = get_or-take w (drop low slots) k 0 less ∙ get_or-drop low slots k 0 ∙ ap (slice_index slots) place in
    subst (Among part) is (among_at part k inside)

double_more : (r : ℕ) → 2 ^ (r + 1) ≡ 2 * 2 ^ r
double_more r = ap (λ k. 2 ^ k) (add-one r) ∙ pow-succ' 2 r

-- who wins a place of the round before can reach the tie
stands_in : (b : Bracket) (side : ℕ → ℕ → Side) (r i place slot : ℕ) → i < ties_after b r → StandsAt b side r place slot → (2 ^ (r + 1) * i ≤ slot) × (slot < 2 ^ (r + 1) * (i + 1))
    → is_in (part_of b r i) (winner b side r place) ≡ true
stands_in b side r i place slot low at range =
    let w = 2 ^ (r + 1) in
    let all = part_within (length b.slots) r i low in
    let top : slot < w * i + w = omega (arith, range.1) in
    let inside : slot < length b.slots = omega (arith, top, all) in
    slots_in (part_of b r i) (winner b side r place)
    (subst (Among (part_of b r i)) at.2 (in_part b.slots w (w * i) slot range.0 top inside))

first_in : (b : Bracket) (side : ℕ → ℕ → Side) (r i : ℕ) → i < ties_after b r → is_in (part_of b r i) (winner b side r (2 * i)) ≡ true
first_in b side r i low =
    let one = won_at b side r (2 * i) in
    stands_in b side r i (2 * i) one.0 low one.1 (in_first (2 ^ r) (2 ^ (r + 1)) i one.0 (double_more r) one.1.0 one.1.1)

second_in : (b : Bracket) (side : ℕ → ℕ → Side) (r i : ℕ) → i < ties_after b r → is_in (part_of b r i) (winner b side r (2 * i + 1)) ≡ true
second_in b side r i low =
    let one = won_at b side r (2 * i + 1) in
    stands_in b side r i (2 * i + 1) one.0 low one.1 (in_second (2 ^ r) (2 ^ (r + 1)) i one.0 (double_more r) one.1.0 one.1.1)

module _ (b : SeasonFacts) (v : Node → Option Value) (c : ℕ) where
  side_is : (r i e : ℕ) → is_in (part_of (bracket_of b c) r i) e ≡ true → side_among b v c r i e ≡ side_by b v e (round_of b c r)
  side_is r i e is = ap (λ t. if t then side_by b v e (round_of b c r) else no_side) is

  -- a tie of who won the two before
  pub won : (r i : ℕ) → is_live b (node.Tie c r i) ≡ true
      → comer_by b v c r (2 * i) ≡ winner (bracket_of b c) (side_by b v) r (2 * i)
      → comer_by b v c r (2 * i + 1) ≡ winner (bracket_of b c) (side_by b v) r (2 * i + 1)
      → tie_by b v c r i ≡ winner (bracket_of b c) (side_by b v) (suc r) i
  won r i alive first second =
      let bracket = bracket_of b c in
      let low = (tie_alive b c r i alive).1 in
      let one = winner bracket (side_by b v) r (2 * i) in
      let other = winner bracket (side_by b v) r (2 * i + 1) in
      ap₂ (λ x y. goes_through x y (side_among b v c r i) (coin_after bracket r i)) first second
      ∙ through_at one other (side_among b v c r i) (λ e. side_by b v e (round_of b c r)) (coin_after bracket r i)
      (side_is r i one (first_in bracket (side_by b v) r i low)) (side_is r i other (second_in bracket (side_by b v) r i low))

  told : TiesHoldTheirOwn b v → (r i : ℕ) → is_live b (node.Tie c r i) ≡ true → tie_by b v c r i ≡ winner (bracket_of b c) (side_by b v) (suc r) i
  told own zero i alive = won zero i alive refl refl
  told own (suc r) i alive =
      let both = before_lives b c r i alive in
      won (suc r) i alive
      (ap winner_held (own c r (2 * i) both.0) ∙ told own r (2 * i) both.0)
      (ap winner_held (own c r (2 * i + 1) both.1) ∙ told own r (2 * i + 1) both.1)

pub ties_are_told : TiesAreTold
ties_are_told b v own c r i alive = told b v c own r i alive
