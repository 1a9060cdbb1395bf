-- Who meets a place is met by it, and the lower one of two places that meet names their match.
use Rattle.std.proofs.Common.{◌≡◌, ◌≢◌, ℕ, ◌+◌, ◌-◌, ◌<◌, ◌≤◌, ◌%◌, ◌==◌, min, Bool, true, false, if◌then◌else◌, ◌⊎◌, inl, inr, Some, None, refl, sym, ◌∙◌, ap, subst, arith}
use Rattle.std.specs.Option.{option_map_or}
use Rattle.std.proofs.lemmas.Bool.{cases_lt}
use Rattle.std.proofs.lemmas.Bool.Decides.{nat_tests}
use Rattle.rule_book.specs.Opponents.{does_meet, opponent_at, opponent_of}
use Rattle.rule_book.specs.Pairings.{IsOpponent, Meets, places}
use Rattle.rule_book.specs.declared.pairing.Opponent.{Opponent}
use Rattle.rule_book.specs.declared.pairing.Opponent.TheVariants.{Place, Average}
use Rattle.leagues_and_cups.proofs.OpponentFacts.{opponent_is_the_one}
use Rattle.season_nodes.specs.Rounds.{has_average, lower, met, place_met}

-- a place that meets another is met by it
meets_back : (n k i j : ℕ) → Meets n k i j → Meets n k j i
meets_back n k i j (ne, inl (a, b, e)) = let swap : j + i ≡ i + j = omega arith in ((λ q. ne (sym q)), inl (b, a, ap (λ s. s % (n - 1)) swap ∙ e))
meets_back n k i j (ne, inr (inl x)) = ((λ q. ne (sym q)), inr (inr x))
meets_back n k i j (ne, inr (inr x)) = ((λ q. ne (sym q)), inr (inl x))

-- what holds of an opponent: another place, which meets this one; or the Average, which then plays
abbrev IsMet : ℕ → ℕ → ℕ → Opponent → Type 0
IsMet n k i (Place j) = (j < n) × (j ≢ i) × (opponent_of n k j ≡ Place i)
IsMet n k i Average = has_average n ≡ true

odd : (n : ℕ) → n + n % 2 ≡ n + 1 → (n % 2 == 1) ≡ true
odd n e = let one : n % 2 ≡ 1 = omega (arith, e) in grind (arith, nat_tests, one)

by_rules : (n k i : ℕ) (o : Opponent) → 2 ≤ n → i < n → IsOpponent n k i o → IsMet n k i o
by_rules n k i (Place j) some within (low, meets) = (low, (λ q. meets.0 (sym q)), sym ((opponent_is_the_one n k j (Place i) some low).0 (within, meets_back (places n) k i j meets)))
by_rules n k i Average some within (more, meets) = odd n more

alone_case : (b : Bool) → option_map_or (opponent_at 1) (if b then Some 1 else None) Average ≡ Average
alone_case true = refl
alone_case false = refl

-- one who is alone meets the Average
alone : (k : ℕ) → opponent_of 1 k 0 ≡ Average
alone k = alone_case (does_meet 2 k 0 1)

apart : (j : ℕ) → Average ≡ Place j → ⊥
apart j e = cc

alone_met : (k : ℕ) (o : Opponent) → opponent_of 1 k 0 ≡ o → IsMet 1 k 0 o
alone_met k (Place j) is = absurd (apart j (sym (alone k) ∙ is))
alone_met k Average is = refl

is_met : (n k i : ℕ) (o : Opponent) → i < n → opponent_of n k i ≡ o → IsMet n k i o
is_met n k i o within is =
    elim (cases_lt 1 n) [
      | inl more ↦ by_rules n k i o (omega (arith, more)) within ((opponent_is_the_one n k i o (omega (arith, more)) within).1 (sym is))
      | inr few ↦
          let one : 1 ≡ n = omega (arith, few, within) in
          let first : 0 ≡ i = omega (arith, few, within) in
          subst (λ m. opponent_of m k i ≡ o → IsMet m k i o) one (subst (λ h. opponent_of 1 k h ≡ o → IsMet 1 k h o) first (alone_met k o)) is
    ]

-- the place that is met is another one, and meets this one
pub met_place : (n k i j : ℕ) → i < n → opponent_of n k i ≡ Place j → (j < n) × (j ≢ i) × (opponent_of n k j ≡ Place i)
met_place n k i j within is = is_met n k i (Place j) within is

-- where the Average is met it plays
pub met_average : (n k i : ℕ) → i < n → opponent_of n k i ≡ Average → has_average n ≡ true
met_average n k i within is = is_met n k i Average within is

-- a place, and the lower one of it and of whom it meets
abbrev IsLowerOf : ℕ → ℕ → ℕ → Type 0
IsLowerOf n k m = (m < n) × (m < met n k m)

lower_case : (n k i : ℕ) (o : Opponent) → i < n → opponent_of n k i ≡ o → IsLowerOf n k (min i (place_met n o))
lower_case n k i (Place j) within is =
    let r = met_place n k i j within is in
    elim (cases_lt i j) [
      | inl low ↦
          let first : i ≡ min i j = omega (arith, low) in
          let up : i < place_met n (opponent_of n k i) = subst (λ o. i < place_met n o) (sym is) low in
          subst (IsLowerOf n k) first (within, up)
      | inr high ↦
          let first : j ≡ min i j = omega (arith, high) in
          let below : j < i = omega (arith, high, r.1) in
          let up : j < place_met n (opponent_of n k j) = subst (λ o. j < place_met n o) (sym r.2) below in
          subst (IsLowerOf n k) first (r.0, up)
    ]
lower_case n k i Average within is =
    let first : i ≡ min i n = omega (arith, within) in
    let up : i < place_met n (opponent_of n k i) = subst (λ o. i < place_met n o) (sym is) within in
    subst (IsLowerOf n k) first (within, up)

-- the lower one of two that meet is below whom it meets
pub lower_is : (n k i : ℕ) → i < n → (lower n k i < n) × (lower n k i < met n k (lower n k i))
lower_is n k i within = lower_case n k i (opponent_of n k i) within refl

-- a place below whom it meets is the lower one
pub lower_own : (n k i : ℕ) → i < met n k i → lower n k i ≡ i
lower_own n k i low = omega (arith, low)

-- and both have the same
pub lower_both : (n k i j : ℕ) → i < n → opponent_of n k i ≡ Place j → lower n k j ≡ lower n k i
lower_both n k i j within is =
    let back = (met_place n k i j within is).2 in
    let swap : min j i ≡ min i j = omega arith in
    ap (λ o. min j (place_met n o)) back ∙ swap ∙ ap (λ o. min i (place_met n o)) (sym is)

-- a place is the lower one of its match, or it meets the lower one
pub lower_whose : (n k i m : ℕ) (o : Opponent) → opponent_of n k i ≡ o → lower n k i ≡ m → i < n → (i ≡ m) ⊎ (opponent_of n k i ≡ Place m)
lower_whose n k i m (Place j) is low within =
    let both : min i j ≡ m = ap (λ o. min i (place_met n o)) (sym is) ∙ low in
    elim (cases_lt i j) [
      | inl below ↦ inl (omega (arith, both, below))
      | inr above ↦ let same : j ≡ m = omega (arith, both, above) in inr (is ∙ ap Place same)
    ]
lower_whose n k i m Average is low within =
    let both : min i n ≡ m = ap (λ o. min i (place_met n o)) (sym is) ∙ low in
    inl (omega (arith, both, within))
