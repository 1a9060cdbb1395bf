use Rattle.std.proofs.Common.{zero, suc, ℕ, ◌≡◌, ◌≢◌, ◌∙◌, refl, sym, ◌<◌, ◌≤◌, ◌+◌, ◌*◌, ◌^◌, ◌⊎◌, inl, inr, ◌==◌, arith, add-one, Bool, true, false, cond, length, slice_index}
use Rattle.std.proofs.Math.Nat.{pow-succ'}
use Rattle.std.proofs.lemmas.Bool.{eqb-true, eqb-false}
use Rattle.std.proofs.lemmas.Bool.Decides.{eqb_tells}
use Rattle.rule_book.specs.declared.cup.Bracket.{Bracket}
use Rattle.rule_book.specs.declared.cup.Side.{Side}
use Rattle.rule_book.specs.Cups.{IsCup, HasNoByeTie, first_goes_on, goes_through, coin_after, winner}
use Rattle.rule_book.specs.CupLaws.{TieOfWinners, WonByEntrant}

not_bye : (a : ℕ) → a ≢ 0 → (a == 0) ≡ false
not_bye a ne = elim (eqb_tells a 0) [ inl (e, z) ↦ absurd (ne z) | inr (e, n) ↦ e ]

both_play : (bye bye' first : Bool) (a b : ℕ) → bye ≡ false → bye' ≡ false → cond bye b (cond bye' a (cond first a b)) ≡ cond first a b
both_play true bye' first a b e f = absurd (cc e)
both_play false true first a b e f = absurd (cc f)
both_play false false first a b e f = refl

-- two winners who are no byes are a tie's
pub tie_of_winners : (b : Bracket) (side : ℕ → ℕ → Side) (r i : ℕ) → TieOfWinners b side r i
tie_of_winners b side r i one other =
    rw (add-one r) (both_play (winner b side r (2 * i) == 0) (winner b side r (2 * i + 1) == 0) (first_goes_on (side (winner b side r (2 * i)) (b.start + r)) (side (winner b side r (2 * i + 1)) (b.start + r)) (coin_after b r i)) (winner b side r (2 * i)) (winner b side r (2 * i + 1)) (not_bye (winner b side r (2 * i)) one) (not_bye (winner b side r (2 * i + 1)) other))

one_of : (bye bye' first : Bool) (a b : ℕ) → (bye ≡ true → b ≢ 0) → (bye ≡ false → a ≢ 0) → (bye' ≡ false → b ≢ 0) → ((cond bye b (cond bye' a (cond first a b)) ≡ a) × (a ≢ 0)) ⊎ ((cond bye b (cond bye' a (cond first a b)) ≡ b) × (b ≢ 0))
one_of true bye' first a b p q s = inr (refl, p refl)
one_of false true first a b p q s = inl (refl, q refl)
one_of false false true a b p q s = inl (refl, q refl)
one_of false false false a b p q s = inr (refl, s refl)

-- one of two goes through, and no bye where not both are byes
one_goes : (a b : ℕ) (side : ℕ → Side) (coin : ℕ) → (a ≡ 0 → b ≢ 0) → ((goes_through a b side coin ≡ a) × (a ≢ 0)) ⊎ ((goes_through a b side coin ≡ b) × (b ≢ 0))
one_goes a b side coin ne =
    one_of (a == 0) (b == 0) (first_goes_on (side a) (side b) coin) a b (λ e. ne (eqb-true a 0 e)) (λ e. eqb-false a 0 e) (λ e. eqb-false b 0 e)

halves : (p q i n : ℕ) → q ≡ 2 * p → q * (i + 1) ≤ n → (p * (2 * i + 1) ≤ n) × (p * (2 * i + 1 + 1) ≤ n)
halves p q i n e h = let all : 2 * p * (i + 1) ≤ n = rw (← e) h in (omega (arith, all), omega (arith, all))

in_first : (p q i slot : ℕ) → q ≡ 2 * p → p * (2 * i) ≤ slot → slot < p * (2 * i + 1) → (q * i ≤ slot) × (slot < q * (i + 1))
in_first p q i slot e from to = rw e (omega arith, omega arith)

in_second : (p q i slot : ℕ) → q ≡ 2 * p → p * (2 * i + 1) ≤ slot → slot < p * (2 * i + 1 + 1) → (q * i ≤ slot) × (slot < q * (i + 1))
in_second p q i slot e from to = rw e (omega arith, omega arith)

-- who wins a tie stands in one of the slots that lead to it
pub won_by_entrant : (b : Bracket) (side : ℕ → ℕ → Side) → HasNoByeTie b.slots → (r i : ℕ) → 2 ^ suc r * (i + 1) ≤ length b.slots → WonByEntrant b side (suc r) i
won_by_entrant b side no_bye zero i within =
    elim (one_goes (slice_index b.slots (2 * i)) (slice_index b.slots (2 * i + 1)) (λ e. side e (b.start + 0)) (coin_after b 0 i) (no_bye i (omega arith))) [
      | inl (e, ne) ↦ ((λ z. ne (sym e ∙ z)), (2 * i, omega arith, omega arith, sym e))
      | inr (e, ne) ↦ ((λ z. ne (sym e ∙ z)), (2 * i + 1, omega arith, omega arith, sym e))
    ]
won_by_entrant b side no_bye (suc r) i within =
    let double = pow-succ' 2 (suc r) in
    let both = halves (2 ^ suc r) (2 ^ suc (suc r)) i (length b.slots) double within in
    let (one, (slot, from, to, is)) = won_by_entrant b side no_bye r (2 * i) both.0 in
    let (other, (slot', from', to', is')) = won_by_entrant b side no_bye r (2 * i + 1) both.1 in
    let range = in_first (2 ^ suc r) (2 ^ suc (suc r)) i slot double from to in
    let range' = in_second (2 ^ suc r) (2 ^ suc (suc r)) i slot' double from' to' in
    elim (one_goes (winner b side (suc r) (2 * i)) (winner b side (suc r) (2 * i + 1)) (λ e. side e (b.start + suc r)) (coin_after b (suc r) i) (λ z. absurd (one z))) [
      | inl (e, ne) ↦ ((λ z. ne (sym e ∙ z)), (slot, range.0, range.1, is ∙ sym e))
      | inr (e, ne) ↦ ((λ z. ne (sym e ∙ z)), (slot', range'.0, range'.1, is' ∙ sym e))
    ]

pub entrant_wins : (b : Bracket) (gameweeks : ℕ) (side : ℕ → ℕ → Side) (r i : ℕ) → IsCup b gameweeks → 1 ≤ r → 2 ^ r * (i + 1) ≤ length b.slots → WonByEntrant b side r i
entrant_wins b gameweeks side zero i cup some within = absurd (omega arith)
entrant_wins b gameweeks side (suc r) i cup some within = won_by_entrant b side cup.no_bye_tie r i within
