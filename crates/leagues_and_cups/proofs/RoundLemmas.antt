use Rattle.std.proofs.Common.{ℕ, ◌≡◌, ◌≢◌, ◌∙◌, sym, refl, ap, ◌<◌, ◌≤◌, ◌+◌, ◌-◌, ◌*◌, ◌%◌, ◌/◌, ◌⊎◌, inl, inr, arith, subst}
use Rattle.std.proofs.Math.Nat.{mod-eq_of_lt, add-mod_right, mod-lt}
use Rattle.std.proofs.lemmas.Bool.{cases_lt}
use Rattle.rule_book.specs.declared.pairing.Opponent.{Opponent}
use Rattle.rule_book.specs.declared.pairing.Opponent.TheVariants.{Place, Average}
use Rattle.rule_book.specs.Pairings.{Meets, MeetsOne, MeetOnce, IsOpponent}

-- x is w, or w with one more turn of m
abbrev pub Wraps : ℕ → ℕ → ℕ → Type 0
Wraps m w x = (x ≡ w) ⊎ (x ≡ w + m)

pub mod_is : (m x w : ℕ) → w < m → Wraps m w x → x % m ≡ w
mod_is m x w h (inl e) = rw e (mod-eq_of_lt h)
mod_is m x w h (inr e) = rw e (add-mod_right w m ∙ mod-eq_of_lt h)

mod_low : (m x w : ℕ) → x < m → x % m ≡ w → x ≡ w
mod_low m x w h e = sym (mod-eq_of_lt h) ∙ e

mod_high : (m x w y : ℕ) → x ≡ y + m → y < m → x % m ≡ w → x ≡ w + m
mod_high m x w y e h f =
    let g : y % m ≡ w = sym (add-mod_right y m) ∙ (sym (ap (λ t. t % m) e) ∙ f) in
    let k : y ≡ w = sym (mod-eq_of_lt h) ∙ g in
    omega arith

pub mod_wraps : (m x w : ℕ) → x < m + m → x % m ≡ w → Wraps m w x
mod_wraps m x w h e =
    elim (cases_lt x m) [
      | inl lt ↦ inl (mod_low m x w lt e)
      | inr le ↦ inr (mod_high m x w (x - m) (omega arith) (omega arith) e)
    ]

-- `Meets` with no remainders: m is the last place, and w is k % m
abbrev pub Linear : ℕ → ℕ → ℕ → ℕ → Type 0
Linear m w i j =
    (i ≢ j) × (((i < m) × (j < m) × Wraps m w (i + j))
    ⊎ (((i ≡ m) × (j < m) × Wraps m w (2 * j))
    ⊎ ((j ≡ m) × (i < m) × Wraps m w (2 * i))))

pub to_linear : (n k i j : ℕ) → Meets n k i j → Linear (n - 1) (k % (n - 1)) i j
to_linear n k i j (ne, inl (a, b, e)) = (ne, inl (a, b, mod_wraps (n - 1) (i + j) _ (omega arith) e))
to_linear n k i j (ne, inr (inl (a, b, e))) = (ne, inr (inl (a, b, mod_wraps (n - 1) (2 * j) _ (omega arith) e)))
to_linear n k i j (ne, inr (inr (a, b, e))) = (ne, inr (inr (a, b, mod_wraps (n - 1) (2 * i) _ (omega arith) e)))

pub from_linear : (n k i j w : ℕ) → w ≡ k % (n - 1) → w < n - 1 → Linear (n - 1) w i j → Meets n k i j
from_linear n k i j w q l (ne, inl (a, b, e)) = (ne, inl (a, b, mod_is (n - 1) (i + j) w l e ∙ q))
from_linear n k i j w q l (ne, inr (inl (a, b, e))) = (ne, inr (inl (a, b, mod_is (n - 1) (2 * j) w l e ∙ q)))
from_linear n k i j w q l (ne, inr (inr (a, b, e))) = (ne, inr (inr (a, b, mod_is (n - 1) (2 * i) w l e ∙ q)))

-- m is odd: a place has one other place
pub linear_unique : (m w i j l h : ℕ) → m ≡ 2 * h + 1 → w < m → Linear m w i j → Linear m w i l → l ≡ j
linear_unique m w i j l h o lt a b = omega (arith, a, b)

-- two places have one round
pub linear_round : (m w v i j h : ℕ) → m ≡ 2 * h + 1 → w < m → v < m → Linear m w i j → Linear m v i j → v ≡ w
linear_round m w v i j h o lt lu a b = omega (arith, a, b)

pub linear_sym : (m w i j : ℕ) → Linear m w i j → Linear m w j i
linear_sym m w i j (ne, inl (a, b, inl e)) = ((λ q. ne (sym q)), inl (b, a, inl (omega arith)))
linear_sym m w i j (ne, inl (a, b, inr e)) = ((λ q. ne (sym q)), inl (b, a, inr (omega arith)))
linear_sym m w i j (ne, inr (inl x)) = ((λ q. ne (sym q)), inr (inr x))
linear_sym m w i j (ne, inr (inr x)) = ((λ q. ne (sym q)), inr (inl x))

-- x has one remainder
wrap : (m x : ℕ) → x < m + m → (w : ℕ) × (w < m) × Wraps m w x
wrap m x h =
    elim (cases_lt x m) [
      | inl lt ↦ (x, lt, inl refl)
      | inr le ↦ (x - m, omega arith, inr (omega arith))
    ]

-- the round in which i and j meet
some_round : (m i j : ℕ) → i < m + 1 → j < m + 1 → i ≢ j → (w : ℕ) × (w < m) × Linear m w i j
some_round m i j a b ne =
    elim (cases_lt i m) [
      | inl x ↦ elim (cases_lt j m) [
        | inl y ↦ let (w, lt, e) = wrap m (i + j) (omega arith) in (w, lt, (ne, inl (x, y, e)))
        | inr y ↦ let (w, lt, e) = wrap m (2 * i) (omega arith) in (w, lt, (ne, inr (inr (omega arith, x, e))))
      ]
      | inr x ↦ let (w, lt, e) = wrap m (2 * j) (omega arith) in (w, lt, (ne, inr (inl (omega arith, omega arith, e))))
    ]

-- the last place meets j
pub last_meets : (m w j h : ℕ) → m ≡ 2 * h + 1 → w < m → Wraps m w (2 * j) → Linear m w m j
last_meets m w j h o a e = ((λ q. omega (arith, e)), inr (inl (refl, omega (arith, e), e)))

-- i meets the place o that is left of the round, or the last one where that is i itself
pub other_meets : (m w i o : ℕ) → i < m → o < m → i ≢ o → Wraps m w (i + o) → Linear m w i o
other_meets m w i o a b ne e = (ne, inl (a, b, e))

pub self_meets : (m w i o : ℕ) → i < m → o ≡ i → Wraps m w (i + o) → Linear m w i m
self_meets m w i o a same e = ((λ q. omega arith), inr (inr (refl, a, twice e)))
  where
    twice : Wraps m w (i + o) → Wraps m w (2 * i)
    twice (inl x) = inl (omega arith)
    twice (inr x) = inr (omega arith)

-- the place that i meets
some_place : (m w i h : ℕ) → m ≡ 2 * h + 1 → w < m → i < m + 1 → (j : ℕ) × Linear m w i j
some_place m w i h o a b =
    elim (cases_lt i m) [
      | inl x ↦ elim (cases_lt w i) [
        | inl y ↦ at_other (w + m - i) x (omega arith) (inr (omega arith))
        | inr y ↦ at_other (w - i) x (omega arith) (inl (omega arith))
      ]
      | inr x ↦
          let is : m ≡ i = omega arith in
          elim (cases_lt 0 (w % 2)) [
            | inl y ↦ ((w + m) / 2, subst (λ t. Linear m w t ((w + m) / 2)) is (last_meets m w ((w + m) / 2) h o a (inr (omega arith))))
            | inr y ↦ (w / 2, subst (λ t. Linear m w t (w / 2)) is (last_meets m w (w / 2) h o a (inl (omega arith))))
          ]
    ]
  where
    at_other : (p : ℕ) → i < m → p < m → Wraps m w (i + p) → (j : ℕ) × Linear m w i j
    at_other p x y e =
        elim (cases_lt p i) [
          | inl lt ↦ (p, other_meets m w i p x y (λ q. omega arith) e)
          | inr le ↦ elim (cases_lt i p) [
            | inl lt ↦ (p, other_meets m w i p x y (λ q. omega arith) e)
            | inr ge ↦ (m, self_meets m w i p x (omega arith) e)
          ]
        ]

pub one_round : (n i j : ℕ) → n % 2 ≡ 0 → i < n → j < n → i ≢ j → MeetOnce n i j
one_round n i j even a b ne =
    let (w, lt, l) = some_round (n - 1) i j (omega arith) (omega arith) ne in (
      w,
      lt,
      from_linear n w i j w (sym (mod-eq_of_lt lt)) lt l,
      (λ k less meets.
          let f : Linear (n - 1) k i j = rw (mod-eq_of_lt less) at (to_linear n k i j meets) in
          linear_round (n - 1) w k i j (n / 2 - 1) (omega arith) lt less l f),
    )

differs_back : (i j : ℕ) → i ≢ j → j ≢ i
differs_back i j ne q = ne (sym q)

pub one_opponent : (n k i : ℕ) → n % 2 ≡ 0 → i < n → MeetsOne n k i
one_opponent n k i even a =
    let less : k % (n - 1) < n - 1 = mod-lt k (omega arith) in
    let (j, l) = some_place (n - 1) (k % (n - 1)) i (n / 2 - 1) (omega arith) less (omega arith) in (
      j,
      omega (arith, l),
      differs_back i j l.0,
      from_linear n k i j (k % (n - 1)) refl less l,
      from_linear n k j i (k % (n - 1)) refl less (linear_sym (n - 1) (k % (n - 1)) i j l),
      (λ t lt meets. linear_unique (n - 1) (k % (n - 1)) i j t (n / 2 - 1) (omega arith) less l (to_linear n k i t meets)),
    )

-- two opponents of a member in a round are one
pub same_opponent : (members k i : ℕ) (a b : Opponent) → 2 ≤ members → i < members → IsOpponent members k i a → IsOpponent members k i b → a ≡ b
same_opponent members k i a b some within = by_place a b
  where
    met : (p q : ℕ) → p < members + members % 2 → q < members + members % 2 → Meets (members + members % 2) k i p → Meets (members + members % 2) k i q → p ≡ q
    met p q lt lt' first second =
        let one = one_opponent (members + members % 2) k i (omega arith) (omega arith) in
        one.5 p lt first ∙ sym (one.5 q lt' second)

    by_place : (a b : Opponent) → IsOpponent members k i a → IsOpponent members k i b → a ≡ b
    by_place (Place p) (Place q) (lt, first) (lt', second) = ap Place (met p q (omega arith) (omega arith) first second)
    by_place (Place p) Average (lt, first) (odd, second) =
        absurd (omega (arith, met p members (omega arith) (omega arith) first second))
    by_place Average (Place q) (odd, first) (lt, second) =
        absurd (omega (arith, met members q (omega arith) (omega arith) first second))
    by_place Average Average first second = refl
