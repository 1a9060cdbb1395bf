-- A tree of numbers is a graph.
use Rattle.std.proofs.Common.{◌≡◌, ℕ, suc, true, false, ◌+◌, ◌-◌, ◌*◌, ◌^◌, ◌<◌, ◌≤◌, max, List, [], ◌∷◌, ◌++◌, cond, ◌⊎◌, inl, inr, ⊎_elim, Option, refl, sym, ◌∙◌, ap, ap₂, subst, arith, w32, nat_cmp}
use Rattle.std.specs.Prelude.{nat_le, slice_index}
use Rattle.std.specs.Option.{unwrap_or}
use Rattle.std.specs.Int.{leading_zeros}
use Rattle.std.proofs.lemmas.Bool.Decides.{leb_tells}
use Rattle.std.proofs.lemmas.Nat.{leading_top}
use Rattle.std.proofs.Math.Pow.{pow_mono}
use Rattle.std.proofs.Math.Nat.{pow-succ'}
use Rattle.std.proofs.lemmas.Map.Lookups.{CmpEqualImpliesEq, exact_unsigned}
use Rattle.rescore_graph.specs.Graph.{IsGraph, Among}
use Rattle.bench.specs.Tree.{if_there, below, part, tree_graph}

pub number_exact : CmpEqualImpliesEq nat_cmp
number_exact = exact_unsigned

pub among_either : {X : Type 0} (xs ys : List X) (q : X) → Among (xs ++ ys) q → Among xs q ⊎ Among ys q
among_either [] ys q a = inr a
among_either (x ∷ xs) ys q (inl e) = inl (inl e)
among_either (x ∷ xs) ys q (inr a) = ⊎_elim (λ b. inl (inr b)) inr (among_either xs ys q a)

pub among_left : {X : Type 0} (xs ys : List X) (q : X) → Among xs q → Among (xs ++ ys) q
among_left [] ys q a = absurd a
among_left (x ∷ xs) ys q (inl e) = inl e
among_left (x ∷ xs) ys q (inr a) = inr (among_left xs ys q a)

pub among_right : {X : Type 0} (xs ys : List X) (q : X) → Among ys q → Among (xs ++ ys) q
among_right [] ys q a = a
among_right (x ∷ xs) ys q a = inr (among_right xs ys q a)

pub is_there : (size m q : ℕ) → Among (if_there size m) q → (m ≡ q) × (m ≤ size)
is_there size m q a = ⊎_elim
    (λ p. ⊎_elim (λ e. (e, p.1)) (λ b. absurd b) (subst (λ b. Among (cond b (m ∷ []) []) q) p.0 a))
    (λ p. absurd (subst (λ b. Among (cond b (m ∷ []) []) q) p.0 a))
    (leb_tells m size)

pub there_is : (size m : ℕ) → m ≤ size → Among (if_there size m) m
there_is size m h = ⊎_elim
    (λ p. subst (λ b. Among (cond b (m ∷ []) []) m) (sym p.0) (inl refl))
    (λ p. let k : size < m = p.1 in absurd (omega arith))
    (leb_tells m size)

pub part_local : (size : ℕ) (f k : ℕ → Option ℕ) (m : ℕ) → (m ≤ size → f m ≡ k m) → part size f m ≡ part size k m
part_local size f k m h = ⊎_elim
    (λ p. ap (λ o. cond (nat_le m size) (unwrap_or o 0) 0) (h p.1))
    (λ p. ap (λ b. cond b (unwrap_or (f m) 0) 0) p.0 ∙ sym (ap (λ b. cond b (unwrap_or (k m) 0) 0) p.0))
    (leb_tells m size)

-- twice a number has fewer leading zeros
pub fewer_zeros : (h m : ℕ) → 1 ≤ h → 2 * h ≤ m → m < 2 ^ 32 → leading_zeros w32 m < leading_zeros w32 h
fewer_zeros h m low twice high =
    let a = leading_top 32 h low (omega arith) in
    let b = leading_top 32 m (omega arith) high in
    test a.0 b.0 a.1 b.1 a.2 b.3 (leb_tells b.0 a.0)
  where
    test : (i j : ℕ) → leading_zeros w32 h + suc i ≡ 32 → leading_zeros w32 m + suc j ≡ 32 → 2 ^ i ≤ h → m < 2 ^ suc j → ((nat_le j i ≡ true) × (j ≤ i)) ⊎ ((nat_le j i ≡ false) × (i < j)) → leading_zeros w32 m < leading_zeros w32 h
    test i j e f p q (inl k) =
        let r : 2 ^ suc j ≤ 2 ^ suc i = pow_mono (omega (arith, k.1)) in
        let s : 2 ^ suc i ≡ 2 * 2 ^ i = pow-succ' 2 i in
        absurd (omega arith)
    test i j e f p q (inr k) = let r : i < j = k.1 in omega arith

pub from_below : (size h m : ℕ) → Among (below size h) m → (m ≤ size) × ((m ≡ 2 * h) ⊎ (m ≡ 2 * h + 1))
from_below size h m a = ⊎_elim
    (λ b. let p = is_there size (2 * h) m b in (subst (λ x. x ≤ size) p.0 p.1, inl (sym p.0)))
    (λ b. let p = is_there size (2 * h + 1) m b in (subst (λ x. x ≤ size) p.0 p.1, inr (sym p.0)))
    (among_either (if_there size (2 * h)) (if_there size (2 * h + 1)) m a)

twice : (h m : ℕ) → (m ≡ 2 * h) ⊎ (m ≡ 2 * h + 1) → 2 * h ≤ m
twice h m (inl e) = omega arith
twice h m (inr e) = omega arith

module _ (size : ℕ) (numbers : List ℕ) (few : size < 2 ^ 31) where
  pub tree_lawful : IsGraph (tree_graph size numbers)
  tree_lawful = record {
    inputs_live = λ h m l a. let p = from_below size h m a in let t : 2 * h ≤ m = twice h m p.1 in let k : 1 ≤ h = l.0 in (omega arith, p.0);
    inputs_lower = λ h m l a. let p = from_below size h m a in let k : m ≤ size = p.0 in fewer_zeros h m l.0 (twice h m p.1) (omega arith);
    local = λ h l f k e. ap₂ max
        (ap (max (slice_index numbers (h - 1))) (part_local size f k (2 * h) (λ p. e (2 * h) (among_left (if_there size (2 * h)) (if_there size (2 * h + 1)) (2 * h) (there_is size (2 * h) p)))))
        (part_local size f k (2 * h + 1) (λ p. e (2 * h + 1) (among_right (if_there size (2 * h)) (if_there size (2 * h + 1)) (2 * h + 1) (there_is size (2 * h + 1) p))));
  }
