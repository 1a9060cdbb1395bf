-- Players in a list: what holds of each of them, and the lists of players that a swap makes.
use Rattle.std.proofs.Common.{◌≡◌, ◌≢◌, ◌<◌, ◌+◌, ℕ, Bool, true, false, cond, List, [], ◌∷◌, map, nat_eq, arith, subst, ⊎_elim}
use Rattle.std.specs.Prelude.{filter}
use Rattle.std.specs.List.{AllByRecursion as Each}
use Rattle.std.proofs.lemmas.Bool.{cases_eq}
use Rattle.std.proofs.lemmas.Bool.Decides.{nat_tests}
use Rattle.rule_book.specs.declared.transfers.Sale.{Sale}
use Rattle.rule_book.specs.History.Deed.{Swap}
use Rattle.rule_book.specs.HistoryRules.{times}
use Rattle.rule_book.specs.HistorySquad.{follow_one}

module _ {X : Type 0} where
  -- what holds of each holds of each that passes a test
  pub each_filter : (P : X → Type 0) (p : X → Bool) (xs : List X) → Each P xs → Each P (filter p xs)
  each_filter P p [] all = tt
  each_filter P p (x ∷ xs) all =
      let more = each_filter P p xs all.1 in
      elim (p x) as (λ b. Each P (cond b (x ∷ filter p xs) (filter p xs))) [
        | true ↦ (all.0, more)
        | false ↦ more
      ]

  pub each_map : {Y : Type 0} (P : Y → Type 0) (f : X → Y) (xs : List X) → Each (λ x. P (f x)) xs → Each P (map f xs)
  each_map P f [] all = tt
  each_map P f (x ∷ xs) all = (all.0, each_map P f xs all.1)

  pub each_map_back : {Y : Type 0} (P : Y → Type 0) (f : X → Y) (xs : List X) → Each P (map f xs) → Each (λ x. P (f x)) xs
  each_map_back P f [] all = tt
  each_map_back P f (x ∷ xs) all = (all.0, each_map_back P f xs all.1)

-- what holds of each who is among these players holds of each of them
pub each_among : (P : ℕ → Type 0) (ps : List ℕ) → ((p : ℕ) → 0 < times p ps → P p) → Each P ps
each_among P [] all = tt
each_among P (q ∷ ps) all =
    (all q (let u : nat_eq q q ≡ true = grind (arith, nat_tests) in rw u (omega arith)), each_among P ps (λ p t. all p (omega arith)))

-- and back
pub among_each : (P : ℕ → Type 0) (ps : List ℕ) (p : ℕ) → Each P ps → 0 < times p ps → P p
among_each P [] p all t = absurd (omega arith)
among_each P (q ∷ ps) p all t = ⊎_elim
    (λ (e : q ≡ p). subst P e all.0)
    (λ (n : q ≢ p). let u : nat_eq q p ≡ false = grind (arith, nat_tests) in let more : 0 < 0 + times p ps = rw u at t in among_each P ps p all.1 (omega arith))
    (cases_eq q p)

-- who is among the players behind a swap and did not come by it was among those before it
pub was_among : (s : Sale) (ps : List ℕ) (p : ℕ) → p ≢ s.into → 0 < times p (map (follow_one (Swap s)) ps) → 0 < times p ps
was_among s [] p other t = t
was_among s (q ∷ ps) p other t = ⊎_elim
    (λ (e : q ≡ s.out).
    let u : nat_eq q s.out ≡ true = grind (arith, nat_tests) in let v : nat_eq s.into p ≡ false = grind (arith, nat_tests) in
    let more : 0 < 0 + times p (map (follow_one (Swap s)) ps) = rw v at (rw u at t) in
    let i : 0 < times p ps = was_among s ps p other (omega arith) in omega arith)
    (λ (n : q ≢ s.out).
    let u : nat_eq q s.out ≡ false = grind (arith, nat_tests) in
    let more : 0 < cond (nat_eq q p) 1 0 + times p (map (follow_one (Swap s)) ps) = rw u at t in
    ⊎_elim
    (λ (here : q ≡ p). let v : nat_eq q p ≡ true = grind (arith, nat_tests) in rw v (omega arith))
    (λ (away : q ≢ p).
    let v : nat_eq q p ≡ false = grind (arith, nat_tests) in
    let rest : 0 < 0 + times p (map (follow_one (Swap s)) ps) = rw v at more in
    let i : 0 < times p ps = was_among s ps p other (omega arith) in omega arith)
    (cases_eq q p))
    (cases_eq q s.out)
