-- As many different players, each among the others: they are the same.
use Rattle.std.proofs.Common.{◌≡◌, ◌<◌, ◌≤◌, ◌+◌, ◌≢◌, ◌∷◌, [], ℕ, true, false, cond, List, length, arith, refl, ap, ⊎_elim, nat_eq}
use Rattle.std.proofs.lemmas.Bool.Decides.{nat_tests}
use Rattle.std.proofs.lemmas.Bool.{cases_eq}
use Rattle.rule_book.specs.HistoryRules.{times}
use Rattle.season_ledger.proofs.Ledger.{without, times_without}

length_without : (p : ℕ) (ps : List ℕ) → 0 < times p ps → length ps ≡ length (without p ps) + 1
unfolding without
length_without p [] t = absurd (omega arith)
length_without p (q ∷ ps) t = ⊎_elim
    (λ (e : q ≡ p). let u : nat_eq q p ≡ true = grind (arith, nat_tests) in rw u (omega arith))
    (λ (n : q ≢ p). let u : nat_eq q p ≡ false = grind (arith, nat_tests) in let k : 0 < 0 + times p ps = rw u at t in
    let i : length ps ≡ length (without p ps) + 1 = length_without p ps (omega arith) in rw u (omega arith))
    (cases_eq q p)

pub pigeons : (ps qs : List ℕ) → ((p : ℕ) → times p ps ≤ 1) → ((p : ℕ) → 0 < times p ps → 0 < times p qs) → length ps ≡ length qs → (p : ℕ) → times p ps ≡ times p qs
pigeons [] [] a s l p = refl
pigeons [] (q ∷ qs) a s l p = absurd (omega arith)
pigeons (x ∷ ps) qs a s l p =
    let u : nat_eq x x ≡ true = grind (arith, nat_tests) in
    let one : 1 + times x ps ≤ 1 = rw u at (a x) in
    let here : 0 < times x qs = s x (rw u (omega arith)) in
    let apart : (r : ℕ) → times r ps ≤ 1 = λ r. (let b : cond (nat_eq x r) 1 0 + times r ps ≤ 1 = a r in omega arith) in
    let rest : (r : ℕ) → 0 < times r ps → 0 < times r (without x qs) = λ r t. (⊎_elim
    (λ (e : x ≡ r). let z : times x ps ≡ times r ps = ap (λ v. times v ps) e in absurd (omega arith))
    (λ (n : x ≢ r). let v : nat_eq x r ≡ false = grind (arith, nat_tests) in let w : times r qs ≡ cond (nat_eq x r) 1 0 + times r (without x qs) = times_without x r qs here in
    let w2 : times r qs ≡ 0 + times r (without x qs) = rw v at w in let h : 0 < times r qs = s r (rw v (omega arith)) in omega arith)
    (cases_eq x r)) in
    let m : length qs ≡ length (without x qs) + 1 = length_without x qs here in
    let i : times p ps ≡ times p (without x qs) = pigeons ps (without x qs) apart rest (omega arith) p in
    let w : times p qs ≡ cond (nat_eq x p) 1 0 + times p (without x qs) = times_without x p qs here in
    omega arith
