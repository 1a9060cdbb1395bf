-- The segment before the first slash of a path, and what follows it.
use Rattle.std.proofs.Common.{◌≡◌, ◌≢◌, ℕ, zero, suc, List, [], ◌∷◌, ◌<◌, ◌≤◌, ◌==◌, length, get_or, take, drop, false, true, refl, ap, arith}
use Rattle.std.proofs.lemmas.Bool.Decides.{nat_tests}
use Rattle.fpl_requests.specs.Targets.{own_segment, after_segment}

-- the first slash of a path, or its end
pub record IsSlashAt (path : List ℕ) (n : ℕ) : Type 0 where
  pub within : n ≤ length path
  pub before : (k : ℕ) → k < n → get_or path k 0 ≢ 47
  pub there : n < length path → get_or path n 0 ≡ 47

rest_of : (b : ℕ) (path : List ℕ) (n : ℕ) → IsSlashAt (b ∷ path) (suc n) → IsSlashAt path n
rest_of b path n h = record {
  within = omega (arith, h.within);
  before = λ k lt. h.before (suc k) (omega arith);
  there = λ lt. h.there (omega arith);
}

pub take-slash : (path : List ℕ) (n : ℕ) → IsSlashAt path n → take n path ≡ own_segment path
take-slash [] zero h = refl
take-slash [] (suc n) h = absurd (omega (arith, h.within))
take-slash (b ∷ path) zero h =
    let is : (b == 47) ≡ true = grind (arith, nat_tests, h.there (omega arith)) in
    rw is refl
take-slash (b ∷ path) (suc n) h =
    let other : (b == 47) ≡ false = grind (arith, nat_tests, h.before 0 (omega arith)) in
    rw other (ap (λ xs. b ∷ xs) (take-slash path n (rest_of b path n h)))

pub drop-slash : (path : List ℕ) (n : ℕ) → IsSlashAt path n → drop n path ≡ after_segment path
drop-slash [] zero h = refl
drop-slash [] (suc n) h = absurd (omega (arith, h.within))
drop-slash (b ∷ path) zero h =
    let is : (b == 47) ≡ true = grind (arith, nat_tests, h.there (omega arith)) in
    rw is refl
drop-slash (b ∷ path) (suc n) h =
    let other : (b == 47) ≡ false = grind (arith, nat_tests, h.before 0 (omega arith)) in
    rw other (drop-slash path n (rest_of b path n h))
