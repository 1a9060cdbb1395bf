-- How many reads rows and chips make at most, and what a gameweek that is not there tells.
use Rattle.std.proofs.Common.{◌≡◌, ◌≤◌, ◌+◌, ◌*◌, ℕ, zero, suc, Option, None, arith, refl, subst}
use Rattle.std.specs.Prelude.{IsSome}
use Rattle.std.proofs.Math.Nat.{add-mul}

-- the reads of rows are within those of a window's rows
pub rows_within : (n m : ℕ) → (n + 1) * (2 * m) + 18 * m ≤ (n + 20) * (2 * m)
rows_within n m = let one = add-mul n 1 (2 * m) in let all = add-mul n 20 (2 * m) in omega (arith, one, all)

no_more : (n : ℕ) → (1 ≤ n → ⊥) → n ≡ 0
no_more zero none = refl
no_more (suc n) none = absurd (none (omega arith))

-- the number of no gameweek, of those up to 38, is 0
pub no_gameweek : (o : Option ℕ) (n : ℕ) → o ≡ None → ((1 ≤ n) × (n ≤ 38) → IsSome o) → n ≤ 38 → n ≡ 0
no_gameweek o n none there few = no_more n (λ one. cc (subst IsSome none (there (one, few))))
