use Rattle.std.proofs.Common.{zero, suc, ℕ, ◌≤◌, ◌<◌, ◌≡◌, ◌^◌, inl, inr, arith}
use Rattle.std.proofs.lemmas.Bool.{cases_lt}
use Rattle.std.proofs.Math.Pow.{pow-lt}

-- what holds at 1 to 10 holds at each of them
pub by_rounds : (P : ℕ → Type 0) → P 1 → P 2 → P 3 → P 4 → P 5 → P 6 → P 7 → P 8 → P 9 → P 10 → (r : ℕ) → 1 ≤ r → r ≤ 10 → P r
by_rounds P a b c d e f g h i j zero lo hi = absurd (omega arith)
by_rounds P a b c d e f g h i j (suc zero) lo hi = a
by_rounds P a b c d e f g h i j (suc (suc zero)) lo hi = b
by_rounds P a b c d e f g h i j (suc (suc (suc zero))) lo hi = c
by_rounds P a b c d e f g h i j (suc (suc (suc (suc zero)))) lo hi = d
by_rounds P a b c d e f g h i j (suc (suc (suc (suc (suc zero))))) lo hi = e
by_rounds P a b c d e f g h i j (suc (suc (suc (suc (suc (suc zero)))))) lo hi = f
by_rounds P a b c d e f g h i j (suc (suc (suc (suc (suc (suc (suc zero))))))) lo hi = g
by_rounds P a b c d e f g h i j (suc (suc (suc (suc (suc (suc (suc (suc zero)))))))) lo hi = h
by_rounds P a b c d e f g h i j (suc (suc (suc (suc (suc (suc (suc (suc (suc zero))))))))) lo hi = i
by_rounds P a b c d e f g h i j (suc (suc (suc (suc (suc (suc (suc (suc (suc (suc zero)))))))))) lo hi = j
by_rounds P a b c d e f g h i j (suc (suc (suc (suc (suc (suc (suc (suc (suc (suc (suc k))))))))))) lo hi = absurd (omega arith)

pub no_less : (i j n : ℕ) → n ≡ 2 ^ i → n ≡ 2 ^ j → j ≤ i
no_less i j n a b =
    elim (cases_lt i j) [
      | inl lt ↦ let h : 2 ^ i < 2 ^ j = pow-lt lt in absurd (omega arith)
      | inr le ↦ le
    ]
