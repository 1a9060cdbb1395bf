-- The rows of each manager rise, where those of the one who changes or comes do.
use Rattle.std.proofs.Common.{◌≡◌, ℕ, zero, suc, List, [], ◌∷◌, ◌++◌, ◌-◌, set, get_or, subst, arith}
use Rattle.season_ledger.specs.Rows.{Rise}
use Rattle.manager_book.specs.declared.manager.Manager.{Manager}
use Rattle.manager_book.specs.Managers.{AreRisen, nobody}

-- the same by place
abbrev EachRises : List Manager → Type 0
EachRises ms = (i : ℕ) → Rise (get_or ms i nobody).season

each_set : (ms : List Manager) (i : ℕ) (m : Manager) → EachRises ms → Rise m.season → EachRises (set ms i m)
each_set [] i m up u j = tt
each_set (x ∷ ms) zero m up u zero = u
each_set (x ∷ ms) zero m up u (suc j) = up (suc j)
each_set (x ∷ ms) (suc i) m up u zero = up zero
each_set (x ∷ ms) (suc i) m up u (suc j) = each_set ms i m (λ k. up (suc k)) u j

each_add : (ms : List Manager) (m : Manager) → EachRises ms → Rise m.season → EachRises (ms ++ m ∷ [])
each_add [] m up u zero = u
each_add [] m up u (suc j) = tt
each_add (x ∷ ms) m up u zero = up zero
each_add (x ∷ ms) m up u (suc j) = each_add ms m (λ k. up (suc k)) u j

by_place : (ms : List Manager) → AreRisen ms → EachRises ms
by_place ms up j = let e : suc j - 1 ≡ j = omega arith in subst (λ i. Rise (get_or ms i nobody).season) e (up (suc j))

pub risen_set : (ms : List Manager) (i : ℕ) (m : Manager) → AreRisen ms → Rise m.season → AreRisen (set ms i m)
risen_set ms i m up u e = each_set ms i m (by_place ms up) u (e - 1)

pub risen_add : (ms : List Manager) (m : Manager) → AreRisen ms → Rise m.season → AreRisen (ms ++ m ∷ [])
risen_add ms m up u e = each_add ms m (by_place ms up) u (e - 1)
