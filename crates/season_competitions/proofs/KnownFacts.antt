-- Entrants one by one, and registered entries among the managers.
use Rattle.std.proofs.Common.{◌≡◌, ℕ, Bool, true, false, not, ◌&&◌, ◌||◌, ◌==◌, List, [], ◌∷◌, if◌then◌else◌, refl, ap}
use Rattle.std.specs.List.{list_all}
use Rattle.rule_book.specs.CupCalls.{entrants}

-- a test of all entrants is one of all slots that passes byes over
pub entrants_all : (test : ℕ → Bool) (slots : List ℕ) → list_all (λ slot. (slot == 0) || test slot) slots ≡ list_all test (entrants slots)
entrants_all test [] = refl
entrants_all test (slot ∷ slots) = by_bye (slot == 0) (test slot) (entrants_all test slots)
  where
    by_bye : (bye holds : Bool) → list_all (λ s. (s == 0) || test s) slots ≡ list_all test (entrants slots)
        → ((bye || test slot) && list_all (λ s. (s == 0) || test s) slots) ≡ list_all test (if not bye then slot ∷ entrants slots else entrants slots)
    by_bye true holds same = same
    by_bye false holds same = ap (λ b. test slot && b) same

-- a test that always holds holds of all
pub all_hold : (order : List ℕ) → list_all (λ number. true) order ≡ true
all_hold [] = refl
all_hold (number ∷ order) = all_hold order
