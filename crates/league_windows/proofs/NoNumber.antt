-- No number below 1 is that of a cup or a league.
use Rattle.std.proofs.Common.{◌≡◌, ◌≤◌, ◌↔◌, ℕ, zero, suc, List, Option, None, Some, arith, refl}
use Rattle.std.specs.Prelude.{IsSome}
use Rattle.rule_book.specs.Entries.{entry_in}

nobody : (o : Option ℕ) → o ≡ None → IsSome o → ⊥
nobody None none some = cc
nobody (Some x) none some = cc

pub no_number : {X : Type 0} (xs : List X) (n : ℕ) (o : Option ℕ) → (IsSome o ↔ (1 ≤ n)) → o ≡ None → entry_in xs n ≡ None
no_number xs zero o law none = refl
no_number xs (suc n) o law none = absurd (nobody o none (law.1 (omega arith)))
