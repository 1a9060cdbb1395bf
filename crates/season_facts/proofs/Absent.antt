-- No player and no fixture has a number that is no id.
use Rattle.std.proofs.Common.{◌≡◌, ℕ, Bool, true, false, cond, List, [], ◌∷◌, Some, None, ◌==◌, arith, refl, ◌∙◌, ap, subst}
use Rattle.std.specs.List.{All, find}
use Rattle.std.proofs.lemmas.Bool.Decides.{nat_tests}
use Rattle.std.proofs.lemmas.List.Elements.{All-head, All-tail, All-weaker}
use Rattle.season_facts.specs.Kept.{IsId}

none_passes : {X : Type 0} (p : X → Bool) (xs : List X) → All (λ x. p x ≡ false) xs → find p xs ≡ None
none_passes p [] none = refl
none_passes p (x ∷ xs) none =
    ap (λ b. cond b (Some x) (find p xs)) (All-head (λ y. p y ≡ false) x xs none) ∙ none_passes p xs (All-tail (λ y. p y ≡ false) x xs none)

apart : (n f : ℕ) → IsId n → (IsId f → ⊥) → (n == f) ≡ false
apart n f is_id no_id =
    elim (n == f) as (λ b. (n == f) ≡ b → b ≡ false) [
      | true ↦ λ same. absurd (no_id (subst IsId (grind (arith, nat_tests, same)) is_id))
      | false ↦ λ same. refl
    ] refl

pub no_such_id : {X : Type 0} (id : X → ℕ) (xs : List X) (f : ℕ) → All (λ x. IsId (id x)) xs → (IsId f → ⊥) → find (λ x. id x == f) xs ≡ None
no_such_id id xs f ids no_id =
    none_passes (λ x. id x == f) xs (All-weaker (λ x. IsId (id x)) (λ x. (id x == f) ≡ false) (λ x is_id. apart (id x) f is_id no_id) xs ids)
