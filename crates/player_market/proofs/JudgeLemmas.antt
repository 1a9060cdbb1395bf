-- One swap more that breaks no rule.
use Rattle.std.proofs.Common.{◌≡◌, ◌<◌, ◌+◌, ◌||◌, ℕ, Bool, true, false, Some, List, length, get_or, take, drop, refl, sym, ap, ◌∙◌, nat_eq}
use Rattle.std.specs.List.{list_any}
use Rattle.std.proofs.lemmas.List.{take_more, drop_more}
use Rattle.rule_book.specs.declared.transfers.Swap.{Swap}
use Rattle.rule_book.specs.Batch.{first_barred}

-- a swap whose player is not barred, and whom no earlier swap names, leaves the search to the others
pub barred_more : (named : Swap → ℕ) (barred : ℕ → Bool) (swaps : List Swap) (i : ℕ) (d : Swap) → i < length swaps
    → (barred (named (get_or swaps i d)) || list_any (λ earlier. nat_eq (named earlier) (named (get_or swaps i d))) (take i swaps)) ≡ false
    → first_barred named barred (take (i + 1) swaps) (drop (i + 1) swaps) ≡ first_barred named barred (take i swaps) (drop i swaps)
barred_more named barred swaps i d within fit =
    ap (λ before. first_barred named barred before (drop (i + 1) swaps)) (take_more swaps i d within)
    ∙ sym (ap (first_barred named barred (take i swaps)) (drop_more swaps i d within) ∙ (rw fit refl))

-- a swap whose player is barred, or whom an earlier swap names, ends the search
pub barred_here : (named : Swap → ℕ) (barred : ℕ → Bool) (swaps : List Swap) (i : ℕ) (d : Swap) → i < length swaps
    → (barred (named (get_or swaps i d)) || list_any (λ earlier. nat_eq (named earlier) (named (get_or swaps i d))) (take i swaps)) ≡ true
    → first_barred named barred (take i swaps) (drop i swaps) ≡ Some (named (get_or swaps i d))
barred_here named barred swaps i d within found =
    ap (first_barred named barred (take i swaps)) (drop_more swaps i d within) ∙ (rw found refl)
