-- Counts and lists that a loop makes, one more element at a time.
use Rattle.std.proofs.Common.{◌≡◌, ◌+◌, ℕ, Bool, List, Some, cond, take, ap, ◌∙◌}
use Rattle.std.specs.Prelude.{count_by}
use Rattle.std.specs.List.{slice_get}
use Rattle.std.proofs.lemmas.List.Sums.{sum_by_more}
use Rattle.std.proofs.lemmas.Option.{slice_get_within, get_or_from_slice_get}

-- one more of a list is counted, or not
pub count_next : {X : Type 0} (p : X → Bool) (xs : List X) (i : ℕ) (x : X) → slice_get xs i ≡ Some x → count_by p (take (i + 1) xs) ≡ count_by p (take i xs) + cond (p x) 1 0
count_next p xs i x at =
    sum_by_more (λ y. cond (p y) 1 0) xs i x (slice_get_within xs i x at)
    ∙ ap (λ y. count_by p (take i xs) + cond (p y) 1 0) (get_or_from_slice_get xs i x x at)
