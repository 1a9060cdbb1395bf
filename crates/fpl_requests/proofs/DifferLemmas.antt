-- Numbers that differ.
use Rattle.std.proofs.Common.{◌≡◌, ◌≢◌, ℕ, List, [], ◌∷◌, Bool, true, false, ◌==◌, refl, arith}
use Rattle.std.proofs.lemmas.Bool.Decides.{nat_tests}
use Rattle.std.proofs.lemmas.List.Elements.{All-cons, All-nil}
use Rattle.std.proofs.lemmas.List.Kept.{AllPairs-cons}
use Rattle.std.specs.Prelude.{All, ◌&&◌, ◌||◌, not}
use Rattle.std.specs.List.{list_any}
use Rattle.rule_book.specs.Ranks.{AllDiffer}
use Rattle.fpl_requests.specs.Requests.{differ}

either : (a b : Bool) → (a || b) ≡ false → (a ≡ false) × (b ≡ false)
either true b h = absurd (cc h)
either false b h = (refl, h)

both : (a b : Bool) → (not a && b) ≡ true → (a ≡ false) × (b ≡ true)
both true b h = absurd (cc h)
both false b h = (refl, h)

none_is : (x : ℕ) (xs : List ℕ) → list_any (λ y. y == x) xs ≡ false → All (λ y. x ≢ y) xs
none_is x [] h = All-nil (λ y. x ≢ y)
none_is x (y ∷ ys) h =
    let (other, rest) = either (y == x) (list_any (λ z. z == x) ys) h in
    let apart : x ≢ y = grind (arith, nat_tests, other) in
    All-cons (λ z. x ≢ z) y ys apart (none_is x ys rest)

no_pairs : AllDiffer []
no_pairs i j d below within same = omega arith

-- numbers of which none stands twice differ
pub AllDiffer-differ : (xs : List ℕ) → differ xs ≡ true → AllDiffer xs
AllDiffer-differ [] h = no_pairs
AllDiffer-differ (x ∷ xs) h =
    let (none, rest) = both (list_any (λ y. y == x) xs) (differ xs) h in
    AllPairs-cons (λ a b. a ≢ b) x xs (none_is x xs none) (AllDiffer-differ xs rest)
