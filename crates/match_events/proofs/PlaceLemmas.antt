-- An ascending list with one more in its place.
use Rattle.std.proofs.Common.{ℕ, ◌≡◌, ◌<◌, ◌≤◌, ◌∙◌, Bool, true, false, ◌||◌, ◌==◌, List, ◌∷◌, Result, Ok, Err, MatchResult, length, take, drop, get_or, inl, inr, arith, refl, sym, ap, take-append-drop}
use Rattle.std.specs.List.{All, insert, list_any}
use Rattle.std.specs.List.Sorted.{IsBinarySearchResult, IsStrictlyIncreasing}
use Rattle.std.specs.Ordering.{nat_cmp}
use Rattle.std.proofs.lemmas.List.Elements.{All-append, All-cons, All-drop, All-same, All-take}
use Rattle.std.proofs.lemmas.List.Folds.{list_any-append}
use Rattle.std.proofs.lemmas.List.Kept.{AllPairs-from_increasing}
use Rattle.std.proofs.lemmas.List.Sorted.{searched}
use Rattle.match_events.specs.Places.{IsGap, IsPlace, IsPut}
use Rattle.match_events.specs.Sheets.{is_listed}

rises : (ps : List ℕ) → IsStrictlyIncreasing ps → (i j : ℕ) → i ≤ j → j < length ps → get_or ps i 0 ≤ get_or ps j 0
rises ps ascending i j le within =
    let pairs = AllPairs-from_increasing ps ascending in
    grind (arith, pairs i j 0, λ (same : i ≡ j). ap (λ k. get_or ps k 0) same)

place_or_gap : (ps : List ℕ) (p : ℕ) (r : Result ℕ ℕ)
    → MatchResult r (λ i. (i < length ps) × (get_or ps i 0 ≡ p)) (λ i. (i ≤ length ps) × ((k : ℕ) → k < i → get_or ps k 0 < p) × ((k : ℕ) → i ≤ k → k < length ps → p < get_or ps k 0))
    → MatchResult r (IsPlace ps p) (IsGap ps p)
place_or_gap ps p (Ok at) found = record { within = found.0; here = found.1 }
place_or_gap ps p (Err at) found = record { within = found.0; smaller = found.1; greater = found.2 }

-- a binary search ends at the player, or at the gap for him
pub place_found : (ps : List ℕ) (p : ℕ) (r : Result ℕ ℕ) → IsStrictlyIncreasing ps → IsBinarySearchResult (λ q. nat_cmp q p) ps r → MatchResult r (IsPlace ps p) (IsGap ps p)
place_found ps p r ascending is = place_or_gap ps p r (searched ps p r is (rises ps ascending))

or_moved : (a b c : Bool) → (a || (c || b)) ≡ ((a || b) || c)
or_moved true b c = refl
or_moved false true true = refl
or_moved false true false = refl
or_moved false false true = refl
or_moved false false false = refl

-- put into his gap, he is listed besides the others
pub listed-insert : (ps : List ℕ) (p place q : ℕ) → is_listed (insert ps place p) q ≡ (is_listed ps q || p == q)
listed-insert ps p place q =
    let test : ℕ → Bool = λ r. r == q in
    let whole : list_any test ps ≡ (list_any test (take place ps) || list_any test (drop place ps)) = ap (list_any test) (sym (take-append-drop place ps)) ∙ list_any-append test (take place ps) (drop place ps) in
    list_any-append test (take place ps) (p ∷ drop place ps)
    ∙ or_moved (list_any test (take place ps)) (list_any test (drop place ps)) (p == q)
    ∙ ap (λ (b : Bool). b || p == q) (sym whole)

-- what holds of the others and of him holds of all
pub all_put : (P : ℕ → Type 0) (ps more : List ℕ) (p : ℕ) → IsPut ps p more → All P ps → P p → All P more
all_put P ps more p (inl same) all one = All-same P more ps same all
all_put P ps more p (inr put) all one =
    All-same P more (insert ps put.0 p) put.1 (All-append P (take put.0 ps) (p ∷ drop put.0 ps) (All-take P put.0 ps all) (All-cons P p (drop put.0 ps) one (All-drop P put.0 ps all)))
