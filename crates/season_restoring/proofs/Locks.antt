-- The deadline of a gameweek locks that gameweek and those before it.
use Rattle.std.proofs.Common.{◌≡◌, ◌∙◌, refl, ℕ, zero, suc, ◌+◌, ◌<◌, ◌≤◌, true, false, cond, leb, List, [], ◌∷◌, Some, arith, slice_get, subst}
use Rattle.std.specs.Prelude.{count_by}
use Rattle.std.specs.List.{All, AllPairs}
use Rattle.std.proofs.lemmas.List.Elements.{All-head, All-tail}
use Rattle.std.proofs.lemmas.List.Sums.{sum_by-cons}
use Rattle.std.proofs.lemmas.Bool.Decides.{nat_tests}
use Rattle.std.proofs.lemmas.Option.{none-some, same_Some}
use Rattle.fpl_base.proofs.Around.{AllPairs-head, AllPairs-tail}

none_passed : (ds : List ℕ) (t : ℕ) → All (λ d. t < d) ds → count_by (λ d. leb d t) ds ≡ 0
none_passed [] t h = refl
none_passed (d ∷ ds) t h =
    let late : t < d = All-head (λ e. t < e) d ds h in
    let still : leb d t ≡ false = grind (arith, nat_tests) in
    sum_by-cons (λ e. cond (leb e t) 1 0) d ds ∙ rw still (omega (arith, none_passed ds t (All-tail (λ e. t < e) d ds h)))

above : (d : ℕ) (ds : List ℕ) (n t : ℕ) → All (λ e. d < e) ds → slice_get ds n ≡ Some t → d < t
above d [] n t all at = absurd (none-some t at)
above d (e ∷ ds) zero t all at = subst (λ t. d < t) (same_Some e t at) (All-head (λ e. d < e) e ds all)
above d (e ∷ ds) (suc n) t all at = above d ds n t (All-tail (λ e. d < e) e ds all) at

one_more : (d t n : ℕ) (ds : List ℕ) → d ≤ t → count_by (λ e. leb e t) ds ≡ n → count_by (λ e. leb e t) (d ∷ ds) ≡ n + 1
one_more d t n ds le known =
    let gone : leb d t ≡ true = grind (arith, nat_tests) in
    sum_by-cons (λ e. cond (leb e t) 1 0) d ds ∙ rw gone (omega (arith, known))

pub passed_by : (ds : List ℕ) (n t : ℕ) → AllPairs (λ a b. a < b) ds → slice_get ds n ≡ Some t → count_by (λ d. leb d t) ds ≡ n + 1
passed_by [] n t rise at = absurd (none-some t at)
passed_by (d ∷ ds) zero t rise at =
    let same : d ≡ t = same_Some d t at in
    one_more d t 0 ds (omega (arith, same)) (none_passed ds t (subst (λ t. All (λ e. t < e) ds) same (AllPairs-head (λ a b. a < b) d ds rise)))
passed_by (d ∷ ds) (suc n) t rise at =
    let lt : d < t = above d ds n t (AllPairs-head (λ a b. a < b) d ds rise) at in
    let same : n + 1 + 1 ≡ suc n + 1 = omega arith in
    one_more d t (n + 1) ds (omega (arith, lt)) (passed_by ds n t (AllPairs-tail (λ a b. a < b) d ds rise) at) ∙ same
