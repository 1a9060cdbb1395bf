use Rattle.std.proofs.Common.{zero, suc, subst, take, ℕ, ◌≡◌, ◌∙◌, sym, refl, ap, ◌<◌, ◌≤◌, ◌+◌, List, [], ◌∷◌, Bool, true, length, map, get_or, arith, count_by, cond, All, nat_eq}
use Rattle.std.specs.List.{zip, range_with_len}
use Rattle.std.specs.Set.{is_member}
use Rattle.std.specs.Cmp.{unsigned_Decides}
use Rattle.std.proofs.lemmas.Cmp.{nat_eq_equiv}
use Rattle.std.proofs.lemmas.List.Elements.{All-contains, All-cons, All-map}
use Rattle.std.proofs.lemmas.List.{take_all, length-map}
use Rattle.std.proofs.lemmas.List.Folds.{fold-map}
use Rattle.std.proofs.lemmas.List.FromFn.{length-range_with_len, get_or-range_with_len}
use Rattle.std.proofs.lemmas.List.Sums.{sum_by-cons}
use Rattle.std.proofs.lemmas.Simd.{map-map}
use Rattle.std.proofs.lemmas.Map.Made.{length-le_from_is_member, is_member-Decides, IsDistinct-from_AllPairs}
use Rattle.rule_book.specs.Ranks.{rank_among, AllDiffer}

-- numbers below n that differ are at most n
few_below : (n : ℕ) (xs : List ℕ) → AllDiffer xs → All (λ x. x < n) xs → length xs ≤ n
few_below n xs differ below =
    let few = length-le_from_is_member nat_eq_equiv xs (range_with_len 0 n) (IsDistinct-from_AllPairs unsigned_Decides xs differ) counted in
    omega (arith, few, length-range_with_len 0 n)
  where
    counted : (q : ℕ) → is_member nat_eq xs q ≡ true → is_member nat_eq (range_with_len 0 n) q ≡ true
    counted q e =
        let lt : q < n = All-contains (λ x. x < n) xs q below ((is_member-Decides unsigned_Decides xs q).0 e) in
        let is : get_or (range_with_len 0 n) q q ≡ q = omega (arith, get_or-range_with_len 0 n q q lt) in
        let long : q < length (range_with_len 0 n) = omega (arith, length-range_with_len 0 n) in
        (is_member-Decides unsigned_Decides (range_with_len 0 n) q).1 (q, long, is)

-- entries that differ are fewer than the numbers from 0 that an entry can have
pub few_entries : (n : ℕ) (xs : List ℕ) → AllDiffer xs → All (λ x. (1 ≤ x) × (x < n)) xs → 0 < n → length xs < n
few_entries n xs differ range some =
    let few : length (0 ∷ xs) ≤ n = few_below n (0 ∷ xs) with_zero (All-cons (λ x. x < n) 0 xs some (λ k d lt. (range k d lt).1)) in
    omega (arith, few)
  where
    with_zero : AllDiffer (0 ∷ xs)
    with_zero i zero d lt below = absurd (omega arith)
    with_zero zero (suc j) d lt below = λ e. omega (arith, e, range j d (omega arith))
    with_zero (suc i) (suc j) d lt below = differ i j d (omega arith) (omega arith)

count_by_alike : {X : Type 0} (p q : X → Bool) → ((x : X) → p x ≡ q x) → (xs : List X) → count_by p xs ≡ count_by q xs
count_by_alike p q same [] = refl
count_by_alike p q same (x ∷ xs) =
    sum_by-cons (λ y. cond (p y) 1 0) x xs ∙ ap (λ b. cond b 1 0 + count_by p xs) (same x) ∙ ap (λ n. cond (q x) 1 0 + n) (count_by_alike p q same xs) ∙ sym (sum_by-cons (λ y. cond (q y) 1 0) x xs)

-- a row's rank is that of its standing, where one test ranks both
pub rank_among-map : {X S : Type 0} (standing : X → S) (lt : S → S → Bool) (better : X → X → Bool) → ((a b : X) → lt (standing a) (standing b) ≡ better a b) → (xs : List X) (x : X) → rank_among lt (map standing xs) (standing x) ≡ rank_among better xs x
rank_among-map standing lt better same xs x =
    let rows = fold-map (λ (n : ℕ) o. n + cond (lt o (standing x)) 1 0) standing 0 xs in
    ap (λ n. n + 1) (rows ∙ count_by_alike (λ o. lt (standing o) (standing x)) (λ o. better o x) (λ o. same o x) xs)

map_alike : {X Y : Type 0} (f g : X → Y) → ((x : X) → f x ≡ g x) → (xs : List X) → map f xs ≡ map g xs
map_alike f g same [] = refl
map_alike f g same (x ∷ xs) = ap (λ y. y ∷ map f xs) (same x) ∙ ap (λ ys. g x ∷ ys) (map_alike f g same xs)

map-zip : {X Y Z : Type 0} (f : X × Y → Z) (g : X → Y) (xs : List X) → map f (zip xs (map g xs)) ≡ map (λ x. f (x, g x)) xs
map-zip f g [] = refl
map-zip f g (x ∷ xs) = ap (λ zs. f (x, g x) ∷ zs) (map-zip f g xs)

-- rows beside the ranks of their standings are the rows with their ranks
pub rows_with_ranks : {X S Y : Type 0} (standing : X → S) (lt : S → S → Bool) (better : X → X → Bool) (with_rank : X × ℕ → Y) → ((a b : X) → lt (standing a) (standing b) ≡ better a b) → (xs : List X) (ss : List S) (rs : List ℕ) → ss ≡ map standing xs → rs ≡ map (rank_among lt ss) ss → map with_rank (zip xs rs) ≡ map (λ x. with_rank (x, rank_among better xs x)) xs
rows_with_ranks standing lt better with_rank same xs ss rs e ranks =
    let at_rows = ap (λ l. map (rank_among lt l) l) e in
    let each = map-map (rank_among lt (map standing xs)) standing xs in
    let alike = map_alike (λ x. rank_among lt (map standing xs) (standing x)) (rank_among better xs) (rank_among-map standing lt better same xs) xs in
    ap (λ l. map with_rank (zip xs l)) (ranks ∙ at_rows ∙ each ∙ alike) ∙ map-zip with_rank (rank_among better xs) xs

-- rows whose entries differ are fewer than the numbers from 0 that an entry can have: i rows were looked at, all of them
pub few_rows : {X : Type 0} (entry : X → ℕ) (n : ℕ) (xs : List X) (i : ℕ) → length xs ≤ i → AllDiffer (map entry xs) → All (λ x. (1 ≤ entry x) × (entry x < n)) (take i xs) → 0 < n → length xs < n
few_rows entry n xs i all differ range some =
    let whole : All (λ x. (1 ≤ entry x) × (entry x < n)) xs = subst (All (λ x. (1 ≤ entry x) × (entry x < n))) (take_all i xs all) range in
    let few = few_entries n (map entry xs) differ (All-map (λ x. (1 ≤ x) × (x < n)) entry xs whole) some in
    omega (arith, few, length-map xs entry)
