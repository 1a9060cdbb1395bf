use Rattle.std.proofs.Common.{zero, suc, ℕ, ◌≡◌, ◌∙◌, sym, refl, ap, ◌<◌, ◌≤◌, ◌+◌, ◌==◌, List, [], ◌∷◌, Bool, true, false, length, map, get_or, arith, add_comm, add-one, count_by, cond, take, ◌++◌, Contains, IsSorted, IsPermutation}
use Rattle.std.specs.Cmp.{IsTotalOrder}
use Rattle.std.specs.List.{remove}
use Rattle.std.specs.Ordering.{is_lt, ordering_index}
use Rattle.std.specs.declared.cmp.Ordering.{Ordering}
use Rattle.std.specs.declared.cmp.Ordering.TheVariants.{Less, Equal, Greater}
use Rattle.std.specs.List.Sorted.{IsPartitionedBy, IsPartitionPoint}
use Rattle.std.proofs.lemmas.Cmp.{is_lt_index, tied_itself}
use Rattle.std.proofs.lemmas.List.Sorted.{searchable_from_sorted, sum_by-IsPermutation, IsPermutation-remove, length_permutation, Contains-permutation}
use Rattle.std.proofs.lemmas.List.Sums.{count_by-le-length, sum_by-cons, sum_by-remove}
use Rattle.std.proofs.lemmas.List.{map_more}
use Rattle.rule_book.specs.Ranks.{rank_among}

-- in order, those below one come first
pub below_first : {S : Type 0} {R : S → S → Ordering} (o : IsTotalOrder R) (xs : List S) (s : S) → IsSorted R xs → IsPartitionedBy (λ y. is_lt (R y s)) xs
below_first {S} {R} o xs s sorted i j d le lt holds =
    let up = searchable_from_sorted o (λ x. x) xs s sorted i j d le lt in
    let a = is_lt_index (R (get_or xs j d) s) in
    let b = is_lt_index (R (get_or xs i d) s) in
    index_zero _ _ up a b holds
  where
    index_zero : (m n : Ordering) → ordering_index m ≤ ordering_index n → is_lt n ≡ (ordering_index n == 0) → is_lt m ≡ (ordering_index m == 0) → is_lt n ≡ true → is_lt m ≡ true
    index_zero Less n up a b holds = refl
    index_zero Equal Less up a b holds = absurd (omega arith)
    index_zero Greater Less up a b holds = absurd (omega arith)
    index_zero Equal Equal up a b holds = absurd (cc holds)
    index_zero Greater Equal up a b holds = absurd (cc holds)
    index_zero Equal Greater up a b holds = absurd (cc holds)
    index_zero Greater Greater up a b holds = absurd (cc holds)

count_more : {X : Type 0} (p : X → Bool) (x : X) (xs : List X) (b : Bool) (i : ℕ) → p x ≡ b → count_by p xs ≡ i → count_by p (x ∷ xs) ≡ cond b 1 0 + i
count_more p x xs b i e rest = sum_by-cons (λ y. cond (p y) 1 0) x xs ∙ ap (λ t. cond t 1 0 + count_by p xs) e ∙ ap (λ n. cond b 1 0 + n) rest

-- where p holds up to i and not from i on, i elements pass
pub count_prefix : {X : Type 0} (p : X → Bool) (xs : List X) (i : ℕ) → i ≤ length xs → ((k : ℕ) (d : X) → k < i → p (get_or xs k d) ≡ true) → ((k : ℕ) (d : X) → i ≤ k → k < length xs → p (get_or xs k d) ≡ false) → count_by p xs ≡ i
count_prefix p [] i h holds fails = omega arith
count_prefix p (x ∷ xs) zero h holds fails =
    let e = fails 0 x (omega arith) (omega arith) in
    let rest = count_prefix p xs 0 (omega arith) (λ k d lt. absurd (omega arith)) (λ k d a b. fails (suc k) d (omega arith) (omega arith)) in
    count_more p x xs false 0 e rest
count_prefix p (x ∷ xs) (suc i) h holds fails =
    let e = holds 0 x (omega arith) in
    let rest = count_prefix p xs i (omega arith) (λ k d lt. holds (suc k) d (omega arith)) (λ k d a b. fails (suc k) d (omega arith) (omega arith)) in
    count_more p x xs true i e rest ∙ add_comm 1 i ∙ add-one i

-- where a search for one in order ends, so many are below it
pub count_at_point : {S : Type 0} (R : S → S → Ordering) (xs : List S) (s : S) (i : ℕ) → i ≤ length xs → IsPartitionPoint (λ y. is_lt (R y s) ≡ true) (λ y. is_lt (R y s) ≡ false) xs i → i ≡ count_by (λ y. is_lt (R y s)) xs
count_at_point R xs s i h point =
    sym (count_prefix (λ y. is_lt (R y s)) xs i h (λ k d lt. point.0 k d (omega arith) lt) (λ k d a b. point.1 k d a b))

-- where one element fails, not all are counted
count_fails : {X : Type 0} (p : X → Bool) (xs : List X) (i : ℕ) (d : X) → i < length xs → p (get_or xs i d) ≡ false → count_by p xs < length xs
count_fails p xs i d h e =
    let zero_there : cond (p (get_or xs i d)) 1 0 ≡ 0 = ap {B = ℕ} (λ b. cond b 1 0) e in
    let rest = sum_by-remove (λ x. cond (p x) 1 0) xs i d h in
    let few = count_by-le-length p (remove xs i) in
    let moved = IsPermutation-remove xs i (get_or xs i d) h (same_default xs i d h) in
    let long = length_permutation xs (get_or xs i d ∷ remove xs i) moved in
    omega (arith, zero_there, rest, few, long)
  where
    same_default : {X : Type 0} (xs : List X) (i : ℕ) (d : X) → i < length xs → get_or xs i d ≡ get_or xs i (get_or xs i d)
    same_default [] i d h = absurd (omega arith)
    same_default (x ∷ xs) zero d h = refl
    same_default (x ∷ xs) (suc i) d h = same_default xs i d (omega arith)

-- of a list, fewer than all are below one of it
pub count_below : {S : Type 0} {R : S → S → Ordering} (o : IsTotalOrder R) (xs : List S) (s : S) → Contains xs s → count_by (λ y. is_lt (R y s)) xs < length xs
count_below {S} {R} o xs s (k, lt, e) =
    count_fails (λ y. is_lt (R y s)) xs k s lt (ap (λ y. is_lt (R y s)) e ∙ ap is_lt (tied_itself o s))

-- ranks are the same among the same in another order
pub rank_among-IsPermutation : {X : Type 0} (better : X → X → Bool) (xs ys : List X) (x : X) → IsPermutation xs ys → rank_among better ys x ≡ rank_among better xs x
rank_among-IsPermutation better xs ys x same = ap (λ n. n + 1) (sum_by-IsPermutation (λ y. cond (better y x) 1 0) xs ys same)

-- one more of a list that a function gives
pub mapped_more : {X Y : Type 0} (f : X → Y) (xs : List X) (i : ℕ) (d : X) (y : Y) (done next : List Y) → i < length xs → done ≡ map f (take i xs) → y ≡ f (get_or xs i d) → next ≡ done ++ y ∷ [] → next ≡ map f (take (i + 1) xs)
mapped_more f xs i d y done next h e is more =
    more ∙ ap (λ t. t ++ y ∷ []) e ∙ ap (λ t. map f (take i xs) ++ t ∷ []) is ∙ sym (map_more f xs i d h)

pub Contains-among : {X : Type 0} (xs ys zs ts : List X) (x : X) → ys ≡ xs → IsPermutation ys zs → ts ≡ zs → Contains xs x → Contains ts x
Contains-among xs ys zs ts x a same b there = rw b (Contains-permutation ys zs x same (rw a there))

pub rank_kept : {X : Type 0} (better : X → X → Bool) (xs ys zs ts : List X) (x : X) (r : ℕ) → ys ≡ xs → IsPermutation ys zs → ts ≡ zs → r ≡ rank_among better ts x → r ≡ rank_among better xs x
rank_kept better xs ys zs ts x r a same b is =
    is ∙ ap (λ l. rank_among better l x) b ∙ rank_among-IsPermutation better ys zs x same ∙ ap (λ l. rank_among better l x) a
