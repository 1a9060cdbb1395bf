-- The candidates for a position, collected and sorted.
use Rattle.std.proofs.Common.{◌≡◌, ◌≢◌, ◌∙◌, sym, refl, ap, subst, ℕ, ◌+◌, ◌<◌, ◌≤◌, ℤ, pos, ◌+ℤ◌, Bool, true, false, ◌&&◌, ◌||◌, ◌==◌, cond, List, [], ◌∷◌, ◌++◌, length, map, take, get_or, nat_lt, int_lt, arith, All, AllPairs, IsPermutation, IsSorted, nat_eq, Some, None}
use Rattle.std.specs.Cmp.{IsTotalOrder}
use Rattle.std.specs.List.{IsDistinct}
use Rattle.std.specs.Ordering.{is_eq, is_lt, nat_cmp, int_cmp, ordering_then}
use Rattle.std.specs.declared.cmp.Ordering.{Ordering}
use Rattle.std.specs.declared.cmp.Ordering.TheVariants.{Less, Equal, Greater}
use Rattle.std.proofs.lemmas.Bool.{true≢false, le-leb, ne_eqb, eqb-false, lt-ltb, ltb-false}
use Rattle.std.proofs.lemmas.Cmp.{int_cmp_total, nat_cmp_total, nat_eq_equiv, on_total, then_total, back_total}
use Rattle.std.proofs.lemmas.List.{get_or-map, length-map, map_more, take-map}
use Rattle.std.proofs.lemmas.List.Elements.{All-filter}
use Rattle.std.proofs.lemmas.List.Kept.{AllPairs-filter}
use Rattle.std.proofs.lemmas.List.Sorted.{All-permutation, IsPermutation-map, ranks_by, sorted_far}
use Rattle.std.proofs.lemmas.List.Sums.{fold_push}
use Rattle.std.proofs.lemmas.Map.Keys.{IsDistinct-IsPermutation, IsDistinct-from_apart, apart_from_distinct}
use Rattle.fpl_base.specs.declared.kinds.Position.{Position}
use Rattle.rule_book.specs.FigureRange.{IsWithin}
use Rattle.rule_book.specs.HeadToHead.{total_of}
use Rattle.rule_book.specs.Ranks.{AllDiffer}
use Rattle.squad_rules.specs.Elevens.{Row, is_better, total_points}
use Rattle.squad_rules.specs.Pools.{IsPool, first_total, is_at, row_of}
use Rattle.squad_rules.specs.declared.pools.Candidate.{Candidate}
use Rattle.squad_rules.proofs.Choosing.{part}

-- ---- collected

-- ---- sorted

abbrev pub by_candidate : Candidate → Candidate → Ordering
by_candidate a b = ordering_then (int_cmp b.points.0 a.points.0) (nat_cmp a.player b.player)

candidates_total : IsTotalOrder by_candidate
candidates_total = then_total (back_total (on_total (λ (c : Candidate). c.points.0) int_cmp_total)) (on_total (λ (c : Candidate). c.player) nat_cmp_total)

by_tests : (p q r s t : Bool) → (r ≡ false → s ≡ false → t ≡ true) → s ≡ false
    → is_lt (ordering_then (cond p Less (cond q Greater Equal)) (cond r Less (cond s Equal Greater))) ≡ false
    → (q || (is_eq (cond p Less (cond q Greater Equal)) && t)) ≡ true
by_tests true q r s t then apart not = absurd (true≢false not)
by_tests false true r s t then apart not = refl
by_tests false false true s t then apart not = absurd (true≢false not)
by_tests false false false s t then apart not = then refl apart

-- of two candidates with different ids, the one that does not stand behind the other is better
better_before : (position : Position) (a b : Candidate) → a.player ≢ b.player → is_lt (by_candidate b a) ≡ false → is_better (row_of position a) (row_of position b) ≡ true
better_before position a b apart not =
    by_tests (int_lt a.points.0 b.points.0) (int_lt b.points.0 a.points.0) (nat_lt b.player a.player) (b.player == a.player) (nat_lt a.player b.player)
    (λ low differ. lt-ltb a.player b.player (less (ltb-false b.player a.player low))) (ne_eqb b.player a.player (λ same. apart (sym same))) not
  where
    less : a.player ≤ b.player → a.player < b.player
    less le = omega (arith, le, apart)

distinct : (xs : List ℕ) → AllPairs (λ a b. a ≢ b) xs → IsDistinct nat_eq xs
distinct xs apart = IsDistinct-from_apart nat_eq xs (λ i j d less inside. ne_eqb (get_or xs i d) (get_or xs j d) (apart i j d less inside))

apart : (xs : List ℕ) → IsDistinct nat_eq xs → AllPairs (λ a b. a ≢ b) xs
apart xs is i j d less inside = eqb-false (get_or xs i d) (get_or xs j d) (apart_from_distinct nat_eq xs i j d is less inside)

-- the rows of a position have different ids
part_differs : (position : Position) (rows : List Row) → AllDiffer (map (λ row. row.0) rows) → AllDiffer (map (λ row. row.0) (part position rows))
part_differs position rows differ i j d less inside same =
    let kept = part position rows in
    let long = length-map kept (λ (row : Row). row.0) in
    let all : AllPairs (λ (a b : Row). a.0 ≢ b.0) rows = λ k l e lt below.
    let count = length-map rows (λ (row : Row). row.0) in
    λ equal. differ k l 0 lt (omega (arith, count, below))
    (get_or-map (λ (row : Row). row.0) rows k e 0 (omega arith) ∙ equal ∙ sym (get_or-map (λ (row : Row). row.0) rows l e 0 below)) in
    go kept (AllPairs-filter (λ (a b : Row). a.0 ≢ b.0) (λ (row : Row). is_at position row.1) rows all) (omega (arith, long, inside)) same
  where
    go : (kept : List Row) → AllPairs (λ (a b : Row). a.0 ≢ b.0) kept → j < length kept → get_or (map (λ row. row.0) kept) i d ≡ get_or (map (λ row. row.0) kept) j d → ⊥
    go [] all below equal = absurd (omega arith)
    go (x ∷ xs) all below equal =
        all i j x less below
        (sym (get_or-map (λ (row : Row). row.0) (x ∷ xs) i x d (omega arith)) ∙ equal ∙ get_or-map (λ (row : Row). row.0) (x ∷ xs) j x d below)

pub names_map : (position : Position) (cs : List Candidate) → map (λ (row : Row). row.0) (map (row_of position) cs) ≡ map (λ (c : Candidate). c.player) cs
names_map position [] = refl
names_map position (c ∷ cs) = ap (λ l. c.player ∷ l) (names_map position cs)

-- the candidates of a position, sorted, are its pool
pub sorted_pool : (rows : List Row) (position : Position) (found sorted : List Candidate) → AllDiffer (map (λ row. row.0) rows) → All (λ row. IsWithin 1000000 row.2) rows
    → map (row_of position) found ≡ part position rows → IsPermutation found sorted → IsSorted by_candidate sorted → IsPool rows position (map (row_of position) sorted)
sorted_pool rows position found sorted differ near are moved order =
    let pool = map (row_of position) sorted in
    let same : IsPermutation (part position rows) pool = subst (λ (l : List Row). IsPermutation l pool) are (IsPermutation-map (row_of position) found sorted moved) in
    let names : IsDistinct nat_eq (map (λ (row : Row). row.0) pool)
    = IsDistinct-IsPermutation nat_eq nat_eq_equiv.symm (map (λ (row : Row). row.0) (part position rows)) (map (λ (row : Row). row.0) pool)
    (IsPermutation-map (λ (row : Row). row.0) (part position rows) pool same) (distinct (map (λ (row : Row). row.0) (part position rows)) (part_differs position rows differ)) in
    let players : AllPairs (λ a b. a ≢ b) (map (λ (c : Candidate). c.player) sorted)
    = apart (map (λ (c : Candidate). c.player) sorted) (subst (IsDistinct nat_eq) (names_map position sorted) names) in
    record {
      same = same;
      ranked = ranked_all players;
      near = All-permutation (λ (row : Row). IsWithin 1000000 row.2) (part position rows) pool same (All-filter (λ (row : Row). is_at position row.1) (λ (row : Row). IsWithin 1000000 row.2) rows near);
    }
  where
    ranked_all : AllPairs (λ a b. a ≢ b) (map (λ (c : Candidate). c.player) sorted) → AllPairs (λ one other. is_better one other ≡ true) (map (row_of position) sorted)
    ranked_all players i j d less inside =
        let below : j < length sorted = omega (arith, length-map sorted (row_of position), inside) in
        let candidate : Candidate = record { points = record { 0 = d.2 }; player = d.0 } in
        let a = get_or sorted i candidate in
        let b = get_or sorted j candidate in
        let one : get_or (map (row_of position) sorted) i d ≡ row_of position a = get_or-map (row_of position) sorted i candidate d (omega arith) in
        let two : get_or (map (row_of position) sorted) j d ≡ row_of position b = get_or-map (row_of position) sorted j candidate d below in
        let differ : a.player ≢ b.player = λ same. players i j 0 less (omega (arith, length-map sorted (λ (c : Candidate). c.player), below))
        (get_or-map (λ (c : Candidate). c.player) sorted i candidate 0 (omega arith) ∙ same ∙ sym (get_or-map (λ (c : Candidate). c.player) sorted j candidate 0 below)) in
        let behind : is_lt (by_candidate b a) ≡ false = sorted_far (λ x y. is_lt (by_candidate x y)) (ranks_by candidates_total (λ (c : Candidate). c)) sorted order i j candidate (omega arith) below in
        subst (λ (x : Row). is_better x (get_or (map (row_of position) sorted) j d) ≡ true) (sym one)
        (subst (λ (y : Row). is_better (row_of position a) y ≡ true) (sym two) (better_before position a b differ behind))

-- ---- summed

abbrev pub points_in : List Candidate → List ℤ
points_in candidates = map (λ candidate. candidate.points.0) candidates

pub one_summed : (candidates : List Candidate) (i : ℕ) (d : Candidate) → i < length candidates
    → total_of (points_in (take (i + 1) candidates)) ≡ total_of (points_in (take i candidates)) +ℤ (get_or candidates i d).points.0
one_summed candidates i d inside =
    ap total_of (map_more (λ (candidate : Candidate). candidate.points.0) candidates i d inside)
    ∙ fold_push ◌+ℤ◌ (pos 0) (points_in (take i candidates)) (get_or candidates i d).points.0

same_points : (position : Position) (cs : List Candidate) → map (λ (row : Row). row.2) (map (row_of position) cs) ≡ points_in cs
same_points position [] = refl
same_points position (c ∷ cs) = ap (λ l. c.points.0 ∷ l) (same_points position cs)

-- the first of a pool have the points of its first candidates
pub first_points : (position : Position) (n : ℕ) (cs : List Candidate) → total_points (take n (map (row_of position) cs)) ≡ total_of (points_in (take n cs))
first_points position n cs = ap total_points (take-map (row_of position) n cs) ∙ ap total_of (same_points position (take n cs))

pub near_first : (position : Position) (cs : List Candidate) → All (λ (row : Row). IsWithin 1000000 row.2) (map (row_of position) cs) → All (λ (c : Candidate). IsWithin 1000000 c.points.0) cs
near_first position cs near k c inside =
    let at : get_or (map (row_of position) cs) k (row_of position c) ≡ row_of position (get_or cs k c) = get_or-map (row_of position) cs k c (row_of position c) inside in
    subst (λ (row : Row). IsWithin 1000000 row.2) at (near k (row_of position c) (omega (arith, length-map cs (row_of position), inside)))

pub first_is : (position : Position) (cs : List Candidate) (n : ℕ) (total : ℤ) → n ≤ length cs → total ≡ total_of (points_in (take n cs)) → Some total ≡ first_total (map (row_of position) cs) n
first_is position cs n total enough is =
    ap (λ (z : ℤ). Some z) (is ∙ sym (first_points position n cs))
    ∙ sym (ap (λ b. cond b (Some (total_points (take n (map (row_of position) cs)))) None) (le-leb n (length (map (row_of position) cs)) (omega (arith, length-map cs (row_of position), enough))))
