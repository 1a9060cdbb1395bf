-- The first of each position, in a formation for which there are enough, are the team of the week of that formation.
use Rattle.std.proofs.Common.{◌≡◌, ◌≢◌, ◌∙◌, sym, refl, ap, subst, zero, suc, ℕ, ◌+◌, ◌<◌, ◌≤◌, ℤ, ◌+ℤ◌, ◌≤ℤ◌, Bool, true, false, ◌&&◌, ◌==◌, ◌⊎◌, inl, inr, List, [], ◌∷◌, ◌++◌, length, map, filter, take, drop, get_or, nat_lt, nat_le, arith, All, AllPairs, Contains, IsPermutation}
use Rattle.std.specs.List.{remove}
use Rattle.std.proofs.lemmas.Bool.{and_from, false_from_ne_true, eqb-true, eq-eqb, lt-ltb, or_left, or_right, cases_order, leb-true, le-leb, eqb-true}
use Rattle.std.proofs.lemmas.Int.{ints}
use Rattle.std.proofs.lemmas.List.{get_or-map, get_or-take, get_or-drop, get_or_default, length-map, length-append, length-take-le, length-drop}
use Rattle.std.proofs.lemmas.List.Elements.{All-contains, All-contains_itself, All-filter, filter_passes, Contains-get_or, Contains-append_left, Contains-append_right, Contains-append_cases, All-head, All-tail}
use Rattle.std.proofs.lemmas.List.Kept.{AllPairs-filter}
use Rattle.std.proofs.lemmas.List.Folds.{Any-from_list_any, list_any_at}
use Rattle.std.proofs.lemmas.List.Sorted.{IsPermutation-refl, IsPermutation-sym, IsPermutation-cons, IsPermutation-trans, IsPermutation-remove, length_permutation, Contains-permutation}
use Rattle.std.proofs.lemmas.List.Sums.{length-filter}
use Rattle.std.proofs.lemmas.Map.Made.{Contains-tail}
use Rattle.fpl_base.specs.declared.kinds.Position.{Position}
use Rattle.fpl_base.specs.declared.kinds.Position.TheVariants.{Keeper, Defender, Midfielder, Forward}
use Rattle.rule_book.specs.Lineups.{is_formation}
use Rattle.rule_book.specs.Positions.{is_defender, is_midfielder, is_forward}
use Rattle.rule_book.specs.Ranks.{AllDiffer}
use Rattle.squad_rules.specs.Elevens.{Row, chosen, count_in, IsLegalEleven, total_points, is_better, IsEven}
use Rattle.squad_rules.specs.Dreams.{is_among, place_of, stands_before, StandInOrder}
use Rattle.squad_rules.specs.Pools.{is_at, ArePools, first_of, has_enough}
use Rattle.squad_rules.proofs.Choosing.{part, filter_swap, filter_head, keeps_first, chosen_total, chosen_length, four_parts}
use Rattle.squad_rules.proofs.Places.{at_is, at_itself}
use Rattle.squad_rules.proofs.Ranking.{Ranked, few_chosen, not_both_better, first_are_most}
use Rattle.squad_rules.proofs.Trying.{all_four, four_tests, in_range, points_of_first}

-- rows who differ, and are as many as others and all among them, are the others
pub all_there : (members order : List Row) → AllPairs (λ a b. a ≢ b) members → length order ≡ length members → All (Contains order) members → IsPermutation members order
all_there [] [] differ long all = IsPermutation-refl []
all_there [] (x ∷ xs) differ long all = absurd (omega (arith, long))
all_there (m ∷ ms) order differ long all =
    let (k, lt, e) = All-head (Contains order) m ms all in
    let moved = IsPermutation-remove order k m lt (sym e) in
    let short = length_permutation order (m ∷ remove order k) moved in
    let rest = all_there ms (remove order k) (λ i j d lt below. differ (suc i) (suc j) d (omega arith) (omega arith)) (omega (arith, short, long)) (others (remove order k) moved) in
    IsPermutation-trans (m ∷ ms) (m ∷ remove order k) order (IsPermutation-cons m ms (remove order k) rest) (IsPermutation-sym order (m ∷ remove order k) moved)
  where
    others : (left : List Row) → IsPermutation order (m ∷ left) → All (Contains left) ms
    others left moved i d below =
        Contains-tail m left (get_or ms i d) (differ 0 (suc i) d (omega arith) (omega arith))
        (Contains-permutation order (m ∷ left) (get_or ms i d) moved (All-tail (Contains order) m ms all i d below))

-- what a filter keeps of a list has each element that passes
kept : (p : Row → Bool) (xs : List Row) (x : Row) → p x ≡ true → Contains xs x → Contains (filter p xs) x
kept p [] x e (k, lt, is) = absurd (omega (arith, lt))
kept p (y ∷ ys) x e (zero, lt, is) =
    subst (λ (l : List Row). Contains l x) (sym (filter_head p y ys true (ap p is ∙ e))) (0, omega arith, is)
kept p (y ∷ ys) x e (suc k, lt, is) = go (p y) refl (kept p ys x e (k, omega (arith, lt), is))
  where
    go : (b : Bool) → p y ≡ b → Contains (filter p ys) x → Contains (filter p (y ∷ ys)) x
    go true f (j, below, at) = subst (λ (l : List Row). Contains l x) (sym (filter_head p y ys true f)) (suc j, omega (arith, below), at)
    go false f there = subst (λ (l : List Row). Contains l x) (sym (filter_head p y ys false f)) there

later : (x y : Row) (xs : List Row) → Contains xs y → Contains (x ∷ xs) y
later x y xs (k, lt, is) = (suc k, omega (arith, lt), is)

-- one before a list of pairs in order
before_all : (R : Row → Row → Type 0) (x : Row) (xs : List Row) → ((y : Row) → Contains xs y → R x y) → AllPairs R xs → AllPairs R (x ∷ xs)
before_all R x xs head rest i j d less inside = go i j less inside
  where
    go : (i j : ℕ) → i < j → j < length (x ∷ xs) → R (get_or (x ∷ xs) i d) (get_or (x ∷ xs) j d)
    go zero zero lt below = absurd (omega arith)
    go zero (suc j) lt below = head (get_or xs j d) (Contains-get_or xs j d (omega arith))
    go (suc i) zero lt below = absurd (omega arith)
    go (suc i) (suc j) lt below = rest i j d (omega arith) (omega arith)

first_of_pairs : (R : Row → Row → Type 0) (x y : Row) (xs : List Row) → AllPairs R (x ∷ xs) → Contains xs y → R x y
first_of_pairs R x y xs all (k, lt, is) = subst (R x) is (all 0 (suc k) y (omega arith) (omega (arith, lt)))

-- all of two lists stand in the order of one, and all of the first before all of the second
joined : (R : Row → Row → Type 0) (xs ys : List Row) → AllPairs R xs → AllPairs R ys → ((x y : Row) → Contains xs x → Contains ys y → R x y) → AllPairs R (xs ++ ys)
joined R [] ys front back cross = back
joined R (x ∷ xs) ys front back cross =
    before_all R x (xs ++ ys) (λ y there. go y (Contains-append_cases xs ys y there))
    (joined R xs ys (λ i j d less inside. front (suc i) (suc j) d (omega arith) (omega arith)) back (λ a b here there. cross a b (later x a xs here) there))
  where
    go : (y : Row) → Contains xs y ⊎ Contains ys y → R x y
    go y (inl here) = first_of_pairs R x y xs front here
    go y (inr there) = cross x y (0, omega arith, refl) there

-- the first of pairs in order are in order
first_pairs : (R : Row → Row → Type 0) (n : ℕ) (xs : List Row) → n ≤ length xs → AllPairs R xs → AllPairs R (take n xs)
first_pairs R n xs few all i j d less inside =
    let long = length-take-le n xs few in
    let one = get_or-take n xs i d (omega (arith, long)) in
    let two = get_or-take n xs j d (omega (arith, long)) in
    subst (λ (a : Row). R a (get_or (take n xs) j d)) (sym one)
    (subst (λ (b : Row). R (get_or xs i d) b) (sym two) (all i j d less (omega (arith, long))))

-- a place of the first n, and one behind them
in_first : (n : ℕ) (xs : List Row) (x : Row) → n ≤ length xs → Contains (take n xs) x → (i : ℕ) × (i < n) × (get_or xs i x ≡ x)
in_first n xs x few (i, lt, is) =
    let long = length-take-le n xs few in
    let below : i < n = omega (arith, long, lt) in
    (i, below, sym (get_or-take n xs i x below) ∙ is)

in_back : (n : ℕ) (xs : List Row) (x : Row) → Contains (drop n xs) x → (i : ℕ) × (n ≤ i) × (i < length xs) × (get_or xs i x ≡ x)
in_back n xs x (i, lt, is) =
    let long = length-drop n xs in
    (n + i, omega arith, omega (arith, long, lt), sym (get_or-drop n xs i x) ∙ is)

-- nobody stands both among the first n of rows in order and behind them
not_in_both : (n : ℕ) (xs : List Row) (x : Row) → n ≤ length xs → Ranked xs → Contains (take n xs) x → Contains (drop n xs) x → ⊥
not_in_both n xs x few ranked front back =
    let (i, low, one) = in_first n xs x few front in
    let (j, high, inside, two) = in_back n xs x back in
    let better : is_better (get_or xs i x) (get_or xs j x) ≡ true = ranked i j x (omega (arith, low, high)) inside in
    let itself : is_better x x ≡ true = subst (λ (b : Row). is_better x b ≡ true) two (subst (λ (a : Row). is_better a (get_or xs j x) ≡ true) one better) in
    not_both_better x x itself itself

-- how many of each position stand in a formation
abbrev pub number : ℕ → ℕ → ℕ → Position → ℕ
number d m f Keeper = 1
number d m f Defender = d
number d m f Midfielder = m
number d m f Forward = f

module _ (rows : List Row) (differ : AllDiffer (map (λ row. row.0) rows)) (pools : Position → List Row) (are : ArePools rows pools) where
  -- rows with the same player are the same
  same_row : (a b : Row) → Contains rows a → Contains rows b → a.0 ≡ b.0 → a ≡ b
  same_row a b (i, below, one) (j, inside, two) same = go (cases_order i j)
    where
      id : Row → ℕ
      id row = row.0

      long : length (map (λ (row : Row). row.0) rows) ≡ length rows
      long = length-map rows (λ (row : Row). row.0)

      at : (k : ℕ) (x : Row) → k < length rows → get_or rows k x ≡ x → get_or (map (λ (row : Row). row.0) rows) k 0 ≡ x.0
      at k x lt is = get_or-map (λ (row : Row). row.0) rows k x 0 lt ∙ ap (λ (row : Row). row.0) is

      go : (i ≡ j) ⊎ ((i < j) ⊎ (j < i)) → a ≡ b
      go (inl e) = sym one ∙ get_or_default rows i a b below ∙ ap (λ k. get_or rows k b) e ∙ two
      go (inr (inl less)) = absurd (differ i j 0 less (omega (arith, long, inside)) (at i a below one ∙ same ∙ sym (at j b inside two)))
      go (inr (inr less)) = absurd (differ j i 0 less (omega (arith, long, below)) (at j b inside two ∙ sym same ∙ sym (at i a below one)))

  -- who stands in a pool is a row of that position
  pub from_pool : (p : Position) (x : Row) → Contains (pools p) x → Contains rows x × (x.1 ≡ p)
  from_pool p x there =
      let own = Contains-permutation (pools p) (part p rows) x (IsPermutation-sym (part p rows) (pools p) (are p).same) there in (
        All-contains (Contains rows) (part p rows) x (All-filter (λ (row : Row). is_at p row.1) (Contains rows) rows (All-contains_itself rows)) own,
        at_is p x.1 (All-contains (λ (row : Row). is_at p row.1 ≡ true) (part p rows) x (filter_passes (λ (row : Row). is_at p row.1) rows) own),
      )

  -- and the other way round
  pub to_pool : (p : Position) (x : Row) → Contains rows x → x.1 ≡ p → Contains (pools p) x
  to_pool p x there e =
      Contains-permutation (part p rows) (pools p) x (are p).same
      (kept (λ (row : Row). is_at p row.1) rows x (ap (is_at p) e ∙ at_itself p) there)

  -- what a choice takes of a position, it takes of its pool
  part_length : (choice : ℕ → Bool) (p : Position) → length (part p (chosen choice rows)) ≡ length (chosen choice (pools p))
  part_length choice p =
      ap length (filter_swap (λ (row : Row). is_at p row.1) (λ (row : Row). choice row.0) rows) ∙ sym (chosen_length choice (part p rows) (pools p) (are p).same)

  part_total : (choice : ℕ → Bool) (p : Position) → total_points (part p (chosen choice rows)) ≡ total_points (chosen choice (pools p))
  part_total choice p =
      ap total_points (filter_swap (λ (row : Row). is_at p row.1) (λ (row : Row). choice row.0) rows) ∙ sym (chosen_total choice (part p rows) (pools p) (are p).same)

  part_few : (choice : ℕ → Bool) (p : Position) → length (chosen choice (pools p)) ≤ length (pools p)
  part_few choice p = few_chosen choice (pools p)

  counted : (choice : ℕ → Bool) (p : Position) (n : ℕ) → count_in (is_at p) (chosen choice rows) ≡ n → length (chosen choice (pools p)) ≡ n
  counted choice p n e = sym (part_length choice p) ∙ length-filter (λ (row : Row). is_at p row.1) (chosen choice rows) ∙ e

  sum_of_four : (t a b c d a' b' c' d' : ℤ) → t ≡ (a +ℤ b) +ℤ (c +ℤ d) → a ≤ℤ a' → b ≤ℤ b' → c ≤ℤ c' → d ≤ℤ d' → t ≤ℤ (a' +ℤ (b' +ℤ (c' +ℤ d')))
  sum_of_four t a b c d a' b' c' d' e f g h i = omega (arith, ints, e, f, g, h, i)

  part_most : (choice : ℕ → Bool) (p : Position) (n : ℕ) → length (chosen choice (pools p)) ≡ n → total_points (part p (chosen choice rows)) ≤ℤ total_points (take n (pools p))
  part_most choice p n e =
      subst (λ (k : ℕ). total_points (part p (chosen choice rows)) ≤ℤ total_points (take k (pools p))) e
      (subst (λ (z : ℤ). z ≤ℤ total_points (take (length (chosen choice (pools p))) (pools p))) (sym (part_total choice p)) (first_are_most choice (pools p) (are p).ranked))

  -- for the formation of a legal eleven there are enough, and the first of each position have no fewer points
  pub no_more : (choice : ℕ → Bool) → IsLegalEleven (chosen choice rows)
      → let eleven = chosen choice rows in
      (has_enough pools (count_in is_defender eleven) (count_in is_midfielder eleven) (count_in is_forward eleven) ≡ true)
      × (total_points eleven ≤ℤ total_points (first_of pools (count_in is_defender eleven) (count_in is_midfielder eleven) (count_in is_forward eleven)))
  no_more choice legal =
      let eleven = chosen choice rows in
      let k = counted choice Keeper 1 legal.keeper in
      let d = counted choice Defender (count_in is_defender eleven) refl in
      let m = counted choice Midfielder (count_in is_midfielder eleven) refl in
      let f = counted choice Forward (count_in is_forward eleven) refl in (
        all_four _ _ _ _ (le-leb 1 (length (pools Keeper)) (omega (arith, k, part_few choice Keeper)))
            (le-leb (count_in is_defender eleven) (length (pools Defender)) (subst (λ n. n ≤ length (pools Defender)) d (part_few choice Defender)))
            (le-leb (count_in is_midfielder eleven) (length (pools Midfielder)) (subst (λ n. n ≤ length (pools Midfielder)) m (part_few choice Midfielder)))
            (le-leb (count_in is_forward eleven) (length (pools Forward)) (subst (λ n. n ≤ length (pools Forward)) f (part_few choice Forward))),
        subst (λ (z : ℤ). total_points eleven ≤ℤ z) (sym (points_of_first pools (count_in is_defender eleven) (count_in is_midfielder eleven) (count_in is_forward eleven)))
            (sum_of_four _ _ _ _ _ _ _ _ _ (four_parts eleven).total (part_most choice Keeper 1 k) (part_most choice Defender _ d) (part_most choice Midfielder _ m) (part_most choice Forward _ f)),
      )

  module _ (d m f : ℕ) (formation : is_formation d m f ≡ true) (enough : has_enough pools d m f ≡ true) where
    abbrev pub standing : List Row
    standing = first_of pools d m f

    abbrev pub named : List ℕ
    named = map (λ row. row.0) standing

    abbrev pub own : ℕ → Bool
    own = is_among named

    enough_of : (p : Position) → number d m f p ≤ length (pools p)
    enough_of p =
        let four = four_tests (nat_le 1 (length (pools Keeper))) (nat_le d (length (pools Defender))) (nat_le m (length (pools Midfielder))) (nat_le f (length (pools Forward))) enough in
        at p (leb-true 1 (length (pools Keeper)) four.0) (leb-true d (length (pools Defender)) four.1) (leb-true m (length (pools Midfielder)) four.2) (leb-true f (length (pools Forward)) four.3)
      where
        at : (p : Position) → 1 ≤ length (pools Keeper) → d ≤ length (pools Defender) → m ≤ length (pools Midfielder) → f ≤ length (pools Forward) → number d m f p ≤ length (pools p)
        at Keeper a b c e = a
        at Defender a b c e = b
        at Midfielder a b c e = c
        at Forward a b c e = e

    abbrev pub first : Position → List Row
    first p = take (number d m f p) (pools p)

    -- who stands is among the first of a position
    of_first : (x : Row) → Contains standing x → (p : Position) × Contains (first p) x
    of_first x there = one (Contains-append_cases (first Keeper) (first Defender ++ (first Midfielder ++ first Forward)) x there)
      where
        three : Contains (first Midfielder) x ⊎ Contains (first Forward) x → (p : Position) × Contains (first p) x
        three (inl here) = (Midfielder, here)
        three (inr here) = (Forward, here)

        two : Contains (first Defender) x ⊎ Contains (first Midfielder ++ first Forward) x → (p : Position) × Contains (first p) x
        two (inl here) = (Defender, here)
        two (inr later) = three (Contains-append_cases (first Midfielder) (first Forward) x later)

        one : Contains (first Keeper) x ⊎ Contains (first Defender ++ (first Midfielder ++ first Forward)) x → (p : Position) × Contains (first p) x
        one (inl here) = (Keeper, here)
        one (inr later) = two (Contains-append_cases (first Defender) (first Midfielder ++ first Forward) x later)

    stands : (p : Position) (x : Row) → Contains (first p) x → Contains standing x
    stands Keeper x there = Contains-append_left (first Keeper) _ x there
    stands Defender x there = Contains-append_right (first Keeper) _ x (Contains-append_left (first Defender) _ x there)
    stands Midfielder x there =
        Contains-append_right (first Keeper) _ x (Contains-append_right (first Defender) _ x (Contains-append_left (first Midfielder) _ x there))
    stands Forward x there =
        Contains-append_right (first Keeper) _ x (Contains-append_right (first Defender) _ x (Contains-append_right (first Midfielder) _ x there))

    -- the first of a position are of its pool
    first_in_pool : (p : Position) (x : Row) → Contains (first p) x → Contains (pools p) x
    first_in_pool p x there =
        let (i, low, is) = in_first (number d m f p) (pools p) x (enough_of p) there in
        (i, omega (arith, low, enough_of p), is)

    -- the choice takes who stands
    own_takes : (x : Row) → Contains standing x → own x.0 ≡ true
    own_takes x (k, lt, is) =
        let long = length-map standing (λ (row : Row). row.0) in
        let at : get_or named k 0 ≡ x.0 = get_or-map (λ (row : Row). row.0) standing k x 0 lt ∙ ap (λ (row : Row). row.0) is in
        list_any_at (λ other. other == x.0) named k 0 (omega (arith, long, lt)) (eq-eqb (get_or named k 0) x.0 at)

    -- and nobody else
    taken_stands : (x : Row) → Contains rows x → own x.0 ≡ true → Contains standing x
    taken_stands x there e =
        let (k, y, lt, is, test) = Any-from_list_any (λ other. other == x.0) named e in
        let long = length-map standing (λ (row : Row). row.0) in
        let inside : k < length standing = omega (arith, long, lt) in
        let s = get_or standing k x in
        let here : Contains standing s = Contains-get_or standing k x inside in
        let same : s.0 ≡ x.0 = sym (get_or-map (λ (row : Row). row.0) standing k x y inside) ∙ is ∙ eqb-true y x.0 test in
        let (p, first) = of_first s here in
        subst (λ (row : Row). Contains standing row) (same_row s x (from_pool p s (first_in_pool p s first)).0 there same) here

    -- who stands and is of a position is among its first
    first_of_own : (p : Position) (x : Row) → x.1 ≡ p → Contains standing x → Contains (first p) x
    first_of_own p x e there =
        let (q, here) = of_first x there in
        let at : q ≡ p = sym (from_pool q x (first_in_pool q x here)).1 ∙ e in
        subst (λ (r : Position). Contains (first r) x) at here

    own_first : (p : Position) → All (λ row. own row.0 ≡ true) (first p)
    own_first p k x inside = own_takes (get_or (first p) k x) (stands p (get_or (first p) k x) (Contains-get_or (first p) k x inside))

    own_back : (p : Position) → All (λ row. own row.0 ≡ false) (drop (number d m f p) (pools p))
    own_back p k x inside =
        let back = drop (number d m f p) (pools p) in
        let y = get_or back k x in
        let there : Contains back y = Contains-get_or back k x inside in
        let (i, low, high, is) = in_back (number d m f p) (pools p) y there in
        let pool : Contains (pools p) y = (i, high, is) in
        let row = from_pool p y pool in
        false_from_ne_true (own y.0) (λ e. not_in_both (number d m f p) (pools p) y (enough_of p) (are p).ranked (first_of_own p y row.1 (taken_stands y row.0 e)) there)

    own_pool : (p : Position) → chosen own (pools p) ≡ first p
    own_pool p = keeps_first (λ (row : Row). own row.0) (number d m f p) (pools p) (own_first p) (own_back p)

    own_length : (p : Position) → length (part p (chosen own rows)) ≡ number d m f p
    own_length p = part_length own p ∙ ap length (own_pool p) ∙ length-take-le (number d m f p) (pools p) (enough_of p)

    pub own_count : (p : Position) → count_in (is_at p) (chosen own rows) ≡ number d m f p
    own_count p = sym (length-filter (λ (row : Row). is_at p row.1) (chosen own rows)) ∙ own_length p

    own_part_total : (p : Position) → total_points (part p (chosen own rows)) ≡ total_points (first p)
    own_part_total p = part_total own p ∙ ap total_points (own_pool p)

    sum_same : (t a b c e a' b' c' e' : ℤ) → t ≡ (a +ℤ b) +ℤ (c +ℤ e) → a ≡ a' → b ≡ b' → c ≡ c' → e ≡ e' → t ≡ a' +ℤ (b' +ℤ (c' +ℤ e'))
    sum_same t a b c e a' b' c' e' s g h i j = omega (arith, ints, s, g, h, i, j)

    pub own_total : total_points (chosen own rows) ≡ total_points standing
    own_total =
        sum_same _ _ _ _ _ _ _ _ _ (four_parts (chosen own rows)).total (own_part_total Keeper) (own_part_total Defender) (own_part_total Midfielder) (own_part_total Forward)
        ∙ sym (points_of_first pools d m f)

    ten_behind : d + m + f ≡ 10
    ten_behind = (in_range d m f formation).ten

    own_long : length (chosen own rows) ≡ 11
    own_long =
        omega (arith, (four_parts (chosen own rows)).number, own_length Keeper, own_length Defender, own_length Midfielder, own_length Forward, ten_behind)

    pub own_legal : IsLegalEleven (chosen own rows)
    own_legal = record {
      all = own_long;
      keeper = own_count Keeper;
      formation = ap (λ n. is_formation n (count_in is_midfielder (chosen own rows)) (count_in is_forward (chosen own rows))) (own_count Defender)
          ∙ ap (λ n. is_formation d n (count_in is_forward (chosen own rows))) (own_count Midfielder) ∙ ap (is_formation d m) (own_count Forward) ∙ formation;
    }

    pub own_even : IsEven own rows
    own_even one other here there same better taken =
        let p = other.1 in
        let (j, low, at) = in_first (number d m f p) (pools p) other (enough_of p) (first_of_own p other refl (taken_stands other there taken)) in
        let (i, inside, is) = to_pool p one here same in
        own_takes one (stands p one (front p i j low (enough_of p) inside is at))
      where
        front : (p : Position) (i j : ℕ) → j < number d m f p → number d m f p ≤ length (pools p) → i < length (pools p) → get_or (pools p) i one ≡ one → get_or (pools p) j other ≡ other → Contains (first p) one
        front p i j low few inside is at = go (cases_order i j)
          where
            taken_at : i < number d m f p → Contains (first p) one
            taken_at lt =
                (i, omega (arith, length-take-le (number d m f p) (pools p) few, lt), get_or-take (number d m f p) (pools p) i one lt ∙ is)

            go : (i ≡ j) ⊎ ((i < j) ⊎ (j < i)) → Contains (first p) one
            go (inl e) = taken_at (omega (arith, e, low))
            go (inr (inl less)) = taken_at (omega (arith, less, low))
            go (inr (inr more)) =
                let worse : is_better (get_or (pools p) j other) (get_or (pools p) i other) ≡ true = (are p).ranked j i other more inside in
                let is' : get_or (pools p) i other ≡ one = get_or_default (pools p) i other one inside ∙ is in
                let back : is_better other one ≡ true = subst (λ (b : Row). is_better other b ≡ true) is' (subst (λ (a : Row). is_better a (get_or (pools p) i other) ≡ true) at worse) in
                absurd (not_both_better one other better back)

    within : (p : Position) → AllPairs (λ one other. stands_before one other ≡ true) (first p)
    within p i j a less inside =
        let long = length-take-le (number d m f p) (pools p) (enough_of p) in
        let x = get_or (first p) i a in
        let y = get_or (first p) j a in
        let one = (from_pool p x (first_in_pool p x (Contains-get_or (first p) i a (omega (arith, less, inside))))).1 in
        let two = (from_pool p y (first_in_pool p y (Contains-get_or (first p) j a inside))).1 in
        let same : place_of x.1 ≡ place_of y.1 = ap place_of (one ∙ sym two) in
        let better : is_better x y ≡ true = first_pairs (λ (s t : Row). is_better s t ≡ true) (number d m f p) (pools p) (enough_of p) (are p).ranked i j a less inside in
        or_right (nat_lt (place_of x.1) (place_of y.1)) (place_of x.1 == place_of y.1 && is_better x y)
        (and_from (place_of x.1 == place_of y.1) (is_better x y) (eq-eqb (place_of x.1) (place_of y.1) same) better)

    across : (p q : Position) → place_of p < place_of q → (x y : Row) → Contains (first p) x → Contains (first q) y → stands_before x y ≡ true
    across p q less x y here there =
        let one = (from_pool p x (first_in_pool p x here)).1 in
        let two = (from_pool q y (first_in_pool q y there)).1 in
        or_left (nat_lt (place_of x.1) (place_of y.1)) (place_of x.1 == place_of y.1 && is_better x y)
        (lt-ltb (place_of x.1) (place_of y.1) (subst (λ n. n < place_of y.1) (sym (ap place_of one)) (subst (λ n. place_of p < n) (sym (ap place_of two)) less)))

    either : (x y : Row) (xs ys : List Row) → (Contains xs y → stands_before x y ≡ true) → (Contains ys y → stands_before x y ≡ true) → Contains (xs ++ ys) y → stands_before x y ≡ true
    either x y xs ys one other there = go (Contains-append_cases xs ys y there)
      where
        go : Contains xs y ⊎ Contains ys y → stands_before x y ≡ true
        go (inl here) = one here
        go (inr here) = other here

    in_line : AllPairs (λ one other. stands_before one other ≡ true) standing
    in_line =
        joined (λ (one other : Row). stands_before one other ≡ true) (first Keeper) (first Defender ++ (first Midfielder ++ first Forward)) (within Keeper)
        (joined (λ (one other : Row). stands_before one other ≡ true) (first Defender) (first Midfielder ++ first Forward) (within Defender)
        (joined (λ (one other : Row). stands_before one other ≡ true) (first Midfielder) (first Forward) (within Midfielder) (within Forward) (across Midfielder Forward (omega arith)))
        (λ x y here. either x y (first Midfielder) (first Forward) (across Defender Midfielder (omega arith) x y here) (across Defender Forward (omega arith) x y here)))
        (λ x y here. either x y (first Defender) (first Midfielder ++ first Forward) (across Keeper Defender (omega arith) x y here)
        (either x y (first Midfielder) (first Forward) (across Keeper Midfielder (omega arith) x y here) (across Keeper Forward (omega arith) x y here)))

    standing_long : length standing ≡ 11
    standing_long =
        let a = length-append (first Keeper) (first Defender ++ (first Midfielder ++ first Forward)) in
        let b = length-append (first Defender) (first Midfielder ++ first Forward) in
        let c = length-append (first Midfielder) (first Forward) in
        let k = length-take-le 1 (pools Keeper) (enough_of Keeper) in
        let e = length-take-le d (pools Defender) (enough_of Defender) in
        let g = length-take-le m (pools Midfielder) (enough_of Midfielder) in
        let h = length-take-le f (pools Forward) (enough_of Forward) in
        omega (arith, a, b, c, k, e, g, h, ten_behind)

    chosen_differ : (xs : List Row) → AllDiffer (map (λ row. row.0) xs) → AllPairs (λ a b. a ≢ b) xs
    chosen_differ xs apart i j x less inside same =
        let long = length-map xs (λ (row : Row). row.0) in
        apart i j 0 less (omega (arith, long))
        (get_or-map (λ (row : Row). row.0) xs i x 0 (omega arith) ∙ ap (λ (row : Row). row.0) same ∙ sym (get_or-map (λ (row : Row). row.0) xs j x 0 inside))

    pub own_order : StandInOrder (chosen own rows) named
    own_order = record {
      standing = standing;
      same = all_there (chosen own rows) standing (AllPairs-filter (λ (a b : Row). a ≢ b) (λ (row : Row). own row.0) rows (chosen_differ rows differ))
          (standing_long ∙ sym own_long) each;
      in_order = in_line;
      named = refl;
    }
      where
        each : All (Contains standing) (chosen own rows)
        each k x inside =
            let y = get_or (chosen own rows) k x in
            let here = Contains-get_or (chosen own rows) k x inside in
            taken_stands y
            (All-contains (Contains rows) (chosen own rows) y (All-filter (λ (row : Row). own row.0) (Contains rows) rows (All-contains_itself rows)) here)
            (All-contains (λ (row : Row). own row.0 ≡ true) (chosen own rows) y (filter_passes (λ (row : Row). own row.0) rows) here)
