-- The team of the week of rows is the one that the definition computes.
use Rattle.std.proofs.Common.{◌≡◌, ◌≢◌, ◌∙◌, sym, refl, ap, subst, ℕ, ◌+◌, ◌<◌, ◌≤◌, ℤ, pos, ◌≤ℤ◌, Bool, true, false, ◌&&◌, ◌||◌, ◌==◌, not, cond, List, [], length, map, filter, get_or, nat_lt, nat_le, int_lt, inl, inr, ◌⊎◌, arith, All, AllPairs, Contains, Some, None, IsPermutation}
use Rattle.std.specs.Cmp.{unsigned_Decides}
use Rattle.std.specs.List.{list_all}
use Rattle.std.specs.List.Sorted.{IsSortedByKey}
use Rattle.std.specs.Option.{option_map_or}
use Rattle.std.specs.Ordering.{is_lt, nat_cmp, ordering_then}
use Rattle.std.specs.declared.cmp.Ordering.TheVariants.{Less, Equal, Greater}
use Rattle.std.proofs.lemmas.Bool.{and_left, and_right, and_parts, and_from, cases_Bool, cases_eq, false_from_ne_true, le-ltb, ne_eqb, not_from_false}
use Rattle.std.proofs.lemmas.Int.{ints}
use Rattle.std.proofs.lemmas.List.{get_or-map, get_or_default, length-map}
use Rattle.std.proofs.lemmas.List.Elements.{Contains-get_or}
use Rattle.std.proofs.lemmas.List.Kept.{AllPairs-filter}
use Rattle.std.proofs.lemmas.List.Sums.{AllPass-from_list_all, list_all-from_AllPass}
use Rattle.std.proofs.lemmas.Map.Made.{IsDistinct-from_AllPairs}
use Rattle.fpl_base.specs.declared.kinds.Position.TheVariants.{Keeper}
use Rattle.rule_book.specs.Lineups.{is_formation}
use Rattle.rule_book.specs.Positions.{is_defender, is_midfielder}
use Rattle.rule_book.specs.Ranks.{AllDiffer, by_rank, rank_among}
use Rattle.rule_book.proofs.OrderFacts.{only_order}
use Rattle.rule_book.proofs.RankLemmas.{count_prefix, rank_among-IsPermutation}
use Rattle.squad_rules.specs.Dreams.{HasNoEleven, IsDream, is_among, stands_before}
use Rattle.squad_rules.specs.Elevens.{IsLegalEleven, Row, chosen, count_in, is_better, total_points}
use Rattle.squad_rules.specs.declared.dream.Dream.{Dream}
use Rattle.season_book.specs.TeamOfTheWeek.{Formation, best_in, by_place, dream_formation, fills, formation, formations, has_enough, is_top, makes_most, team_of_the_week, top_of, total_in}
use Rattle.live_windows.proofs.Better.{not_before_itself, not_both_before, one_is_better, same_row}
use Rattle.live_windows.proofs.BestOf.{IsShaped, best_is}
use Rattle.live_windows.proofs.Counts.{first_is, none_is, only_one}
use Rattle.live_windows.proofs.Formations.{is_one, no_later, stands_earlier}
use Rattle.live_windows.proofs.Legal.{filled, in_shape, in_shape_is, in_shape_legal, shaped}

abbrev ids : List Row → List ℕ
ids rows = map (λ row. row.0) rows

-- Rows whose players differ.

apart_rows : (rows : List Row) → AllDiffer (ids rows) → AllPairs (λ a b. a.0 ≢ b.0) rows
apart_rows rows differ i j d less lt same =
    differ i j 0 less (omega (arith, lt, length-map rows (λ (row : Row). row.0)))
    (get_or-map (λ (row : Row). row.0) rows i d 0 (omega (arith, lt, less)) ∙ same ∙ sym (get_or-map (λ (row : Row). row.0) rows j d 0 lt))

apart_ids : (rows : List Row) → AllPairs (λ a b. a.0 ≢ b.0) rows → AllDiffer (ids rows)
apart_ids rows apart i j d less lt same =
    let below : j < length rows = omega (arith, lt, length-map rows (λ (row : Row). row.0)) in
    let x : Row = (0, Keeper, pos 0) in
    apart i j x less below
    (sym (get_or-map (λ (row : Row). row.0) rows i x d (omega (arith, below, less))) ∙ same ∙ get_or-map (λ (row : Row). row.0) rows j x d below)

kept_differ : (p : Row → Bool) (rows : List Row) → AllDiffer (ids rows) → AllDiffer (ids (filter p rows))
kept_differ p rows differ = apart_ids (filter p rows) (AllPairs-filter (λ (a b : Row). a.0 ≢ b.0) p rows (apart_rows rows differ))

-- Rows in order.

later_rank : (m n x y : ℕ) → n < m → is_lt (by_rank (m, x) (n, y)) ≡ false
later_rank m n x y less =
    let p : nat_lt m n ≡ false = le-ltb m n (omega (arith, less)) in
    let q : (m == n) ≡ false = ne_eqb m n (λ e. omega (arith, e, less)) in
    λ i. is_lt (ordering_then (cond (p i) Less (cond (q i) Equal Greater)) (nat_cmp x y))

-- so many stand before the one at a place
rank_at : (rows : List Row) (i : ℕ) (d : Row) → AllPairs (λ a b. stands_before a b ≡ true) rows → i < length rows → rank_among stands_before rows (get_or rows i d) ≡ i + 1
rank_at rows i d ordered lt = ap (λ n. n + 1) (count_prefix (λ (o : Row). stands_before o (get_or rows i d)) rows i (omega (arith, lt)) earlier later)
  where
    earlier : (k : ℕ) (e : Row) → k < i → stands_before (get_or rows k e) (get_or rows i d) ≡ true
    earlier k e less = ap (λ x. stands_before (get_or rows k e) x) (get_or_default rows i d e lt) ∙ ordered k i e less lt

    later_by : (k : ℕ) (e : Row) → (i ≡ k) ⊎ (i ≡ k → ⊥) → i ≤ k → k < length rows → stands_before (get_or rows k e) (get_or rows i d) ≡ false
    later_by k e (inl same) le within =
        ap (λ x. stands_before (get_or rows k e) x) (get_or_default rows i d e lt ∙ ap (λ n. get_or rows n e) same) ∙ not_before_itself (get_or rows k e)
    later_by k e (inr apart) le within =
        ap (λ x. stands_before (get_or rows k e) x) (get_or_default rows i d e lt)
        ∙ not_both_before (get_or rows i e) (get_or rows k e) (ordered i k e (omega (arith, le, apart)) within)

    later : (k : ℕ) (e : Row) → i ≤ k → k < length rows → stands_before (get_or rows k e) (get_or rows i d) ≡ false
    later k e le within = later_by k e (cases_eq i k) le within

in_line : (eleven standing : List Row) → AllDiffer (ids eleven) → IsPermutation eleven standing → AllPairs (λ a b. stands_before a b ≡ true) standing → standing ≡ by_place eleven
in_line eleven standing differ same ordered =
    only_order (λ (row : Row). (rank_among stands_before eleven row, row.0)) eleven standing (IsDistinct-from_AllPairs unsigned_Decides (ids eleven) differ) same sorted
  where
    rank : (i : ℕ) (d : Row) → i < length standing → rank_among stands_before eleven (get_or standing i d) ≡ i + 1
    rank i d lt = sym (rank_among-IsPermutation stands_before eleven standing (get_or standing i d) same) ∙ rank_at standing i d ordered lt

    sorted : IsSortedByKey (λ (row : Row). (rank_among stands_before eleven row, row.0)) by_rank standing
    sorted k d low lt =
        let one = rank k d (omega (arith, lt)) in
        let two = rank (k + 1) d lt in
        later_rank (rank_among stands_before eleven (get_or standing (k + 1) d)) (rank_among stands_before eleven (get_or standing k d)) (get_or standing (k + 1) d).0 (get_or standing k d).0 (omega (arith, one, two))

-- The team of the week.

no_more : (x y z : ℤ) → x ≤ℤ y → z ≡ y → int_lt z x ≡ false
no_more x y z le same = grind (arith, ints)

as_many : (x y z : ℤ) → x ≤ℤ y → z ≡ y → int_lt x z ≡ false → x ≡ y
as_many x y z le same e = grind (arith, ints)

module _ (rows : List Row) (differ : AllDiffer (map (λ row. row.0) rows)) where
  -- what a formation makes is no more than the most that a legal eleven makes
  at_most : (shape : Formation) (most : ℤ) → Contains formations shape → has_enough rows shape ≡ true → ((other : ℕ → Bool) → IsLegalEleven (chosen other rows) → total_points (chosen other rows) ≤ℤ most)
      → total_in rows shape ≤ℤ most
  at_most shape most there enough greatest =
      subst (λ xs. total_points xs ≤ℤ most) (in_shape_is rows shape differ) (greatest (in_shape rows shape) (in_shape_legal rows shape differ there enough))

  module _ (dream : Dream) (is : IsDream rows dream) where
    abbrev shape : Formation
    shape = formation dream.defenders dream.midfielders dream.forwards

    abbrev eleven : List Row
    eleven = chosen (is_among dream.players) rows

    own_shape : IsShaped shape eleven
    own_shape = record { keeper = is.legal.keeper; defenders = sym is.defenders; midfielders = sym is.midfielders; forwards = sym is.forwards }

    best : best_in rows shape ≡ eleven
    best = best_is rows (is_among dream.players) shape is.even own_shape

    enough : has_enough rows shape ≡ true
    enough = ap (fills shape) best ∙ filled shape eleven own_shape

    there : Contains formations shape
    there = is_one dream.defenders dream.midfielders dream.forwards ((λ i. is_formation (is.defenders i) (is.midfielders i) (is.forwards i)) ∙ is.legal.formation)

    total : total_in rows shape ≡ dream.total
    total = ap total_points best ∙ sym is.total

    none_more : (other : Formation) → Contains formations other → not (has_enough rows other && int_lt (total_in rows shape) (total_in rows other)) ≡ true
    none_more other among = not_from_false (has_enough rows other && int_lt (total_in rows shape) (total_in rows other)) (go (cases_Bool (has_enough rows other)))
      where
        go : (has_enough rows other ≡ true) ⊎ (has_enough rows other ≡ false) → (has_enough rows other && int_lt (total_in rows shape) (total_in rows other)) ≡ false
        go (inl e) =
            and_right (has_enough rows other) (int_lt (total_in rows shape) (total_in rows other))
            (no_more (total_in rows other) dream.total (total_in rows shape) (at_most other dream.total among e is.greatest) total)
        go (inr e) = and_left (has_enough rows other) (int_lt (total_in rows shape) (total_in rows other)) e

    makes : makes_most rows shape ≡ true
    makes =
        and_from (has_enough rows shape) (list_all (λ other. not (has_enough rows other && int_lt (total_in rows shape) (total_in rows other))) formations) enough
        (list_all-from_AllPass (λ other. not (has_enough rows other && int_lt (total_in rows shape) (total_in rows other))) formations
        (λ k d lt. none_more (get_or formations k d) (Contains-get_or formations k d lt)))

    -- a formation that makes the most comes no earlier
    comes_later : (other : Formation) → Contains formations other → makes_most rows other ≡ true → no_later shape other ≡ true
    comes_later other among e =
        let parts = and_parts (has_enough rows other) (list_all (λ third. not (has_enough rows third && int_lt (total_in rows other) (total_in rows third))) formations) e in
        let all = AllPass-from_list_all (λ third. not (has_enough rows third && int_lt (total_in rows other) (total_in rows third))) formations parts.1 in
        let here : not (has_enough rows shape && int_lt (total_in rows other) (total_in rows shape)) ≡ true =
        ap (λ s. not (has_enough rows s && int_lt (total_in rows other) (total_in rows s))) (sym there.2) ∙ all there.0 shape there.1 in
        let less : int_lt (total_in rows other) (total_in rows shape) ≡ false = ap (λ b. b && int_lt (total_in rows other) (total_in rows shape)) (sym enough) ∙ off here in
        let same : total_in rows other ≡ dream.total = as_many (total_in rows other) dream.total (total_in rows shape) (at_most other dream.total among parts.0 is.greatest) total less in
        let own = in_shape_is rows other differ in
        let first = is.first (in_shape rows other) (in_shape_legal rows other differ among parts.0) (ap total_points own ∙ same) in
        let shape_of = shaped other (best_in rows other) parts.0 in
        let behind : count_in is_defender (chosen (in_shape rows other) rows) ≡ other.defenders = ap (count_in is_defender) own ∙ shape_of.defenders in
        let middle : count_in is_midfielder (chosen (in_shape rows other) rows) ≡ other.midfielders = ap (count_in is_midfielder) own ∙ shape_of.midfielders in
        (λ i. nat_lt (is.defenders i) (sym behind i) || (is.defenders i == sym behind i && nat_le (is.midfielders i) (sym middle i))) ∙ first
      where
        off : {b : Bool} → not b ≡ true → b ≡ false
        off {b = true} e = absurd (cc e)
        off {b = false} e = refl

    earlier : (j : ℕ) (d : Formation) → j < there.0 → makes_most rows (get_or formations j d) ≡ false
    earlier j d less = false_from_ne_true (makes_most rows (get_or formations j d)) (λ e.
        let within = there.1 in
        let late = comes_later (get_or formations j d) (Contains-get_or formations j d (omega (arith, less, within))) e in
        let at : get_or formations there.0 d ≡ shape = get_or_default formations there.0 d shape there.1 ∙ there.2 in
        let never = stands_earlier j there.0 d less there.1 in
        absurd (cc (sym (ap (λ s. no_later s (get_or formations j d)) at) ∙ never, late)))

    found : dream_formation rows ≡ Some shape
    unfolding dream_formation
    found = first_is (makes_most rows) formations there.0 shape there.1 there.2 makes earlier

    team : team_of_the_week rows ≡ by_place eleven
    team = ap (λ o. option_map_or (λ s. by_place (best_in rows s)) o []) found ∙ ap by_place best

    pub standing_is : is.in_order.standing ≡ team_of_the_week rows
    standing_is = in_line eleven is.in_order.standing (kept_differ (λ (row : Row). is_among dream.players row.0) rows differ) is.in_order.same is.in_order.in_order ∙ sym team

    pub players_are : dream.players ≡ map (λ row. row.0) (team_of_the_week rows)
    players_are = is.in_order.named ∙ ap ids standing_is

  none_found : HasNoEleven rows → dream_formation rows ≡ None
  unfolding dream_formation
  none_found none = none_is (makes_most rows) formations not_one
    where
      not_one : All (λ shape. makes_most rows shape ≡ false) formations
      not_one k d lt =
          let other = get_or formations k d in
          and_left (has_enough rows other) (list_all (λ third. not (has_enough rows third && int_lt (total_in rows other) (total_in rows third))) formations)
          (false_from_ne_true (has_enough rows other) (λ e. none (in_shape rows other) (in_shape_legal rows other differ (Contains-get_or formations k d lt) e)))

  -- where there is no legal eleven, nobody is in it
  pub nobody : HasNoEleven rows → team_of_the_week rows ≡ []
  nobody none = ap (λ o. option_map_or (λ s. by_place (best_in rows s)) o []) (none_found none)

  -- Who has the most points.

  pub top_is : (row : Row) → Contains rows row → All (λ other. is_better other row ≡ false) rows → top_of rows ≡ Some row
  top_is row here best = only_one (is_top rows) rows row here passes only
    where
      passes : is_top rows row ≡ true
      passes = list_all-from_AllPass (λ other. not (is_better other row)) rows (λ k d lt. not_from_false (is_better (get_or rows k d) row) (best k d lt))

      off : {b : Bool} → not b ≡ true → b ≡ false
      off {b = true} e = absurd (cc e)
      off {b = false} e = refl

      one : (k : ℕ) (d : Row) → k < length rows → is_top rows (get_or rows k d) ≡ true → (get_or rows k d).0 ≢ row.0 → ⊥
      one k d lt e apart =
          let all = AllPass-from_list_all (λ other. not (is_better other (get_or rows k d))) rows e in
          let other = get_or rows k d in
          let at : not (is_better row other) ≡ true = ap (λ r. not (is_better r other)) (sym here.2) ∙ all here.0 row here.1 in
          let better = one_is_better row other (λ same. apart (sym same)) (off at) in
          absurd (cc (better, best k d lt))

      only_by : (k : ℕ) (d : Row) → k < length rows → is_top rows (get_or rows k d) ≡ true → ((get_or rows k d).0 ≡ row.0) ⊎ ((get_or rows k d).0 ≡ row.0 → ⊥) → get_or rows k d ≡ row
      only_by k d lt e (inl same) = same_row rows (get_or rows k d) row differ (Contains-get_or rows k d lt) here same
      only_by k d lt e (inr apart) = absurd (one k d lt e apart)

      only : All (λ y. is_top rows y ≡ true → y ≡ row) rows
      only k d lt e = only_by k d lt e (cases_eq (get_or rows k d).0 row.0)
