-- Matches and rows of head-to-head leagues are those of the rule book.
use Rattle.std.proofs.Common.{◌≡◌, ℕ, ◌+◌, ◌-◌, ◌<◌, ◌≤◌, ℤ, true, false, nat_lt, inl, inr, ⊎_elim, List, [], Option, Some, None, length, map, refl, sym, ◌∙◌, ap, subst, arith}
use Rattle.std.specs.List.{slice_index}
use Rattle.std.specs.Option.{option_map_or}
use Rattle.std.proofs.lemmas.Bool.{cases_lt}
use Rattle.std.proofs.lemmas.Bool.Decides.{nat_tests}
use Rattle.rule_book.specs.Entries.{entry_in}
use Rattle.rule_book.specs.HeadToHead.{head_score}
use Rattle.rule_book.specs.LeagueRows.{place_of, points_against}
use Rattle.rule_book.specs.Leagues.{LeagueFacts}
use Rattle.rule_book.specs.Opponents.{opponent_of}
use Rattle.rule_book.specs.Totals.{gameweeks}
use Rattle.rule_book.specs.declared.pairing.Opponent.{Opponent}
use Rattle.rule_book.specs.declared.pairing.Opponent.TheVariants.{Place, Average}
use Rattle.season_nodes.specs.declared.nodes.Node.{Node}
use Rattle.season_nodes.specs.declared.nodes.Node.TheVariants as node
use Rattle.season_nodes.specs.declared.nodes.Value.{Value}
use Rattle.season_nodes.specs.Places.{at_place}
use Rattle.season_nodes.specs.Reading.{from_range, map_local}
use Rattle.season_nodes.specs.RoundLaws.{lower_is, lower_own, lower_whose, met_average, met_place}
use Rattle.season_nodes.specs.Rounds.{has_average, met, order_in, start_in}
use Rattle.season_nodes.specs.RowsTold.{HoldTheirOwn, MatchesAreTold, RowsAreTold}
use Rattle.season_nodes.specs.Season.{SeasonFacts, average_held, has_round, is_live, lower_in, match_by, match_node, matches_by, met_in, net_by, opponent_in, points_by, scores_held, seen_by, seen_from}
use Rattle.season_nodes.specs.SeasonLaws.{below_test, both_true, has_round_in, match_lives, own_match_lives}

not_below : (h n : ℕ) → n ≤ h → nat_lt h n ≡ false
not_below h n e = grind (arith, nat_tests)

module _ (b : SeasonFacts) (v : Node → Option Value) where
  -- the match of an entry at a place, and all its matches, by an order and a first gameweek
  abbrev match_with : List ℕ → ℕ → ℕ → ℕ → ℕ → ℤ × ℤ
  match_with order start e i g = (net_by b v e g, points_against (net_by b v) order g (opponent_of (length order) (g - start) i))

  abbrev matches_with : List ℕ → ℕ → ℕ → List (ℤ × ℤ)
  matches_with order start e = option_map_or (λ i. map (match_with order start e i) (gameweeks start b.calendar.locked)) (place_of order e) []

  module _ (own : HoldTheirOwn b v) (l : ℕ) where
    points_told : (g : ℕ) (o : Opponent) → (o ≡ Average → is_live b (node.Average l g) ≡ true) → points_by b v l g o ≡ points_against (net_by b v) (order_in b.leagues l) g o
    points_told g (Place j) alive = refl
    points_told g Average alive = ap average_held (own.averages l g (alive refl))

    match_told : (g i : ℕ) → has_round b l g ≡ true → i < length (order_in b.leagues l)
        → match_by b v l g i ≡ match_with (order_in b.leagues l) (start_in b.leagues l) (slice_index (order_in b.leagues l) i) i g
    match_told g i round within =
        let n = length (order_in b.leagues l) in
        ap (λ z. (net_by b v (slice_index (order_in b.leagues l) i) g, z))
        (points_told g (opponent_in b l g i) (λ is. both_true (has_round b l g) (has_average n) round (met_average n (g - start_in b.leagues l) i within is)))

    -- the match of a place, seen from its side
    seen_told : (e i g : ℕ) → has_round b l g ≡ true → i < length (order_in b.leagues l) → slice_index (order_in b.leagues l) i ≡ e
        → seen_by b v l i g ≡ match_with (order_in b.leagues l) (start_in b.leagues l) e i g
    seen_told e i g round within there =
        elim (cases_lt i (met_in b l g i)) [
          | inl low ↦
              ap (λ t. seen_from t (scores_held (v (match_node b l i g)))) (below_test i (met_in b l g i) low)
              ∙ ap (λ q. scores_held (v (node.Match l g q))) (lower_own n k i low)
              ∙ ap scores_held (own.matches l g i (match_lives b l g i round within low))
              ∙ match_told g i round within
              ∙ ap (λ q. match_with order (start_in b.leagues l) q i g) there
          | inr high ↦ ⊎_elim (λ same. absurd (never same high)) (other high) (lower_whose n k i (lower_in b l g i) (opponent_in b l g i) refl refl within)
        ]
      where
        order : List ℕ
        order = order_in b.leagues l

        n : ℕ
        n = length (order_in b.leagues l)

        k : ℕ
        k = g - start_in b.leagues l

        never : i ≡ lower_in b l g i → met_in b l g i ≤ i → ⊥
        never same high =
            let low : i < met n k i = subst (λ m. m < met n k m) (sym same) (lower_is n k i within).1 in
            omega (arith, low, high)

        other : met_in b l g i ≤ i → opponent_in b l g i ≡ Place (lower_in b l g i) → seen_by b v l i g ≡ match_with (order_in b.leagues l) (start_in b.leagues l) e i g
        other high meets =
            let m = lower_in b l g i in
            let back = (met_place n k i m within meets).2 in
            let its = net_by b v (slice_index order m) g in
            ap (λ t. seen_from t (scores_held (v (match_node b l i g)))) (not_below i (met_in b l g i) high)
            ∙ ap (λ x. seen_from false (scores_held x)) (own.matches l g m (own_match_lives b l i g round within))
            ∙ ap (λ o. (points_by b v l g o, its)) back
            ∙ ap (λ q. (net_by b v q g, its)) there
            ∙ ap (λ o. (net_by b v e g, points_against (net_by b v) order g o)) (sym meets)

    found_told : (e : ℕ) (o : Option ℕ) → place_of (order_in b.leagues l) e ≡ o
        → option_map_or (matches_by b v l) o [] ≡ option_map_or (λ i. map (match_with (order_in b.leagues l) (start_in b.leagues l) e i) (gameweeks (start_in b.leagues l) b.calendar.locked)) o []
    found_told e None is = refl
    found_told e (Some i) is =
        let order = order_in b.leagues l in
        let start = start_in b.leagues l in
        let at = at_place order e i is in
        map_local (seen_by b v l i) (match_with order start e i) (gameweeks start b.calendar.locked)
        (λ g a. let r = from_range start ((b.calendar.locked + 1) - start) g a in
        seen_told e i g (has_round_in b l g r.0 (omega (arith, r.0, r.1))) at.0 at.1)

    module _ (league : LeagueFacts) (at : entry_in b.leagues l ≡ Some league) where
      order_is : order_in b.leagues l ≡ league.order
      order_is = ap (λ o. option_map_or (λ (x : LeagueFacts). x.order) o []) at

      start_is : start_in b.leagues l ≡ league.start
      start_is = ap (λ o. option_map_or (λ (x : LeagueFacts). x.start) o 0) at

      same_match : (g i : ℕ) → has_round b l g ≡ true → i < length league.order → match_by b v l g i ≡ match_with league.order league.start (slice_index league.order i) i g
      same_match g i round within =
          match_told g i round (subst (λ order. i < length order) (sym order_is) within)
          ∙ (λ k. match_with (order_is k) (start_is k) (slice_index (order_is k) i) i g)

      same_row : (e : ℕ) → option_map_or (matches_by b v l) (place_of (order_in b.leagues l) e) [] ≡ matches_with league.order league.start e
      same_row e = found_told e (place_of (order_in b.leagues l) e) refl ∙ (λ k. matches_with (order_is k) (start_is k) e)

pub matches_are_told : MatchesAreTold
matches_are_told b v own l g i league at = same_match b v own l league at g i

pub rows_are_told : RowsAreTold
rows_are_told b v own l e league at = ap (λ matches. (e, head_score matches)) (same_row b v own l league at e)
