-- The team of the week is made of rows, and the points of each are found by its player.
use Rattle.std.proofs.Common.{◌≡◌, ◌∙◌, sym, ap, ℕ, ℤ, pos, ◌==◌, List, [], map, get_or, nat_lt, arith, All, Contains, Option, Some, None}
use Rattle.std.specs.List.{find}
use Rattle.std.specs.Option.{option_map_or}
use Rattle.std.proofs.lemmas.Bool.{eq-eqb, eqb-true}
use Rattle.std.proofs.lemmas.List.Elements.{Contains-get_or}
use Rattle.std.proofs.lemmas.List.Sorted.{Contains-permutation, IsPermutation-sym}
use Rattle.rule_book.specs.Ranks.{AllDiffer, rank_among}
use Rattle.rule_book.proofs.OrderFacts.{in_order_moves}
use Rattle.squad_rules.specs.Dreams.{stands_before}
use Rattle.squad_rules.specs.Elevens.{Row}
use Rattle.season_book.specs.TeamOfTheWeek.{Formation, best_in, by_place, dream_formation, number_better, team_of_the_week, wanted}
use Rattle.live_windows.proofs.Better.{same_row}
use Rattle.live_windows.proofs.Counts.{from_kept, only_one}

pub members : (rows : List Row) → All (Contains rows) (team_of_the_week rows)
members rows = go (dream_formation rows)
  where
    go : (o : Option Formation) → All (Contains rows) (option_map_or (λ shape. by_place (best_in rows shape)) o [])
    go None k d lt = absurd (omega (arith, lt))
    go (Some shape) k d lt =
        let best = best_in rows shape in
        let moved = in_order_moves (λ (row : Row). (rank_among stands_before best row, row.0)) best in
        (from_kept (λ (row : Row). nat_lt (number_better rows row) (wanted shape row.1)) rows (get_or (by_place best) k d)
        (Contains-permutation (by_place best) best (get_or (by_place best) k d) (IsPermutation-sym best (by_place best) moved) (Contains-get_or (by_place best) k d lt))).1

pub points_found : (rows : List Row) (row : Row) (player : ℕ) (points : ℤ) → AllDiffer (map (λ row. row.0) rows) → Contains rows row → player ≡ row.0
    → points ≡ option_map_or (λ (r : Row). r.2) (find (λ (r : Row). r.0 == player) rows) (pos 0) → points ≡ row.2
points_found rows row player points differ there same are =
    are
    ∙ ap (λ o. option_map_or (λ (r : Row). r.2) o (pos 0))
    (only_one (λ (r : Row). r.0 == player) rows row there (eq-eqb row.0 player (sym same))
    (λ k d lt f. same_row rows (get_or rows k d) row differ (Contains-get_or rows k d lt) there (eqb-true (get_or rows k d).0 player f ∙ same)))
