-- The team of the week of players with points, as a function of their rows: of the formations for which there are enough,
-- the first of those whose best players make the most.
use Rattle.std.specs.Prelude.{ℕ, ℤ, Bool, not, ◌&&◌, ◌==◌, nat_lt, int_lt, List, [], ◌∷◌, Option, count_by, filter, find}
use Rattle.std.specs.List.{list_all}
use Rattle.std.specs.Option.{option_map_or}
use Rattle.fpl_base.specs.declared.kinds.Position.{Position}
use Rattle.rule_book.specs.Positions.{is_keeper, is_defender, is_midfielder, is_forward}
use Rattle.rule_book.specs.Ranks.{rank_among}
use Rattle.rule_book.specs.RowsInOrder.{in_order}
use Rattle.rule_book.specs.Scoring.{by_position}
use Rattle.squad_rules.specs.Dreams.{place_of, stands_before}
use Rattle.squad_rules.specs.Elevens.{Row, count_in, is_better, total_points}

-- how many of each position stand before the goalkeeper
pub record Formation : Type 0 where
  pub defenders : ℕ
  pub midfielders : ℕ
  pub forwards : ℕ

abbrev pub formation : ℕ → ℕ → ℕ → Formation
formation d m f = record { defenders = d; midfielders = m; forwards = f }

-- all formations; where two make the same, the first of them is taken
abbrev pub formations : List Formation
formations =
    formation 3 4 3 ∷ formation 3 5 2 ∷ formation 4 3 3 ∷ formation 4 4 2 ∷ formation 4 5 1 ∷ formation 5 2 3 ∷ formation 5 3 2 ∷ formation 5 4 1
    ∷ []

-- how many of a position a formation has
abbrev pub wanted : Formation → Position → ℕ
wanted shape position = by_position 1 shape.defenders shape.midfielders shape.forwards position

-- how many of his position are better than a player
abbrev pub number_better : List Row → Row → ℕ
number_better rows row = count_by (λ other. place_of other.1 == place_of row.1 && is_better other row) rows

-- the best of each position, as many as a formation has
abbrev pub best_in : List Row → Formation → List Row
best_in rows shape = filter (λ row. nat_lt (number_better rows row) (wanted shape row.1)) rows

-- so many rows of each position as a formation has
abbrev pub fills : Formation → List Row → Bool
fills shape eleven =
    count_in is_keeper eleven == 1 && (count_in is_defender eleven == shape.defenders && (count_in is_midfielder eleven == shape.midfielders && count_in is_forward eleven == shape.forwards))

-- there are enough players for a formation
abbrev pub has_enough : List Row → Formation → Bool
has_enough rows shape = fills shape (best_in rows shape)

-- what the best players of a formation make
abbrev pub total_in : List Row → Formation → ℤ
total_in rows shape = total_points (best_in rows shape)

-- there are enough for it, and no other for which there are enough makes more
abbrev pub makes_most : List Row → Formation → Bool
makes_most rows shape =
    has_enough rows shape && list_all (λ other. not (has_enough rows other && int_lt (total_in rows shape) (total_in rows other))) formations

-- the formation of the team of the week, if there is one
unfoldable pub dream_formation : List Row → Option Formation
dream_formation rows = find (makes_most rows) formations

-- rows by position, within one the better first
abbrev pub by_place : List Row → List Row
by_place eleven = in_order (λ row. (rank_among stands_before eleven row, row.0)) eleven

-- the rows of the team of the week in their order; nobody where there is none
abbrev pub team_of_the_week : List Row → List Row
team_of_the_week rows = option_map_or (λ shape. by_place (best_in rows shape)) (dream_formation rows) []

-- nobody is better
abbrev pub is_top : List Row → Row → Bool
is_top rows row = list_all (λ other. not (is_better other row)) rows

-- who has the most points, of those who have as many the one of the smallest id; none where nobody is there
abbrev pub top_of : List Row → Option Row
top_of rows = find (is_top rows) rows
