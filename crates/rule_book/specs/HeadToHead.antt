-- The draw of a head-to-head league, its matches and its table. A match is a member's points after deductions and those
-- of whom he meets. A row before it is ranked is an entry and what it has of its matches.
use Rattle.std.specs.Prelude.{ℕ, ℤ, pos, ◌+ℤ◌, ◌*ℤ◌, ◌≤ℤ◌, ◌<ℤ◌, ◌≤◌, Bool, ◌&&◌, ◌||◌, ◌==◌, if◌then◌else◌, Option, None, Some, nat_le, nat_lt, int_lt, List, length, map, fold, count_by, sum_by, IsPermutation}
use Rattle.std.specs.List.{list_all, list_any}
use Rattle.std.specs.List.Sorted.{IsSortedByKey}
use Rattle.std.specs.Ordering.{int_eq}
use Rattle.fpl_base.specs.declared.rule.Rule.{Rule}
use Rattle.fpl_base.specs.declared.rule.Rule.TheVariants.{DrawWrong}
use Rattle.rule_book.specs.Ranks.{rank_among, by_rank}
use Rattle.rule_book.specs.declared.tables.HeadScore.{HeadScore}
use Rattle.rule_book.specs.declared.tables.HeadRanked.{HeadRanked}

-- an order in which a league can be drawn: there are two members or more, and each stands in it once
abbrev pub IsDraw : List ℕ → List ℕ → Type 0
IsDraw order members = (2 ≤ length members) × IsPermutation members order

-- the same for members who differ, as a test: there are as many places as members, and each member has one
abbrev pub is_draw : List ℕ → List ℕ → Bool
is_draw order members =
    nat_le 2 (length members) && ((length order == length members) && list_all (λ member. list_any (λ place. member == place) order) members)

-- a wrong draw
abbrev pub wrong_draw : List ℕ → List ℕ → Option Rule
wrong_draw order members = if is_draw order members then None else Some DrawWrong

-- the sum of points
abbrev pub total_of : List ℤ → ℤ
total_of points = fold ◌+ℤ◌ (pos 0) points

-- the floor of the mean: the greatest whole number that, once for each, is no more than the sum
abbrev pub IsFloorOfMean : List ℤ → ℤ → Type 0
IsFloorOfMean points mean =
    ((pos (length points) *ℤ mean) ≤ℤ total_of points) × (total_of points <ℤ (pos (length points) *ℤ (mean +ℤ pos 1)))

-- the match points of a side: 3 for a win, 1 for a draw, 0 for a loss
abbrev pub match_points : ℤ → ℤ → ℕ
match_points own other = if int_lt other own then 3 else (if int_eq own other then 1 else 0)

-- what a member has of his matches
abbrev pub head_score : List (ℤ × ℤ) → HeadScore
head_score matches = record {
  points = sum_by (λ m. match_points m.0 m.1) matches;
  won = count_by (λ m. int_lt m.1 m.0) matches;
  drawn = count_by (λ m. int_eq m.0 m.1) matches;
  lost = count_by (λ m. int_lt m.0 m.1) matches;
  scored = total_of (map (λ m. m.0) matches);
}

-- one row is strictly better than another: more match points, or as many and more points scored
abbrev pub is_better : ℕ × HeadScore → ℕ × HeadScore → Bool
is_better a b = nat_lt b.1.points a.1.points || ((a.1.points == b.1.points) && int_lt b.1.scored a.1.scored)

-- a row with its rank among the rows
abbrev pub head_ranked : List (ℕ × HeadScore) → ℕ × HeadScore → HeadRanked
head_ranked rows row = record { rank = rank_among is_better rows row; entry = row.0; score = row.1 }

-- the table has each row with its rank, by rank, then entry
pub record IsHeadTable (rows : List (ℕ × HeadScore)) (table : List HeadRanked) : Type 0 where
  pub each_ranked : IsPermutation (map (head_ranked rows) rows) table
  pub in_order : IsSortedByKey (λ row. (row.rank, row.entry)) by_rank table
