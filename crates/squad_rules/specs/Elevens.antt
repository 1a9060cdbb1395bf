-- Elevens of players with points: which are legal, what they score, and which are even. A row is a player, his position
-- and his points. A choice is a test of players, and takes the rows of those who pass.
use Rattle.std.specs.Prelude.{◌≡◌, ℕ, ℤ, Bool, true, ◌&&◌, ◌||◌, ◌==◌, nat_lt, nat_le, int_lt, List, length, map, filter, count_by, Contains}
use Rattle.std.specs.Ordering.{int_eq}
use Rattle.fpl_base.specs.declared.kinds.Position.{Position}
use Rattle.rule_book.specs.HeadToHead.{total_of}
use Rattle.rule_book.specs.Lineups.{is_formation}
use Rattle.rule_book.specs.Positions.{is_keeper, is_defender, is_midfielder, is_forward}

abbrev pub Row : Type 0
Row = ℕ × Position × ℤ

-- the rows that a choice takes
abbrev pub chosen : (ℕ → Bool) → List Row → List Row
chosen choice rows = filter (λ row. choice row.0) rows

-- how many rows have a position of which this holds
abbrev pub count_in : (Position → Bool) → List Row → ℕ
count_in is_there rows = count_by (λ row. is_there row.1) rows

-- a legal eleven: eleven rows, one of them a goalkeeper's, and the other ten may stand so
pub record IsLegalEleven (eleven : List Row) : Type 0 where
  pub all : length eleven ≡ 11
  pub keeper : count_in is_keeper eleven ≡ 1
  pub formation : is_formation (count_in is_defender eleven) (count_in is_midfielder eleven) (count_in is_forward eleven) ≡ true

-- the sum of the points of rows
abbrev pub total_points : List Row → ℤ
total_points rows = total_of (map (λ row. row.2) rows)

-- one row is better than another: it has more points, or as many and the smaller id
abbrev pub is_better : Row → Row → Bool
is_better one other = int_lt other.2 one.2 || (int_eq one.2 other.2 && nat_lt one.0 other.0)

-- a choice of rows is even: who is better than a player that it takes, in his position, is taken too
abbrev pub IsEven : (ℕ → Bool) → List Row → Type 0
IsEven choice rows = (one other : Row) → Contains rows one → Contains rows other → one.1 ≡ other.1 → is_better one other ≡ true → choice other.0 ≡ true → choice one.0 ≡ true

-- The formation of one eleven comes no later than that of another: it has fewer defenders, or as many and no more
-- midfielders. So 3-4-3 comes first, then 3-5-2, 4-3-3, 4-4-2, 4-5-1, 5-2-3, 5-3-2 and 5-4-1.
abbrev pub comes_no_later : List Row → List Row → Bool
comes_no_later one other =
    nat_lt (count_in is_defender one) (count_in is_defender other) || (count_in is_defender one == count_in is_defender other && nat_le (count_in is_midfielder one) (count_in is_midfielder other))
