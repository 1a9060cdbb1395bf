-- The players of each position, the better first, and what the first of them make together.
use Rattle.std.specs.Prelude.{◌≡◌, ◌≢◌, ℕ, ◌+◌, ℤ, ◌+ℤ◌, ◌≤ℤ◌, Bool, true, false, ◌&&◌, ◌||◌, ◌==◌, nat_lt, nat_le, int_lt, if◌then◌else◌, List, ◌++◌, length, map, filter, take, drop, All, AllPairs, IsPermutation, Option, Some, None, option_and_then}
use Rattle.fpl_base.specs.declared.kinds.Position.{Position}
use Rattle.fpl_base.specs.declared.kinds.Position.TheVariants.{Keeper, Defender, Midfielder, Forward}
use Rattle.rule_book.specs.FigureRange.{IsWithin}
use Rattle.rule_book.specs.Lineups.{is_formation}
use Rattle.rule_book.specs.Positions.{is_keeper, is_defender, is_midfielder, is_forward}
use Rattle.squad_rules.specs.Elevens.{Row, is_better, total_points}
use Rattle.squad_rules.specs.declared.pools.Candidate.{Candidate}
use Rattle.squad_rules.specs.declared.pools.Pools.{Pools}
use Rattle.squad_rules.specs.declared.formations.Best.{Best}

-- whether a position is this one
abbrev pub is_at : Position → Position → Bool
is_at Keeper = is_keeper
is_at Defender = is_defender
is_at Midfielder = is_midfielder
is_at Forward = is_forward

-- the row of a candidate for a position
abbrev pub row_of : Position → Candidate → Row
row_of position candidate = (candidate.player, position, candidate.points.0)

-- the rows of a position, the better first
pub record IsPool (rows : List Row) (position : Position) (pool : List Row) : Type 0 where
  pub same : IsPermutation (filter (λ row. is_at position row.1) rows) pool
  pub ranked : AllPairs (λ one other. is_better one other ≡ true) pool
  pub near : All (λ row. IsWithin 1000000 row.2) pool

-- what the code keeps of each position
abbrev pub pool_of : Pools → Position → List Row
pool_of pools Keeper = map (row_of Keeper) pools.keepers.items
pool_of pools Defender = map (row_of Defender) pools.defenders.items
pool_of pools Midfielder = map (row_of Midfielder) pools.midfielders.items
pool_of pools Forward = map (row_of Forward) pools.forwards.items

abbrev pub ArePools : List Row → (Position → List Row) → Type 0
ArePools rows pools = (position : Position) → IsPool rows position (pools position)

-- the points in every pool are near 0
abbrev pub AreNear : (Position → List Row) → Type 0
AreNear pools = (position : Position) → All (λ row. IsWithin 1000000 row.2) (pools position)

-- there are enough players for a formation
abbrev pub has_enough : (Position → List Row) → ℕ → ℕ → ℕ → Bool
has_enough pools d m f =
    nat_le 1 (length (pools Keeper)) && nat_le d (length (pools Defender)) && nat_le m (length (pools Midfielder)) && nat_le f (length (pools Forward))

-- the first of each position, for a formation
abbrev pub first_of : (Position → List Row) → ℕ → ℕ → ℕ → List Row
first_of pools d m f =
    take 1 (pools Keeper) ++ (take d (pools Defender) ++ (take m (pools Midfielder) ++ take f (pools Forward)))

-- what the first of a pool make; none where there are too few
abbrev pub first_total : List Row → ℕ → Option ℤ
first_total pool count = if nat_le count (length pool) then Some (total_points (take count pool)) else None

-- what a formation makes, if there are enough players for it
abbrev pub tried : (Position → List Row) → ℕ → ℕ → ℕ → Option Best
tried pools d m f =
    option_and_then (λ in_goal. option_and_then (λ behind. option_and_then (λ middle.
    option_and_then (λ front. Some (record { defenders = d; midfielders = m; forwards = f; total = in_goal +ℤ (behind +ℤ (middle +ℤ front)) })) (first_total (pools Forward) f))
    (first_total (pools Midfielder) m)) (first_total (pools Defender) d)) (first_total (pools Keeper) 1)

-- the one that was found first, unless the other has more
abbrev pub preferred : Option Best → Option Best → Option Best
preferred old None = old
preferred None (Some new) = Some new
preferred (Some old) (Some new) = if int_lt old.total new.total then Some new else Some old

-- one formation comes before another: fewer defenders, or as many and fewer midfielders
abbrev pub is_before : ℕ → ℕ → ℕ → ℕ → Bool
is_before d m other_d other_m = nat_lt d other_d || (d == other_d && nat_lt m other_m)

-- of the formations before one, this is the first that makes the most
pub record IsBestBefore (pools : Position → List Row) (d m : ℕ) (best : Best) : Type 0 where
  pub formation : is_formation best.defenders best.midfielders best.forwards ≡ true
  pub enough : has_enough pools best.defenders best.midfielders best.forwards ≡ true
  pub total : best.total ≡ total_points (first_of pools best.defenders best.midfielders best.forwards)
  pub before : is_before best.defenders best.midfielders d m ≡ true
  pub greatest : (a b c : ℕ) → is_before a b d m ≡ true → is_formation a b c ≡ true → has_enough pools a b c ≡ true → total_points (first_of pools a b c) ≤ℤ best.total
  pub first : (a b c : ℕ) → is_before a b best.defenders best.midfielders ≡ true → is_formation a b c ≡ true → has_enough pools a b c ≡ true → total_points (first_of pools a b c) ≢ best.total

-- there are too few players for each formation before one
abbrev pub HasNoneBefore : (Position → List Row) → ℕ → ℕ → Type 0
HasNoneBefore pools d m = (a b c : ℕ) → is_before a b d m ≡ true → is_formation a b c ≡ true → has_enough pools a b c ≡ false

-- the first of the formations before one that makes the most; none where there are too few players for each
abbrev pub Finds : (Position → List Row) → ℕ → ℕ → Option Best → Type 0
Finds pools d m None = HasNoneBefore pools d m
Finds pools d m (Some best) = IsBestBefore pools d m best

-- a list where others stand in the places from one on
abbrev pub placed_at : List ℕ → ℕ → List ℕ → List ℕ
placed_at old from others = take from old ++ (others ++ drop (from + length others) old)
