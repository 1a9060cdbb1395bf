-- Whom a member of a head-to-head league meets, and the points of the Average, as values.
use Rattle.std.specs.Prelude.{◌≡◌, ◌↔◌, ◌≤◌, ◌<◌, ℕ, ◌+◌, ◌-◌, ◌*◌, ◌%◌, ℤ, pos, Bool, not, ◌&&◌, ◌==◌, if◌then◌else◌, nat_lt, List, length, find}
use Rattle.std.specs.Int.{int_div_euclid}
use Rattle.std.specs.List.{range_with_len}
use Rattle.std.specs.Option.{option_map_or}
use Rattle.rule_book.specs.HeadToHead.{IsFloorOfMean, total_of}
use Rattle.rule_book.specs.Pairings.{IsOpponent, places}
use Rattle.rule_book.specs.declared.pairing.Opponent.{Opponent}
use Rattle.rule_book.specs.declared.pairing.Opponent.TheVariants.{Place, Average}

-- the number that decides whether two of n places meet: their sum, or twice the one that meets the last place
abbrev pub pair_number : ℕ → ℕ → ℕ → ℕ
pair_number n i j = if i == n - 1 then 2 * j else if j == n - 1 then 2 * i else i + j

-- of n places, i and j meet in round k
abbrev pub does_meet : ℕ → ℕ → ℕ → ℕ → Bool
does_meet n k i j = not (i == j) && pair_number n i j % (n - 1) == k % (n - 1)

-- a place as an opponent: that of a member, or the Average's behind them
abbrev pub opponent_at : ℕ → ℕ → Opponent
opponent_at members j = if nat_lt j members then Place j else Average

-- whom the member at place i meets in round k
abbrev pub opponent_of : ℕ → ℕ → ℕ → Opponent
opponent_of members k i = option_map_or (opponent_at members) (find (does_meet (places members) k i) (range_with_len 0 (places members))) Average

-- of two members or more, it is the only one that the rules allow
abbrev pub OpponentIsTheOne : Type 0
OpponentIsTheOne = (members k i : ℕ) (opponent : Opponent) → 2 ≤ members → i < members → IsOpponent members k i opponent ↔ (opponent ≡ opponent_of members k i)

-- the points of the Average: the mean of the members' points, rounded down
abbrev pub mean_of : List ℤ → ℤ
mean_of points = int_div_euclid (total_of points) (pos (length points))

-- of one member or more, it is the only one that the rules allow
abbrev pub MeanIsTheOne : Type 0
MeanIsTheOne = (points : List ℤ) (mean : ℤ) → 1 ≤ length points → IsFloorOfMean points mean ↔ (mean ≡ mean_of points)
