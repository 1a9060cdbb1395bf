-- Who meets whom in a head-to-head league. Members stand at places 0, 1, 2 and so on, in the order of the draw.
use Rattle.std.specs.Prelude.{ℕ, ◌≡◌, ◌≢◌, ◌<◌, ◌+◌, ◌-◌, ◌*◌, ◌%◌, ◌⊎◌}
use Rattle.rule_book.specs.declared.pairing.Opponent.{Opponent}
use Rattle.rule_book.specs.declared.pairing.Opponent.TheVariants.{Place, Average}

-- the number of places: where the members are odd, the Average takes the place after the last member
abbrev pub places : ℕ → ℕ
places members = members + members % 2

-- of n places, i and j meet in round k: the sum of two places below the last is the round's number modulo n - 1, and
-- the last place meets the place whose double is
abbrev pub Meets : ℕ → ℕ → ℕ → ℕ → Type 0
Meets n k i j =
    (i ≢ j) × (((i < n - 1) × (j < n - 1) × ((i + j) % (n - 1) ≡ k % (n - 1)))
    ⊎ (((i ≡ n - 1) × (j < n - 1) × ((2 * j) % (n - 1) ≡ k % (n - 1)))
    ⊎ ((j ≡ n - 1) × (i < n - 1) × ((2 * i) % (n - 1) ≡ k % (n - 1)))))

-- whom the member at place i meets in round k: another member, or the Average at the place after the members
abbrev pub IsOpponent : ℕ → ℕ → ℕ → Opponent → Type 0
IsOpponent members k i (Place j) = (j < members) × Meets (places members) k i j
IsOpponent members k i Average = (places members ≡ members + 1) × Meets (places members) k i members

-- in round k, place i of n meets one place, not itself, which meets it too
abbrev pub MeetsOne : ℕ → ℕ → ℕ → Type 0
MeetsOne n k i =
    (j : ℕ) × (j < n) × (j ≢ i) × Meets n k i j × Meets n k j i × ((other : ℕ) → other < n → Meets n k i other → other ≡ j)

-- places i and j of n meet in one of the rounds 0 to n - 2
abbrev pub MeetOnce : ℕ → ℕ → ℕ → Type 0
MeetOnce n i j =
    (k : ℕ) × (k < n - 1) × Meets n k i j × ((other : ℕ) → other < n - 1 → Meets n other i j → other ≡ k)
