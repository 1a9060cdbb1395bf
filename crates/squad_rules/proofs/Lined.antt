-- The first candidates of each position, in their order.
use Rattle.std.proofs.Common.{◌≡◌, ◌∙◌, sym, ap, ℕ, ◌+◌, ◌≤◌, true, List, ◌++◌, length, map, take, arith}
use Rattle.std.proofs.lemmas.Bool.{leb-true}
use Rattle.std.proofs.lemmas.List.{length-map, length-take-le, map-append, take-map}
use Rattle.std.specs.Prelude.{nat_le}
use Rattle.fpl_base.specs.declared.kinds.Position.{Position}
use Rattle.fpl_base.specs.declared.kinds.Position.TheVariants.{Keeper, Defender, Midfielder, Forward}
use Rattle.rule_book.specs.Lineups.{is_formation}
use Rattle.squad_rules.specs.Elevens.{Row}
use Rattle.squad_rules.specs.Pools.{first_of, has_enough, placed_at, pool_of, row_of}
use Rattle.squad_rules.specs.declared.pools.Candidate.{Candidate}
use Rattle.squad_rules.specs.declared.pools.Pools.{Pools}
use Rattle.squad_rules.proofs.Collecting.{names_map}
use Rattle.squad_rules.proofs.Putting.{four_placed}
use Rattle.squad_rules.proofs.Trying.{four_tests, in_range}

abbrev names : List Candidate → List ℕ
names candidates = map (λ candidate. candidate.player) candidates

abbrev ids : List Row → List ℕ
ids rows = map (λ row. row.0) rows

first_names : (position : Position) (n : ℕ) (cs : List Candidate) → ids (take n (map (row_of position) cs)) ≡ names (take n cs)
first_names position n cs = ap ids (take-map (row_of position) n cs) ∙ names_map position (take n cs)

all_names : (pools : Pools) (d m f : ℕ) → names (take 1 pools.keepers.items) ++ (names (take d pools.defenders.items) ++ (names (take m pools.midfielders.items) ++ names (take f pools.forwards.items))) ≡ ids (first_of (pool_of pools) d m f)
all_names pools d m f =
    let k = take 1 (pool_of pools Keeper) in
    let b = take d (pool_of pools Defender) in
    let c = take m (pool_of pools Midfielder) in
    let e = take f (pool_of pools Forward) in
    sym (map-append (λ (row : Row). row.0) k (b ++ (c ++ e))
    ∙ ap (λ l. ids k ++ l) (map-append (λ (row : Row). row.0) b (c ++ e) ∙ ap (λ l. ids b ++ l) (map-append (λ (row : Row). row.0) c e))
    ∙ ap (λ l. l ++ (ids b ++ (ids c ++ ids e))) (first_names Keeper 1 pools.keepers.items)
    ∙ ap (λ l. names (take 1 pools.keepers.items) ++ (l ++ (ids c ++ ids e))) (first_names Defender d pools.defenders.items)
    ∙ ap (λ l. names (take 1 pools.keepers.items) ++ (names (take d pools.defenders.items) ++ (l ++ ids e))) (first_names Midfielder m pools.midfielders.items)
    ∙ ap (λ l. names (take 1 pools.keepers.items) ++ (names (take d pools.defenders.items) ++ (names (take m pools.midfielders.items) ++ l))) (first_names Forward f pools.forwards.items))

long : (n : ℕ) (cs : List Candidate) → n ≤ length cs → length (names (take n cs)) ≡ n
long n cs enough = length-map (take n cs) (λ (candidate : Candidate). candidate.player) ∙ length-take-le n cs enough

enough_of : (position : Position) (n : ℕ) (cs : List Candidate) → nat_le n (length (map (row_of position) cs)) ≡ true → n ≤ length cs
enough_of position n cs e =
    let le = leb-true n (length (map (row_of position) cs)) e in
    omega (arith, le, length-map cs (row_of position))

-- eleven places that the first of each position fill
pub lined_up : (pools : Pools) (d m f : ℕ) → is_formation d m f ≡ true → has_enough (pool_of pools) d m f ≡ true → (blank one two three four : List ℕ) → length blank ≡ 11
    → one ≡ placed_at blank 0 (names (take 1 pools.keepers.items)) → two ≡ placed_at one 1 (names (take d pools.defenders.items))
    → three ≡ placed_at two (1 + d) (names (take m pools.midfielders.items)) → four ≡ placed_at three ((1 + d) + m) (names (take f pools.forwards.items))
    → four ≡ ids (first_of (pool_of pools) d m f)
lined_up pools d m f formation enough blank one two three four all first second third fourth =
    let four_of = four_tests (nat_le 1 (length (pool_of pools Keeper))) (nat_le d (length (pool_of pools Defender))) (nat_le m (length (pool_of pools Midfielder))) (nat_le f (length (pool_of pools Forward))) enough in
    let k = long 1 pools.keepers.items (enough_of Keeper 1 pools.keepers.items four_of.0) in
    let b = long d pools.defenders.items (enough_of Defender d pools.defenders.items four_of.1) in
    let c = long m pools.midfielders.items (enough_of Midfielder m pools.midfielders.items four_of.2) in
    let e = long f pools.forwards.items (enough_of Forward f pools.forwards.items four_of.3) in
    let ten = (in_range d m f formation).ten in
    four_placed blank one two three four (names (take 1 pools.keepers.items)) (names (take d pools.defenders.items)) (names (take m pools.midfielders.items)) (names (take f pools.forwards.items))
    (1 + d) ((1 + d) + m) (omega (arith, all, k, b, c, e, ten)) k (omega (arith, b)) (omega (arith, b, c)) first second third fourth
    ∙ all_names pools d m f
