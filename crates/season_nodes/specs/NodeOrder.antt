-- The order of the nodes: by kind, and then by their numbers. A further kind adds a line to each function of a node, and a
-- line to `told_apart`.
use Rattle.std.proofs.Common.{◌≡◌, ℕ, ◌*◌, ◌%◌, ◌^◌, true, ◌==◌, if◌then◌else◌, ◌∙◌, ap, sym, refl, Ordering, Less, Equal, Greater, is_eq, nat_cmp}
use Rattle.std.specs.Prelude.{bit_xor}
use Rattle.std.specs.Ordering.{ordering_then, eq_by_cmp}
use Rattle.std.specs.Cmp.{IsTotalOrder, nat_cmp_total, on_total, then_total}
use Rattle.std.proofs.lemmas.Map.Lookups.{CmpEqualImpliesEq, exact_unsigned}
use Rattle.season_nodes.specs.declared.nodes.Node.{Node}
use Rattle.season_nodes.specs.declared.nodes.Node.TheVariants as node

-- the number of its kind
abbrev pub kind_of : Node → ℕ
kind_of (node.Line f p) = 0
kind_of (node.Bonus f) = 1
kind_of (node.PlayerGw p g) = 2
kind_of (node.TeamGw e g) = 3
kind_of (node.Total e s) = 4
kind_of (node.Average l g) = 5
kind_of (node.Match l g i) = 6
kind_of (node.HeadRow l e) = 7
kind_of (node.Tie c r i) = 8

-- its first number
abbrev pub first_of : Node → ℕ
first_of (node.Line f p) = f
first_of (node.Bonus f) = f
first_of (node.PlayerGw p g) = p
first_of (node.TeamGw e g) = e
first_of (node.Total e s) = e
first_of (node.Average l g) = l
first_of (node.Match l g i) = l
first_of (node.HeadRow l e) = l
first_of (node.Tie c r i) = c

-- its second number, or 0 where it has none
abbrev pub second_of : Node → ℕ
second_of (node.Line f p) = p
second_of (node.Bonus f) = 0
second_of (node.PlayerGw p g) = g
second_of (node.TeamGw e g) = g
second_of (node.Total e s) = s
second_of (node.Average l g) = g
second_of (node.Match l g i) = g
second_of (node.HeadRow l e) = e
second_of (node.Tie c r i) = r

-- its third number, or 0 where it has none
abbrev pub third_of : Node → ℕ
third_of (node.Line f p) = 0
third_of (node.Bonus f) = 0
third_of (node.PlayerGw p g) = 0
third_of (node.TeamGw e g) = 0
third_of (node.Total e s) = 0
third_of (node.Average l g) = 0
third_of (node.Match l g i) = i
third_of (node.HeadRow l e) = 0
third_of (node.Tie c r i) = i

-- the node of a kind with these numbers
abbrev node_of : ℕ → ℕ → ℕ → ℕ → Node
node_of k x y z =
    if k == 0 then node.Line x y
    else if k == 1 then node.Bonus x
    else if k == 2 then node.PlayerGw x y
    else if k == 3 then node.TeamGw x y
    else if k == 4 then node.Total x y
    else if k == 5 then node.Average x y
    else if k == 6 then node.Match x y z
    else if k == 7 then node.HeadRow x y
    else node.Tie x y z

-- by first number, by second number, by third number
abbrev pub numbers_cmp : Node → Node → Ordering
numbers_cmp n m =
    ordering_then (nat_cmp (first_of n) (first_of m)) (ordering_then (nat_cmp (second_of n) (second_of m)) (nat_cmp (third_of n) (third_of m)))

-- by kind, by numbers
abbrev pub node_cmp : Node → Node → Ordering
node_cmp n m = ordering_then (nat_cmp (kind_of n) (kind_of m)) (numbers_cmp n m)

pub node_total : IsTotalOrder node_cmp
node_total = then_total (on_total kind_of nat_cmp_total)
    (then_total (on_total first_of nat_cmp_total) (then_total (on_total second_of nat_cmp_total) (on_total third_of nat_cmp_total)))

both : (a b : Ordering) → ordering_then a b ≡ Equal → (a ≡ Equal) × (b ≡ Equal)
both Less b e = absurd (cc)
both Equal b e = (refl, e)
both Greater b e = absurd (cc)

-- a node is told by its kind and its numbers
told_apart : (n : Node) → node_of (kind_of n) (first_of n) (second_of n) (third_of n) ≡ n
told_apart (node.Line f p) = refl
told_apart (node.Bonus f) = refl
told_apart (node.PlayerGw p g) = refl
told_apart (node.TeamGw e g) = refl
told_apart (node.Total e s) = refl
told_apart (node.Average l g) = refl
told_apart (node.Match l g i) = refl
told_apart (node.HeadRow l e) = refl
told_apart (node.Tie c r i) = refl

-- the order tells all nodes apart
pub node_exact : CmpEqualImpliesEq node_cmp
node_exact n m e =
    let k = both (nat_cmp (kind_of n) (kind_of m)) (numbers_cmp n m) e in
    let x = both (nat_cmp (first_of n) (first_of m)) (ordering_then (nat_cmp (second_of n) (second_of m)) (nat_cmp (third_of n) (third_of m))) k.1 in
    let y = both (nat_cmp (second_of n) (second_of m)) (nat_cmp (third_of n) (third_of m)) x.1 in
    let kinds = exact_unsigned (kind_of n) (kind_of m) k.0 in
    let firsts = exact_unsigned (first_of n) (first_of m) x.0 in
    let seconds = exact_unsigned (second_of n) (second_of m) y.0 in
    let thirds = exact_unsigned (third_of n) (third_of m) y.1 in
    sym (told_apart n)
    ∙ (λ i. node_of (kinds i) (firsts i) (seconds i) (thirds i))
    ∙ told_apart m

equal_only : (o : Ordering) → is_eq o ≡ true → o ≡ Equal
equal_only Less e = absurd (cc)
equal_only Equal e = refl
equal_only Greater e = absurd (cc)

-- what is made of the kind and the numbers is the same of equal nodes
pub same_numbers : {A : Type 0} (f : ℕ → ℕ → ℕ → ℕ → A) (n m : Node) → eq_by_cmp node_cmp n m ≡ true → f (kind_of n) (first_of n) (second_of n) (third_of n) ≡ f (kind_of m) (first_of m) (second_of m) (third_of m)
same_numbers f n m e = ap (λ x. f (kind_of x) (first_of x) (second_of x) (third_of x)) (node_exact n m (equal_only (node_cmp n m) e))

-- a kind and numbers in 64 bits: the kind in the 4 lowest, the first number in the next 22, the second in the next 22, and
-- the third in the highest 16; a number of more bits reaches into those of the next one
abbrev pub packed : ℕ → ℕ → ℕ → ℕ → ℕ
packed k x y z = bit_xor (bit_xor (bit_xor k ((x * 2 ^ 4) % 2 ^ 64)) ((y * 2 ^ 26) % 2 ^ 64)) ((z * 2 ^ 48) % 2 ^ 64)
