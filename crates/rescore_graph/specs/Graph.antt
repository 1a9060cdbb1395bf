-- What depends on what, and the replay values.
use Rattle.std.specs.Prelude.{◌≡◌, ◌≢◌, ℕ, zero, suc, ◌<◌, List, [], ◌∷◌, ◌⊎◌, ◌↔◌, Option, None, Some}

-- x is an element of xs
abbrev pub Among : {X : Type 0} → List X → X → Type 0
Among [] x = ⊥
Among (y ∷ ys) x = (y ≡ x) ⊎ Among ys x

-- no element stands twice
abbrev pub NoneTwice : {X : Type 0} → List X → Type 0
NoneTwice [] = Unit {0}
NoneTwice (x ∷ xs) = (¬ Among xs x) × NoneTwice xs

-- The meaning of rules: the live nodes, the inputs of each, its level, its weight, and its own function of its inputs' values.
pub record Graph (N V : Type 0) : Type 1 where
  pub live : N → Type 0
  pub inputs : N → List N
  pub level : N → ℕ
  pub weight : N → ℕ
  pub own : N → (N → Option V) → V

-- Inputs of live nodes are live and of lower levels, and the own function reads no other value.
pub record IsGraph {N V : Type 0} (g : Graph N V) : Type 0 where
  pub inputs_live : (n m : N) → g.live n → Among (g.inputs n) m → g.live m
  pub inputs_lower : (n m : N) → g.live n → Among (g.inputs n) m → g.level m < g.level n
  pub local : (n : N) → g.live n → (f h : N → Option V) → ((m : N) → Among (g.inputs n) m → f m ≡ h m) → g.own n f ≡ g.own n h

-- the value of a node that a recursion of this depth gives
abbrev pub replay_within : {N V : Type 0} → Graph N V → ℕ → N → Option V
replay_within g zero n = None
replay_within g (suc k) n = Some (g.own n (replay_within g k))

-- the replay value of a node: its own function of its inputs' replay values
unfoldable pub replay : {N V : Type 0} → Graph N V → N → Option V
replay g n = replay_within g (suc (g.level n)) n

-- the live nodes of which n is an input
abbrev pub DependsOn : {N V : Type 0} → Graph N V → N → N → Type 0
DependsOn g n q = g.live q × Among (g.inputs q) n

-- the list has the live nodes of which n is an input, and no other
abbrev pub IsDependents : {N V : Type 0} → Graph N V → N → List N → Type 0
IsDependents {N} g n ds = (m : N) → Among ds m ↔ DependsOn g n m

-- the node q has one value whether its input n has this value or that one
abbrev pub IsIndifferent : {N V : Type 0} → Graph N V → N → V → V → N → Type 0
IsIndifferent {N} {V} g n old new q = (f h : N → Option V) → f n ≡ Some old → h n ≡ Some new → ((m : N) → n ≢ m → f m ≡ h m) → g.own q f ≡ g.own q h

-- the list has live nodes of which n is an input, and all to whom it matters that the value of n was one and is another
pub record AreAffected {N V : Type 0} (g : Graph N V) (n : N) (old new : V) (ds : List N) : Type 0 where
  pub depend : (m : N) → Among ds m → DependsOn g n m
  pub rest : (m : N) → DependsOn g n m → Among ds m ⊎ IsIndifferent g n old new m

-- a chain of k inputs leads from S to the node
abbrev pub ReachBy : {N V : Type 0} → Graph N V → (N → Type 0) → ℕ → N → Type 0
ReachBy g S zero n = S n
ReachBy {N} g S (suc k) n = (m : N) × (Among (g.inputs n) m × ReachBy g S k m)

-- the live nodes to which a chain of inputs leads from S, S included
abbrev pub Reach : {N V : Type 0} → Graph N V → (N → Type 0) → N → Type 0
Reach g S n = g.live n × ((k : ℕ) × ReachBy g S k n)
