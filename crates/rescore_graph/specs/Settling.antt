-- When cells can be settled, what settling does, and what holds after it.
use Rattle.std.specs.Prelude.{◌≡◌, ◌≢◌, ◌≤◌, false, List, [], ◌∷◌, ◌⊎◌, ◌↔◌, IsSome, Some}
use Rattle.rescore_graph.specs.Graph.{Among, NoneTwice, Graph, replay, DependsOn, IsIndifferent, Reach}
use Rattle.rescore_graph.specs.States.{State, is_dirty, count_of, values_in, IsDirty, raise, bump, stored, Raised}

-- The cells are those of the live nodes. Each input of a clean cell has a value. A clean cell's value is its node's own function of the values that its inputs' cells hold now, where a dirty input still holds its old one.
pub record Sound {N V : Type 0} (g : Graph N V) (s : State N V) : Type 0 where
  pub cells : (n : N) → IsSome (s n) ↔ g.live n
  pub inputs : (n m : N) → g.live n → is_dirty (s n) ≡ false → Among (g.inputs n) m → IsSome (values_in s m)
  pub value : (n : N) → g.live n → is_dirty (s n) ≡ false → values_in s n ≡ Some (g.own n (values_in s))

-- `Sound`, but for the nodes of X
pub record SoundBut {N V : Type 0} (g : Graph N V) (X : N → Type 0) (s : State N V) : Type 0 where
  pub cells : (n : N) → (¬ X n) → IsSome (s n) ↔ g.live n
  pub inputs : (n m : N) → (¬ X n) → g.live n → is_dirty (s n) ≡ false → Among (g.inputs n) m → IsSome (values_in s m)
  pub value : (n : N) → (¬ X n) → g.live n → is_dirty (s n) ≡ false → values_in s n ≡ Some (g.own n (values_in s))

-- an input was evaluated, and got a value that is not its old one, or had none
abbrev pub HasNewInput : {N V : Type 0} → Graph N V → State N V → State N V → List N → N → Type 0
HasNewInput {N} g s t done n = (m : N) × (Among (g.inputs n) m × Among done m × (values_in s m ≢ values_in t m))

-- no node stands before one of a lower level
abbrev pub AreByLevel : {N V : Type 0} → Graph N V → List N → Type 0
AreByLevel g [] = Unit {0}
AreByLevel {N} g (n ∷ ns) = ((m : N) → Among ns m → g.level n ≤ g.level m) × AreByLevel g ns

-- Settling on its way from s to t: the nodes of done were evaluated.
pub record Progress {N V : Type 0} (g : Graph N V) (s t : State N V) (done : List N) : Type 0 where
  pub sound : Sound g t
  pub once : NoneTwice done
  pub by_level : AreByLevel g done
  pub clean : (q : N) → Among done q → is_dirty (t q) ≡ false
  pub behind : (q d : N) → Among done q → IsDirty t d → g.level q ≤ g.level d
  pub kept : (q : N) → IsDirty s q → IsDirty t q ⊎ Among done q
  pub cause : (q : N) → IsDirty t q ⊎ Among done q → IsDirty s q ⊎ HasNewInput g s t done q
  pub reached : (q : N) → IsDirty t q ⊎ Among done q → Reach g (IsDirty s) q
  pub counts : (q : N) → Among done q → count_of (t q) ≡ bump (count_of (s q))
  pub stay : (q : N) → (¬ Among done q) → (t q ≡ s q) ⊎ (t q ≡ raise (s q))

-- What settling did: t is what the cells s became, and the nodes of done were evaluated, in this order.
pub record Settles {N V : Type 0} (g : Graph N V) (s t : State N V) (done : List N) : Type 0 where
  -- nothing is dirty, the cells are those of the live nodes, and each has its replay value
  pub clean : (n : N) → is_dirty (t n) ≡ false
  pub cells : (n : N) → IsSome (t n) ↔ g.live n
  pub replayed : (n : N) → g.live n → values_in t n ≡ replay g n
  -- each node was evaluated at most once, and no node before one of a lower level
  pub once : NoneTwice done
  pub by_level : AreByLevel g done
  -- evaluated were all nodes that were dirty, and others only where they depend on these and an input became another
  pub all_dirty : (n : N) → IsDirty s n → Among done n
  pub reached : (n : N) → Among done n → Reach g (IsDirty s) n
  pub cause : (n : N) → Among done n → IsDirty s n ⊎ HasNewInput g s t done n
  -- the evaluated have their counts raised by one, and all other cells stay
  pub counts : (n : N) → Among done n → count_of (t n) ≡ bump (count_of (s n))
  pub stay : (n : N) → (¬ Among done n) → t n ≡ s n

-- What holds of the cells t that settling made of s, whether it came to its end or memory ran out.
pub record Remains {N V : Type 0} (g : Graph N V) (s t : State N V) : Type 0 where
  -- settling can be called again
  pub sound : Sound g t
  -- what is left to do is dirty, or depends on what is dirty
  pub rest : (n : N) → g.live n → (values_in t n ≡ replay g n) ⊎ Reach g (IsDirty t) n
  -- what does not depend on what was dirty is as it was
  pub outside : (n : N) → (¬ Reach g (IsDirty s) n) → t n ≡ s n
  -- no node was evaluated twice
  pub counts : (n : N) → (count_of (t n) ≡ count_of (s n)) ⊎ (count_of (t n) ≡ bump (count_of (s n)))

-- the node q has one value by what n has in t and by v
abbrev pub IsCalm : {N V : Type 0} → Graph N V → State N V → N → V → N → Type 0
IsCalm {N} {V} g t n v q = (old : V) × ((values_in t n ≡ Some old) × IsIndifferent g n old v q)

-- The node n of t was evaluated to v: u is t with those of its dependents dirty to whom the new value matters, and w is u with the value stored.
pub record Evaluates {N V : Type 0} (g : Graph N V) (n : N) (v : V) (t u w : State N V) : Type 0 where
  pub dirty : IsDirty t n
  pub least : (d : N) → IsDirty t d → g.level n ≤ g.level d
  pub value : v ≡ g.own n (values_in t)
  pub raised : Raised (DependsOn g n) t u
  pub change : (values_in t n ≡ Some v) ⊎ ((values_in t n ≢ Some v) × ((q : N) → DependsOn g n q → IsDirty u q ⊎ IsCalm g t n v q))
  pub calm : values_in t n ≡ Some v → (q : N) → u q ≡ t q
  pub here : w n ≡ stored v (u n)
  pub others : (q : N) → n ≢ q → w q ≡ u q
