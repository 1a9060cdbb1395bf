-- The gameweeks of a player or of an entry, one after another, and what each of so many numbers stands for.
use Rattle.std.proofs.Common.{◌≡◌, ℕ, zero, suc, ◌+◌, ◌<◌, ◌≤◌, Bool, inl, ⊎_elim, List, [], ◌∷◌, ◌++◌, sym, ap, subst, arith, add-one}
use Rattle.std.proofs.lemmas.Bool.Decides.{leb_tells}
use Rattle.rescore_graph.specs.Graph.{Among}
use Rattle.rescore_graph.specs.States.{State}
use Rattle.season_nodes.specs.declared.nodes.Node.{Node}
use Rattle.season_nodes.specs.declared.nodes.Value.{Value}
use Rattle.season_nodes.specs.Reading.{among_either, among_left, among_right}
use Rattle.season_graph.specs.Refreshed.{Refreshed}
use Rattle.season_graph.specs.Touched.{numbered_nodes, gameweek_nodes}
use Rattle.season_graph.proofs.RefreshedFacts.{refreshed_append}

-- a gameweek behind the first ones is listed
pub gameweek_among : (at : ℕ → Node) (first g n : ℕ) → first < g → g ≤ first + n → Among (gameweek_nodes at first n) (at g)
gameweek_among at first g zero low high = absurd (omega arith)
gameweek_among at first g (suc n) low high = ⊎_elim
    (λ a. among_left (gameweek_nodes at first n) (at (first + n + 1) ∷ []) (at g) (gameweek_among at first g n low a.1))
    (λ a. let x : first + n < g = a.1 in let i : first + n + 1 ≡ g = omega arith in among_right (gameweek_nodes at first n) (at (first + n + 1) ∷ []) (at g) (inl (ap at i)))
    (leb_tells g (first + n))

-- and a listed one is a gameweek behind them
pub from_gameweeks : (at : ℕ → Node) (first n : ℕ) (m : Node) → Among (gameweek_nodes at first n) m → (g : ℕ) × ((first < g) × (at g ≡ m))
from_gameweeks at first zero m a = absurd a
from_gameweeks at first (suc n) m a = ⊎_elim
    (λ x. from_gameweeks at first n m x)
    (λ x. ⊎_elim (λ i. (first + n + 1, (omega arith, i))) (λ y. absurd y) x)
    (among_either (gameweek_nodes at first n) (at (first + n + 1) ∷ []) m a)

-- what each number stands for is listed, and what is listed is one's
pub numbered_among : (each : ℕ → List Node) (n e : ℕ) (m : Node) → 1 ≤ e → e ≤ n → Among (each e) m → Among (numbered_nodes each n) m
numbered_among each zero e m low high a = absurd (omega arith)
numbered_among each (suc n) e m low high a = ⊎_elim
    (λ x. among_left (numbered_nodes each n) (each (n + 1)) m (numbered_among each n e m low x.1 a))
    (λ x. let y : n < e = x.1 in let i : e ≡ n + 1 = omega arith in among_right (numbered_nodes each n) (each (n + 1)) m (subst (λ k. Among (each k) m) i a))
    (leb_tells e n)

pub from_numbered : (each : ℕ → List Node) (n : ℕ) (m : Node) → Among (numbered_nodes each n) m → (e : ℕ) × Among (each e) m
from_numbered each zero m a = absurd a
from_numbered each (suc n) m a = ⊎_elim (λ x. from_numbered each n m x) (λ x. (n + 1, x)) (among_either (numbered_nodes each n) (each (n + 1)) m a)

-- one more number
pub refreshed_numbered : (live : Node → Bool) (each : ℕ → List Node) (n : ℕ) (s t u : State Node Value) → Refreshed live (Among (numbered_nodes each n)) s t
    → Refreshed live (Among (each (n + 1))) t u → Refreshed live (Among (numbered_nodes each (n + 1))) s u
refreshed_numbered live each n s t u x y = subst (λ k. Refreshed live (Among (numbered_nodes each k)) s u) (sym (add-one n))
    (refreshed_append live (numbered_nodes each n) (each (n + 1)) s t u x y)
