-- What a change of a season evaluates: what it touches, what depends on that, and nothing else.
use Rattle.std.specs.Prelude.{◌≡◌, ◌⊎◌, ◌≤◌, ◌+◌, ℕ, true, List, IsSome}
use Rattle.std.specs.List.{sum_by}
use Rattle.rescore_graph.specs.Graph.{Among, NoneTwice, Reach}
use Rattle.rescore_graph.specs.States.{State, bump, count_of, raise}
use Rattle.season_graph.specs.Changes.{Follows, IsTouched, MarksTouched}
use Rattle.season_nodes.specs.Held.{SeasonRows, held}
use Rattle.season_nodes.specs.Season.{SeasonFacts, is_live, season_graph, weight_of}
use Rattle.season_nodes.specs.declared.nodes.Node.{Node}
use Rattle.season_nodes.specs.declared.nodes.Value.{Value}

module _ (b d : SeasonFacts) where
  -- a node that the change from b to d touches, or that depends on one which it touches
  abbrev pub IsReached : Node → Type 0
  IsReached n = Reach (season_graph d) (IsTouched b d) n

  -- live before the change and behind it
  abbrev pub StaysLive : Node → Type 0
  StaysLive n = (is_live b n ≡ true) × (is_live d n ≡ true)

  -- cells s follow the change as t, in which nothing was evaluated yet: what is touched is dirty, and nothing else
  pub record AreRaised (s t : State Node Value) : Type 0 where
    pub follows : Follows b d s t
    pub touched : MarksTouched b d s t
    pub raised : (n : Node) → is_live d n ≡ true → IsSome (s n) → (t n ≡ s n) ⊎ (t n ≡ raise (s n))

  -- what is touched was evaluated once more, what depends on it at most once more, and no other cell changed
  pub record IsCorrected (old new : SeasonRows) : Type 0 where
    pub others : (n : Node) → StaysLive n → (¬ IsReached n) → held new n ≡ held old n
    pub touched : (n : Node) → is_live b n ≡ true → IsTouched b d n → count_of (held new n) ≡ bump (count_of (held old n))
    pub once : (n : Node) → StaysLive n
        → (count_of (held new n) ≡ count_of (held old n)) ⊎ (count_of (held new n) ≡ bump (count_of (held old n)))

  -- a call counted at most the reads by which the touched, and what depends on them, are evaluated
  pub record IsCheap (before after : ℕ) : Type 0 where
    pub done : List Node
    pub once : NoneTwice done
    pub reached : (n : Node) → Among done n → IsReached n
    pub cost : after ≤ before + sum_by weight_of done
