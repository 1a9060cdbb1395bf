-- When the cells of a season are those of its facts.
use Rattle.std.specs.Prelude.{◌≡◌, ◌↔◌, true, false, IsSome}
use Rattle.rescore_graph.specs.Graph.{replay}
use Rattle.rescore_graph.specs.States.{State, is_dirty, values_in}
use Rattle.rescore_graph.specs.Settling.{Sound}
use Rattle.season_nodes.specs.declared.nodes.Node.{Node}
use Rattle.season_nodes.specs.declared.nodes.Value.{Value}
use Rattle.season_nodes.specs.Season.{SeasonFacts, is_live, season_graph}
use Rattle.season_graph.specs.Told.{IsTold}

-- the cells are those of the live nodes, nothing is dirty, and each has its replay value, which is what the rule book
-- tells; so a change may follow
pub record IsEvaluated (b : SeasonFacts) (s : State Node Value) : Type 0 where
  pub cells : (n : Node) → IsSome (s n) ↔ (is_live b n ≡ true)
  pub clean : (n : Node) → is_dirty (s n) ≡ false
  pub replayed : (n : Node) → is_live b n ≡ true → values_in s n ≡ replay (season_graph b) n
  pub told : IsTold b (values_in s)
  pub sound : Sound (season_graph b) s
