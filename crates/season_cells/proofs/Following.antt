-- Cells that follow a change, from what marks it and from what settles it.
use Rattle.std.proofs.Common.{◌≡◌, ◌≤◌, ◌+◌, ℕ, List, sym, subst}
use Rattle.std.specs.List.{sum_by}
use Rattle.rescore_graph.specs.Settling.{Remains, Settles, Sound}
use Rattle.rescore_graph.specs.States.{State}
use Rattle.season_graph.specs.BookChanges.{IndexStays}
use Rattle.season_graph.specs.Followed.{AreEvaluated}
use Rattle.season_nodes.specs.Held.{SeasonRows, held}
use Rattle.season_nodes.specs.IndexFacts.{IndexRows, IsIndex, holders_in}
use Rattle.season_nodes.specs.Season.{IsSeason, SeasonFacts, season_graph, weight_of}
use Rattle.season_nodes.specs.declared.nodes.Node.{Node}
use Rattle.season_nodes.specs.declared.nodes.Value.{Value}
use Rattle.season_cells.specs.Correcting.{AreRaised, IsCheap, IsCorrected}
use Rattle.season_cells.specs.Kept.{AreCellsOf}
use Rattle.season_cells.specs.Leading.{DifferAs, LeadsTo}
use Rattle.season_cells.specs.declared.plan.Plan.{Plan}
use Rattle.season_cells.proofs.Corrected.{is_cheap, is_corrected}
use Rattle.season_cells.proofs.Marked.{still}

-- cells of b, a plan that leads from b to d, and books that have the facts x, which are those of d
module _ (stays : IndexStays) (b d x : SeasonFacts) (same : x ≡ d) (old : SeasonRows) (index : IndexRows) (kept : AreCellsOf b (record { cells = old; index = index })) (made : Plan) (leads : LeadsTo b d made) where
  pub right : IsIndex x (holders_in index)
  right =
      let stay = still b d made leads.differ in
      subst (λ (f : SeasonFacts). IsIndex f (holders_in index)) (sym same) (stays b d (holders_in index) stay.0 stay.1 kept.index)

  module _ (mid : State Node Value)
      (marks : (before : SeasonFacts) → IsSeason before → IsSeason x → IsIndex x (holders_in index) → DifferAs before x made → AreRaised before x (held old) mid) where
    marked : AreRaised b x (held old) mid
    marked = marks b kept.season (subst IsSeason (sym same) leads.season) right (subst (λ (f : SeasonFacts). DifferAs b f made) (sym same) leads.differ)

    pub sound : Sound (season_graph x) mid
    sound = marked.follows kept.evaluated.sound

    module _ (new : SeasonRows) (done : List Node) (settles : Settles (season_graph x) mid (held new) done) where
      pub cells : AreEvaluated x new → AreCellsOf d (record { cells = new; index = index })
      cells evaluated = record {
        season = leads.season;
        index = subst (λ (f : SeasonFacts). IsIndex f (holders_in index)) same right;
        evaluated = subst (λ (f : SeasonFacts). AreEvaluated f new) same evaluated;
      }

      pub corrected : Remains (season_graph x) mid (held new) → IsCorrected b d old new
      corrected remains = subst (λ (f : SeasonFacts). IsCorrected b f old new) same (is_corrected b x old new mid done kept.evaluated marked settles remains)

      pub cheap : (before after : ℕ) → after ≤ before + sum_by weight_of done → IsCheap b d before after
      cheap before after cost = subst (λ (f : SeasonFacts). IsCheap b f before after) same (is_cheap b x old new mid done kept.evaluated marked settles before after cost)
