use Rattle.std.proofs.Common.{ap}
use Rattle.season_nodes.specs.BookFacts.{facts_of}
use Rattle.season_nodes.specs.Held.{SeasonRows, held}
use Rattle.season_graph.specs.Touched.{all_nodes}
use Rattle.season_graph.proofs.WholeFacts.{live_among, whole_sound}
use Rattle.season_graph.proofs.evaluation.cells_of.Goals as goal

pub settle_season-requires-clause-sound : goal.settle_season-requires-clause-sound
settle_season-requires-clause-sound g c =
    let b = facts_of c.args.books.now in
    whole_sound b (all_nodes b) (live_among b) (held c.new-cells.result) (held c.refresh.new.cells)
    (λ n. ap (λ (rows : SeasonRows). held rows n) c.new-cells.ensures) c.in_ok-refresh.ensures
