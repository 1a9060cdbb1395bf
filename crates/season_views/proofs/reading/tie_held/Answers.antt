use Rattle.std.proofs.Common.{◌∙◌, ap}
use Rattle.season_nodes.specs.Held.{held}
use Rattle.season_nodes.specs.Season.{winner_held}
use Rattle.season_graph.proofs.TieHeld.{tie_holds}
use Rattle.season_views.proofs.reading.tie_held.Goals as goal

pub returns-clause-value : goal.returns-clause-value
returns-clause-value g c = λ b evaluated.
    c.winner_in.ensures ∙ ap winner_held c.get.ensures.value ∙ tie_holds b (held c.args.cells.now) c.args.cup c.args.round c.args.place evaluated
