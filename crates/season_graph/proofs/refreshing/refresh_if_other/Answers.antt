use Rattle.std.proofs.Common.{◌∙◌, true, false}
use Rattle.season_nodes.specs.BookFacts.{facts_of}
use Rattle.season_nodes.specs.Held.{held}
use Rattle.season_nodes.specs.Season.{is_live}
use Rattle.season_graph.proofs.ChangedFacts.{counted_some}
use Rattle.season_graph.proofs.OtherFacts.{other_chosen}
use Rattle.season_graph.proofs.RefreshedFacts.{refreshed_nothing}
use Rattle.season_graph.proofs.refreshing.refresh_if_other.Goals as goal

pub returns-in_ok-refresh_one : goal.returns-in_ok-refresh_one
returns-in_ok-refresh_one c =
    let s = held c.args.cells.now in
    let n = c.args.n.now in
    other_chosen (is_live (facts_of c.args.books.now)) n s (held c.refresh_one.new.cells) true c.is_some-has_cell.result c.is_live.result
    (c.is_some-has_cell.ensures ∙ counted_some c.evaluations.result (s n) c.evaluations.ensures) c.is_live.ensures c.if-has_cell-is_live.true c.in_ok-refresh_one.ensures

pub returns-else-has_cell-is_live : goal.returns-else-has_cell-is_live
returns-else-has_cell-is_live c =
    let live = is_live (facts_of c.args.books.now) in
    let s = held c.args.cells.now in
    let n = c.args.n.now in
    other_chosen live n s s false c.is_some-has_cell.result c.is_live.result
    (c.is_some-has_cell.ensures ∙ counted_some c.evaluations.result (s n) c.evaluations.ensures) c.is_live.ensures c.if-has_cell-is_live.false (refreshed_nothing live s)
