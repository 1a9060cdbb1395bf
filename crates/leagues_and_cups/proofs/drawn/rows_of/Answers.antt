use Rattle.std.proofs.Common.{◌≤◌, rules}
use Rattle.leagues_and_cups.proofs.PlaceFacts.{in_order, stand_together}
use Rattle.leagues_and_cups.proofs.drawn.rows_of.Goals as goal

pub slice_bounds-result-count : goal.slice_bounds-result-count
slice_bounds-result-count c = in_order c.args.rows.now c.args.entry c.start_of-start.result c.end_of-end.result c.start_of-start.ensures.within c.end_of-end.ensures.within c.start_of-start.ensures.parts c.end_of-end.ensures.parts

pub slice_bounds-result-start : goal.slice_bounds-result-start
slice_bounds-result-start c =
    let order : c.start_of-start.result ≤ c.end_of-end.result = in_order c.args.rows.now c.args.entry c.start_of-start.result c.end_of-end.result c.start_of-start.ensures.within c.end_of-end.ensures.within c.start_of-start.ensures.parts c.end_of-end.ensures.parts in
    search rules

pub returns : goal.returns
returns c = stand_together c.args.rows.now c.args.entry c.start_of-start.result c.end_of-end.result c.start_of-start.ensures.within c.end_of-end.ensures.within c.start_of-start.ensures.parts c.end_of-end.ensures.parts
