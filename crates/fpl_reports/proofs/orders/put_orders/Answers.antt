use Rattle.std.proofs.Common.{◌≡◌, ◌∷◌, [], ◌++◌, length, sym, ap, ◌∙◌, append_assoc, append-nil, arith, map}
use Rattle.std.specs.Vec.Iter.{into_iter_items}
use Rattle.fpl_reports.proofs.RowLists.{nothing_left, put_more}
use Rattle.fpl_reports.proofs.orders.put_orders.Goals as goal

pub loop-row-preserved : goal.loop-row-preserved
loop-row-preserved g c =
    let at = c.loop-row in
    let x = c.in-Some.row in
    let steps : into_iter_items at.row-iterator ≡ x ∷ into_iter_items c.next.new.self = c.in-Some.ensures.steps.0 in
    let short = ap length steps in
    let gone = c.in-Some.ensures.steps.1 in
    record {
      in_turn = append_assoc at.yielded (x ∷ []) _ ∙ rw (← steps) at.invariant.in_turn;
      size = let was = at.invariant.size in omega arith;
      put = put_more g.R.Ordered.ordered c.args.commands.now.items at.commands.items _ at.yielded x c.ordered.result at.invariant.put c.in_ok-push.ensures.items c.ordered.ensures;
    }

pub returns : goal.returns
returns g c =
    let at = c.loop-row in
    let none = c.in-None.ensures.steps in
    let empty : into_iter_items at.row-iterator ≡ [] = nothing_left _ (sym at.invariant.size ∙ none.0) in
    let all = sym (append-nil at.yielded) ∙ rw empty at at.invariant.in_turn ∙ c.into_iter-row-iterator.ensures.into_iter_gives.0 in
    at.invariant.put ∙ ap (λ xs. c.args.commands.now.items ++ map g.R.Ordered.ordered xs) all
