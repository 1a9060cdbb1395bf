use Rattle.std.proofs.Common.{refl}
use Rattle.fpl_loading.proofs.RowLemmas.{all_held, nothing_found, one_held}
use Rattle.fpl_loading.proofs.adding.held.Goals as goal

pub loop-same-init : goal.loop-same-init
loop-same-init c = nothing_found c.new.result c.args.place c.args.rows.now c.new.ensures

pub loop-same-preserved : goal.loop-same-preserved
loop-same-preserved c =
    one_held c.loop-same.added c.hold_row.new.added c.loop-same.at c.in_ok-at.at _ c.args.rows.now c.loop-same.same-index _ c.args.place c.loop-same-test.true refl
    c.in_ok-hold_row.ensures c.in_ok-at.ensures c.loop-same.invariant

pub returns : goal.returns
returns c = all_held c.loop-same.added c.loop-same.at c.args.rows.now c.loop-same.same-index c.args.place c.loop-same-test.false c.loop-same.invariant
