use Rattle.std.proofs.Common.{arith, ◌≤◌, length}
use Rattle.std.proofs.lemmas.List.{drop_all}
use Rattle.fpl_requests.specs.Tables.{all_added}
use Rattle.fpl_requests.proofs.TableLemmas.{added_more}
use Rattle.fpl_requests.proofs.routes.router_of.Goals as goal

pub loop-row-preserved : goal.loop-row-preserved
loop-row-preserved c =
    added_more c.args.method c.args.rows.now c.loop-row.row-index _ c.loop-row.router c.add.new.router _ (omega arith) c.in_ok-add.ensures c.loop-row.invariant

pub returns : goal.returns
unfolding all_added
returns c =
    let at_end : length c.args.rows.now ≤ c.loop-row.row-index = omega arith in
    rw (drop_all c.loop-row.row-index c.args.rows.now at_end) at c.loop-row.invariant
