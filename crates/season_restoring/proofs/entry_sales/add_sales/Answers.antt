use Rattle.std.proofs.Common.{arith}
use Rattle.fpl_base.specs.Keeping.{map_of}
use Rattle.stored_records.specs.EntryTold.{sale_told}
use Rattle.season_restoring.proofs.Adding.{ends, goes_on, stops}
use Rattle.season_restoring.proofs.entry_sales.add_sales.Goals as goal

pub loop-number-preserved : goal.loop-number-preserved
loop-number-preserved c =
    goes_on c.args.gameweek (sale_told (map_of c.args.stored.now) c.args.entry c.args.gameweek) c.loop-number.number c.in_ok-add_sale.field-0
    c.args.sales.now.items c.loop-number.sales.items c.add_sale.new.sales.items (omega arith) c.in_ok-add_sale.ensures c.if-not-branch.false c.loop-number.invariant

pub returns-then-not-branch : goal.returns-then-not-branch
returns-then-not-branch c =
    stops c.args.gameweek (sale_told (map_of c.args.stored.now) c.args.entry c.args.gameweek) c.loop-number.number c.in_ok-add_sale.field-0
    c.args.sales.now.items c.loop-number.sales.items c.add_sale.new.sales.items (omega arith) c.in_ok-add_sale.ensures c.if-not-branch.true c.loop-number.invariant

pub returns : goal.returns
returns c =
    ends c.args.gameweek (sale_told (map_of c.args.stored.now) c.args.entry c.args.gameweek) c.loop-number.number c.args.sales.now.items c.loop-number.sales.items
    (omega arith) c.loop-number.invariant
