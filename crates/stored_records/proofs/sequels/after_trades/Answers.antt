use Rattle.std.proofs.Common.{◌+◌, arith, subst, sym}
use Rattle.fpl_base.specs.Keeping.{map_of}
use Rattle.stored_records.specs.EntryTold.{sale_told}
use Rattle.stored_records.specs.Sequels.{every_sale_told, sales_since}
use Rattle.stored_records.proofs.Numbers.{since_end}
use Rattle.stored_records.proofs.Trading.{IsPartWay, ends_at, goes_past, starts}
use Rattle.stored_records.proofs.sequels.after_trades.Goals as goal

pub numbers-init : goal.numbers-init
numbers-init c = (omega arith, omega arith, omega arith, omega arith, starts _ c.args.picks)

pub numbers-preserved : goal.numbers-preserved
numbers-preserved c =
    let m = map_of c.args.stored.now in
    let way = c.numbers.invariant in
    let next = c.in-Some.ensures.next in (
      omega (arith, next.0, way.0),
      omega arith,
      omega (arith, c.trade.ensures.paid_most, way.2, next.0),
      omega (arith, c.trade.ensures.earned_most, way.3, next.0),
      subst (λ n. IsPartWay (every_sale_told m c.args.entry c.args.gameweek) (sales_since (sale_told m c.args.entry c.args.gameweek) (n + 1)) c.args.picks c.trade.new.traded)
          (sym c.from-from.ensures)
          (goes_past _ _ c.numbers.from c.args.picks c.in-Some.number c.numbers.traded c.trade.new.traded (omega arith) way.4 next.1 c.trade.ensures.trades),
    )

pub returns-in-None : goal.returns-in-None
returns-in-None c =
    let way = c.numbers.invariant in record {
      traded = ends_at _ _ c.numbers.from c.args.picks c.numbers.traded way.4 (c.next_number.ensures.end c.in-None.is);
      few = record { paid = omega (arith, way.1, way.2); earned = omega (arith, way.1, way.3) };
    }

pub returns : goal.returns
returns c =
    let way = c.numbers.invariant in record {
      traded = ends_at _ _ c.numbers.from c.args.picks c.numbers.traded way.4 (since_end _ c.numbers.from (omega (arith, way.0)));
      few = record { paid = omega (arith, way.1, way.2); earned = omega (arith, way.1, way.3) };
    }
