use Rattle.std.proofs.Common.{arith}
use Rattle.season_rules.proofs.Lists.{mapped_more}
use Rattle.league_windows.specs.Standings.{standing_before}
use Rattle.league_windows.proofs.Added.{long_more}
use Rattle.league_windows.proofs.classic.standings_before.Goals as goal

pub loop-row-preserved : goal.loop-row-preserved
loop-row-preserved g c =
    let facts = c.args.seen.now.facts in
    let rows = c.args.rows.now in
    let i = c.loop-row.row-index in
    let row = c.row-item.result in
    record {
      value = λ entries are.
          mapped_more (standing_before facts entries) rows i row c.standing_before.result c.loop-row.standings.items c.push.new.self.items
          c.loop-row-test.true c.row-item.is (c.standing_before.ensures.value entries are) (c.loop-row.invariant.value entries are) c.in_ok-push.ensures.items;
      long = long_more rows i row c.standing_before.result c.loop-row.standings.items c.push.new.self.items c.loop-row-test.true c.row-item.is c.in_ok-push.ensures.items c.loop-row.invariant.long;
      cost = let before = c.loop-row.invariant.cost in let two = c.standing_before.ensures.cost in omega (arith, before, two);
    }
