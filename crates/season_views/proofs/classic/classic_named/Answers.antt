use Rattle.season_book.specs.LeagueViews.{ranked_shown}
use Rattle.season_rules.proofs.Lists.{mapped_more}
use Rattle.season_views.proofs.classic.classic_named.Goals as goal

pub loop-row-preserved : goal.loop-row-preserved
loop-row-preserved g c players entries are =
    mapped_more (ranked_shown entries) c.args.table.now c.loop-row.row-index c.row-item.result c.in_ok-ranked_shown.field-0 c.loop-row.shown c.push.new.self
    c.loop-row-test.true c.row-item.is (c.in_ok-ranked_shown.ensures players entries are) (c.loop-row.invariant players entries are) c.in_ok-push.ensures.ok
