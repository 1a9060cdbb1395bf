use Rattle.std.proofs.Common.{◌≡◌}
use Rattle.fpl_loading.specs.Standing.{is_same_club}
use Rattle.fpl_loading.proofs.RowLemmas.{one_mapped}
use Rattle.fpl_loading.proofs.standing.clubs_same.Goals as goal

pub loop-club-preserved : goal.loop-club-preserved
loop-club-preserved c =
    one_mapped (is_same_club c.args.season.now) c.loop-club.rows c.push.new.self c.args.clubs.now c.loop-club.club-index c.club-item.result _ c.is_same_club.result c.loop-club-test.true c.club-item.is
    c.is_same_club.ensures c.in_ok-push.ensures.ok c.loop-club.invariant
