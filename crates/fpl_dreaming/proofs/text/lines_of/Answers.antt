use Rattle.std.proofs.Common.{◌∙◌}
use Rattle.fpl_dreaming.proofs.LineLists.{lines_more}
use Rattle.fpl_dreaming.proofs.text.lines_of.Goals as goal

pub loop-player-preserved : goal.loop-player-preserved
loop-player-preserved c =
    lines_more c.args.rows.now c.args.players.now c.loop-player.player-index c.player-item.result _ _ _ c.loop-player-test.true c.player-item.is
    c.in_ok-push_str.ensures.bytes (c.as_str.ensures.value ∙ c.in_ok-line.ensures) c.loop-player.invariant
