use Rattle.record_fields.specs.Fields.{whole}
use Rattle.record_fields.specs.Ranges.{IsPlayer}
use Rattle.record_fields.proofs.Each.{all_of_them, one_more_written}
use Rattle.record_fields.proofs.lists.append_whole_players.Goals as goal

pub loop-player-preserved : goal.loop-player-preserved
loop-player-preserved c =
    one_more_written IsPlayer whole c.args.players.now c.loop-player.player-index c.player-item.result c.args.bytes.now.items c.loop-player.bytes.items _ c.loop-player-test.true c.player-item.is c.loop-player.invariant c.in_ok-append_whole_player.ensures.written c.in_ok-append_whole_player.ensures.fits

pub returns-clause-fits : goal.returns-clause-fits
returns-clause-fits c = all_of_them IsPlayer c.args.players.now c.loop-player.player-index c.loop-player-test.false c.loop-player.invariant.1
