use Rattle.std.proofs.Common.{◌≢◌, ◌<◌, length, arith, below_more, get_or-set_other, get_or-set_same}
use Rattle.std.proofs.Math.ListN.{length-set}
use Rattle.season_generator.proofs.MadeFacts.{squad_is}
use Rattle.season_generator.proofs.squads.squad_by.Goals as goal

pub loop-place-preserved : goal.loop-place-preserved
loop-place-preserved c =
    let at = c.loop-place in
    let within : at.place < length at.players = omega (arith, at.invariant.size, c.loop-place-test.true) in
    record {
      size = rw length-set at.invariant.size;
      filled = below_more _ _
          (λ k h.
          let ne : k ≢ at.place = omega arith in
          rw get_or-set_other (at.invariant.filled k h))
          (rw get_or-set_same c.player_in.ensures);
    }

pub returns : goal.returns
returns c = squad_is c.args.entry c.args.drawn.now c.loop-place.players c.loop-place.invariant.size (λ k h. c.loop-place.invariant.filled k (omega arith))
