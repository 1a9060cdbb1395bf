use Rattle.std.proofs.Common.{length, arith}
use Rattle.season_generator.proofs.DrawFacts.{drawn_by_places}
use Rattle.season_generator.proofs.draws.Draws.take_into.Goals as goal

pub returns-clause-drawn : goal.returns-clause-drawn
returns-clause-drawn c =
    drawn_by_places c.args.self.now.0 c.args.self.now.1 (length c.args.places.now) c.loop-place.places c.loop-place.invariant.size
    (λ k h. c.loop-place.invariant.filled k (omega (arith, h, c.loop-place-test.false)))
