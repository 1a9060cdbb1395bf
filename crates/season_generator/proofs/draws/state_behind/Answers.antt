use Rattle.std.proofs.Common.{◌≡◌, ◌+◌, ◌∙◌, arith, ap}
use Rattle.season_generator.specs.Draws.{state_after}
use Rattle.season_generator.proofs.DrawFacts.{state_further}
use Rattle.season_generator.proofs.draws.state_behind.Goals as goal

pub loop-behind-init : goal.loop-behind-init
loop-behind-init c = λ seed n is.
    let same : n ≡ n + 0 = omega arith in
    is ∙ ap (state_after seed) same

pub loop-behind-preserved : goal.loop-behind-preserved
loop-behind-preserved c = λ seed n is. state_further seed n c.loop-behind._behind c.loop-behind.last c.following-last.result (c.loop-behind.invariant seed n is) c.following-last.ensures
