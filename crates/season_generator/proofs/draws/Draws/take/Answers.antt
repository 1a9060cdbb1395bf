use Rattle.std.proofs.Common.{◌/◌, ◌∙◌, ℕ, ap}
use Rattle.season_generator.specs.Draws.{draw}
use Rattle.season_generator.proofs.DrawFacts.{state_more}
use Rattle.season_generator.proofs.draws.Draws.take.Goals as goal

pub returns-clause-value : goal.returns-clause-value
returns-clause-value c =
    let state = c.state_behind-state.ensures c.self.inside.seed c.self.inside.taken c.self.invariant ∙ state_more c.self.inside.seed c.self.inside.taken in
    ap (λ (x : ℕ). x / 8589934592) state ∙ ap (λ (s : ℕ × ℕ). draw s.0 s.1) c.self.view_is
