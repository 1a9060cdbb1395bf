use Rattle.std.proofs.Common.{◌≡◌, ◌+◌, ◌-◌, ◌∙◌, arith, ap, sym}
use Rattle.season_generator.specs.Draws.{state_after}
use Rattle.season_generator.proofs.DrawFacts.{state_none}
use Rattle.season_generator.proofs.draws.state_at.Goals as goal

pub returns-then-before-taken : goal.returns-then-before-taken
returns-then-before-taken c =
    let same : 0 + c.args.taken ≡ c.args.taken = omega arith in
    c.state_behind.ensures c.args.seed 0 (sym (state_none c.args.seed)) ∙ ap (state_after c.args.seed) same

pub returns-else-before-taken : goal.returns-else-before-taken
returns-else-before-taken c =
    let same : c.args.before + (c.args.taken - c.args.before) ≡ c.args.taken = omega arith in
    c.state_behind-else-before-taken.ensures c.args.seed c.args.before c.requires ∙ ap (state_after c.args.seed) same
