use Rattle.std.proofs.Common.{◌≤◌, ◌+◌, ◌∙◌, refl, subst}
use Rattle.season_views.proofs.Numbered.{as_many}
use Rattle.season_views.specs.BootstrapReads.{bootstrap_reads}
use Rattle.bootstrap_window.proofs.bootstrap.write_bootstrap.Goals as goal

pub write_parts-requires-clause-clubs : goal.write_parts-requires-clause-clubs
write_parts-requires-clause-clubs g c = c.as_slice.ensures ∙ c.in_ok-clubs.ensures

pub returns-in_err-write_parts-clause-cost : goal.returns-in_err-write_parts-clause-cost
returns-in_err-write_parts-clause-cost g c = λ entries are.
    let seen = c.args.seen.now in
    subst (λ n. c.write_parts.new.steps ≤ c.args.steps.now + bootstrap_reads seen.facts n) (as_many seen.facts.players seen.managers.managers entries are) c.write_parts.ensures.cost

pub returns-clause-value : goal.returns-clause-value
returns-clause-value g c = λ entries are.
    let wrote = c.in_ok-write_parts.ensures.value entries are in
    (refl, wrote.tokens, wrote.before)

pub returns-clause-cost : goal.returns-clause-cost
returns-clause-cost g c = λ entries are.
    let seen = c.args.seen.now in
    subst (λ n. c.write_parts.new.steps ≤ c.args.steps.now + bootstrap_reads seen.facts n) (as_many seen.facts.players seen.managers.managers entries are) c.write_parts.ensures.cost
