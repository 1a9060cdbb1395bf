use Rattle.std.proofs.Common.{◌≡◌, ◌∙◌, sym, ap, subst, ◌≤◌, ◌^◌, length, IfSome}
use Rattle.leagues_and_cups.proofs.RoundFacts.{rounds_are}
use Rattle.leagues_and_cups.proofs.shape.rounds.Goals as goal

pub returns-clause-value : goal.returns-clause-value
returns-clause-value c =
    let found = subst (λ o. IfSome o (λ r. (1 ≤ r) × (r ≤ 10) × (length c.as_slice.result.now ≡ 2 ^ r))) c.unwrap.ensures c.rounds_of.ensures.some in
    sym (rounds_are c.args.b.now c.unwrap.result found.0 found.1 (ap length (sym c.as_slice.ensures) ∙ found.2))
