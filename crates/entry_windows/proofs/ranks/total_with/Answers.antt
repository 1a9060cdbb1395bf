use Rattle.std.proofs.Common.{◌≡◌, ◌+◌, arith, subst}
use Rattle.std.specs.Prelude.{IfSome}
use Rattle.std.proofs.lemmas.Int.{ints}
use Rattle.entry_windows.proofs.Better.{sum_is}
use Rattle.entry_windows.proofs.Compared.{through_with}
use Rattle.entry_windows.proofs.ranks.total_with.Goals as goal

pub returns-clause-value : goal.returns-clause-value
returns-clause-value g c = λ h stands so_far.
    let gw = c.unwrap.result in
    let next : gw ≡ c.args.passed + 1 = subst (λ o. IfSome o (λ n. n ≡ c.args.passed + 1)) c.unwrap.ensures c.new.ensures.value in
    sum_is _ c.args.total c.net_in.result _ (omega (arith, ints, c.requires.near.0, c.requires.near.1, c.net_in.ensures.near.0, c.net_in.ensures.near.1, c.requires.few))
    (through_with c.args.seen.now.facts h c.args.passed gw c.args.total c.net_in.result next so_far (c.net_in.ensures.value h stands))
