use Rattle.std.proofs.Common.{◌≡◌, ◌+◌, subst, arith}
use Rattle.std.specs.Prelude.{IfSome}
use Rattle.season_nodes.proofs.BracketFacts.{all_up_to, none_up_to, one_up_to}
use Rattle.season_nodes.proofs.laws.cups_are_brackets.Goals as goal

pub loop-place-init : goal.loop-place-init
loop-place-init c = none_up_to c.args.cups.now

pub loop-place-preserved : goal.loop-place-preserved
loop-place-preserved c =
    one_up_to c.args.cups.now c.loop-place.place c.unwrap.result c.loop-place.invariant
    (subst (λ o. IfSome o (λ n. n ≡ c.loop-place.place + 1)) c.unwrap.ensures c.new.ensures.value) c.shape_at.ensures

pub returns : goal.returns
returns c = all_up_to c.args.cups.now c.loop-place.place c.loop-place.invariant (omega (arith, c.loop-place-test.false, c.count-place-end.ensures.count))
