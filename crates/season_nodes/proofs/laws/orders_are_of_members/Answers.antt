use Rattle.std.proofs.Common.{◌≡◌, ◌+◌, subst, arith}
use Rattle.std.specs.Prelude.{IfSome}
use Rattle.season_nodes.proofs.OrderFacts.{all_up_to, none_up_to, one_up_to}
use Rattle.season_nodes.proofs.laws.orders_are_of_members.Goals as goal

pub loop-place-init : goal.loop-place-init
loop-place-init c = none_up_to c.args.leagues.now

pub loop-place-preserved : goal.loop-place-preserved
loop-place-preserved c =
    one_up_to c.args.leagues.now c.loop-place.place c.unwrap.result c.loop-place.invariant
    (subst (λ o. IfSome o (λ l. l ≡ c.loop-place.place + 1)) c.unwrap.ensures c.new.ensures.value) c.order_at.ensures

pub returns : goal.returns
returns c = all_up_to c.args.leagues.now c.loop-place.place c.loop-place.invariant (omega (arith, c.loop-place-test.false, c.count-place-end.ensures.value))
