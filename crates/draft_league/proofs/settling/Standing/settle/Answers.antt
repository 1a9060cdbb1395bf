use Rattle.std.proofs.Common.{arith, ◌≡◌, ◌∙◌, ap, None, rules, sym}
use Rattle.std.proofs.lemmas.Grind.{common_steps}
use Rattle.draft_league.specs.Settling.{HasTurn, IsNext}
use Rattle.draft_league.specs.Waivers.{Table, after, first_with}
use Rattle.draft_league.specs.declared.kinds.Bid.{Bid}
use Rattle.draft_league.specs.declared.kinds.Outcome.{Outcome}
use Rattle.draft_league.proofs.Settlings.{are_fair, are_settled, each_on, none_left, turns_removed, underway_end, underway_more}
use Rattle.draft_league.proofs.Tables.{after_all-push, turn_after}
use Rattle.draft_league.proofs.settling.Standing.settle.Goals as goal

pub loop-place-preserved : goal.loop-place-preserved
loop-place-preserved c =
    let here = c.loop-place in
    let next : IsNext here.self.order here.left.items c.in-Some.place = rw c.as_slice.ensures.value at c.in-Some.ensures in
    let outcome : Outcome = c.in_ok-outcome.outcome in
    let then_is : c.settle_one.new.self ≡ after here.self outcome = c.in_ok-outcome.ensures.after in
    record {
      on = rw (c.in_ok-push.ensures.items, then_is, c.remove-bid.ensures.items)
          (underway_more c.args.self.now c.args.bids.items here.outcomes.items here.self here.left.items c.in-Some.place c.remove-bid.result outcome here.invariant.on next c.remove-bid.ensures.value c.in_ok-outcome.ensures.outcome);
      now = rw (c.in_ok-push.ensures.items, then_is) (ap (λ (t : Table). after t outcome) here.invariant.now ∙ sym (after_all-push c.args.self.now here.outcomes.items outcome));
      turns = rw (then_is, c.remove-bid.ensures.items)
          (each_on (λ (bid : Bid). HasTurn here.self.order bid.member) (λ (bid : Bid). HasTurn (after here.self outcome).order bid.member) (λ bid has. turn_after here.self outcome bid.member has) _
          (turns_removed (λ (bid : Bid). HasTurn here.self.order bid.member) here.left.items c.in-Some.place here.invariant.turns));
    }

pub returns-clause-settled : goal.returns-clause-settled
returns-clause-settled c =
    let here = c.loop-place in
    let none : first_with here.left.items here.self.order ≡ None = first_of (search rules, cc, grind (arith, common_steps)) in
    are_settled c.args.self.now c.args.bids.items here.outcomes.items
    (underway_end c.args.self.now c.args.bids.items here.outcomes.items here.self here.left.items here.invariant.on (none_left here.self.order here.left.items here.invariant.turns none))

pub returns-clause-fair : goal.returns-clause-fair
returns-clause-fair c =
    let here = c.loop-place in
    let none : first_with here.left.items here.self.order ≡ None = first_of (search rules, cc, grind (arith, common_steps)) in
    are_fair c.args.self.now c.args.bids.items here.outcomes.items
    (underway_end c.args.self.now c.args.bids.items here.outcomes.items here.self here.left.items here.invariant.on (none_left here.self.order here.left.items here.invariant.turns none))
