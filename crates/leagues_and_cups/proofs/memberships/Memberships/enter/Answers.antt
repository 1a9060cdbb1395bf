use Rattle.std.proofs.Common.{◌≢◌, [], All, sym, subst}
use Rattle.leagues_and_cups.proofs.Entered.{entered_more, not_yet}
use Rattle.leagues_and_cups.proofs.memberships.Memberships.enter.Goals as goal

pub add-requires : goal.add-requires
add-requires c =
    let x = c.e-item.result in
    let before = not_yet c.args.members.now c.loop-e.e-index x c.args.l c.requires.differ c.loop-e-test.true c.e-item.is c.args.self.now c.loop-e.self [] c.loop-e.invariant in
    record { new = subst (All (λ n. n ≢ c.args.l)) (sym before) (c.requires.new x) }

pub loop-e-preserved : goal.loop-e-preserved
loop-e-preserved c =
    entered_more c.args.members.now c.loop-e.e-index c.e-item.result c.args.l c.requires.differ c.loop-e-test.true c.e-item.is c.args.self.now c.loop-e.self c.add.new.self c.loop-e.invariant
    c.in_ok-add.ensures.ok c.in_ok-add.ensures.others
