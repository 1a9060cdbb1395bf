use Rattle.leagues_and_cups.proofs.CupLists.{cups_with}
use Rattle.leagues_and_cups.proofs.cups.Cups.put.Goals as goal

pub invariant_of-self-2 : goal.invariant_of-self-2
invariant_of-self-2 c =
    rw (c.in_ok-push.ensures.items, c.in_ok-drawn.ensures) (cups_with c.self.inside.cups.items c.args.b c.self.invariant (rw c.self.view_is c.requires.room) c.requires.shape)
