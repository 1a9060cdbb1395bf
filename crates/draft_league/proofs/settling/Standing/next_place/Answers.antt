use Rattle.draft_league.proofs.Settlings.{next_of}
use Rattle.draft_league.proofs.settling.Standing.next_place.Goals as goal

pub returns-in-Some : goal.returns-in-Some
returns-in-Some c =
    rw (← c.self.view_is) (next_of c.self.inside.order.items c.args.left.now c.in-Some.member c.place_of.result (rw c.as_slice.ensures.value at c.in-Some.ensures) c.place_of.ensures)
