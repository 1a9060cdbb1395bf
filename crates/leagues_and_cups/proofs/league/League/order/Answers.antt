use Rattle.leagues_and_cups.proofs.Members.{few_in_order, order_differs, two_in_order}
use Rattle.leagues_and_cups.proofs.league.League.order.Goals as goal

pub returns-clause-differ : goal.returns-clause-differ
returns-clause-differ c = rw c.as_slice.ensures (order_differs _ c.self.invariant)

pub returns-clause-few : goal.returns-clause-few
returns-clause-few c = rw c.as_slice.ensures (few_in_order _ c.self.invariant)

pub returns-clause-two : goal.returns-clause-two
returns-clause-two c = rw c.as_slice.ensures (two_in_order _ c.self.invariant)
