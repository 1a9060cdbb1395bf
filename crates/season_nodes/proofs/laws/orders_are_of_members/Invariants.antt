use Rattle.season_nodes.proofs.OrderFacts.{AreOrdersUpTo}
use Rattle.season_nodes.proofs.laws.orders_are_of_members.Given as goal

abbrev pub invariant-loop-place : goal.invariant-loop-place
invariant-loop-place l = AreOrdersUpTo l.leagues l.place
