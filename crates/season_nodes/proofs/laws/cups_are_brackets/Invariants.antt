use Rattle.season_nodes.proofs.BracketFacts.{AreBracketsUpTo}
use Rattle.season_nodes.proofs.laws.cups_are_brackets.Given as goal

abbrev pub invariant-loop-place : goal.invariant-loop-place
invariant-loop-place l = AreBracketsUpTo l.cups l.place
