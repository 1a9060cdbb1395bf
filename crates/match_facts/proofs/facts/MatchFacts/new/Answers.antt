use Rattle.std.proofs.Common.{[]}
use Rattle.match_facts.proofs.TableLemmas.{sorted_table, empty_table}
use Rattle.match_facts.proofs.facts.MatchFacts.new.Goals as goal

pub invariant_of-result : goal.invariant_of-result
invariant_of-result c = rw c.new.ensures (sorted_table [] [] empty_table)
