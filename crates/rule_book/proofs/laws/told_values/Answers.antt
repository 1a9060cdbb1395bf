use Rattle.rule_book.proofs.TeamFacts.{first_is_the_start, free_is_told, team_is_told}
use Rattle.rule_book.proofs.laws.told_values.Goals as goal

pub returns-clause-team : goal.returns-clause-team
returns-clause-team c = team_is_told

pub returns-clause-first : goal.returns-clause-first
returns-clause-first c = first_is_the_start

pub returns-clause-free : goal.returns-clause-free
returns-clause-free c = free_is_told
