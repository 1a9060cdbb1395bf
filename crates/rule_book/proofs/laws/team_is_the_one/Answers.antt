use Rattle.rule_book.proofs.TeamFacts.{team_is_the_one}
use Rattle.rule_book.proofs.laws.team_is_the_one.Goals as goal

pub returns : goal.returns
returns c = team_is_the_one
