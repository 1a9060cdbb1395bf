use Rattle.lawful_books.proofs.Rules.{facts_break_no_rule}
use Rattle.lawful_books.proofs.facts.facts_break_no_rule.Goals as goal

pub returns : goal.returns
returns c = facts_break_no_rule
