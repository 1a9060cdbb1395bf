use Rattle.lawful_books.proofs.RulesHold.{entries_are_issued_rightly, issues_break_none}
use Rattle.lawful_books.proofs.leagues.entries_are_issued_rightly.Goals as goal

pub returns-clause-issued : goal.returns-clause-issued
returns-clause-issued c = entries_are_issued_rightly

pub returns-clause-rules : goal.returns-clause-rules
returns-clause-rules c = issues_break_none
