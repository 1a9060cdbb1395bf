use Rattle.lawful_books.proofs.RulesHold.{cups_break_none, lasts_break_none, leagues_break_none, members_break_none}
use Rattle.lawful_books.proofs.leagues.leagues_break_no_rule.Goals as goal

pub returns-clause-leagues : goal.returns-clause-leagues
returns-clause-leagues c = leagues_break_none

pub returns-clause-members : goal.returns-clause-members
returns-clause-members c = members_break_none

pub returns-clause-cups : goal.returns-clause-cups
returns-clause-cups c = cups_break_none

pub returns-clause-lasts : goal.returns-clause-lasts
returns-clause-lasts c = lasts_break_none
