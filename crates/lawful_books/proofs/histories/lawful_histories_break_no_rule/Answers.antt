use Rattle.lawful_books.proofs.Recorded.{first_teams_are_told, teams_are_in_season}
use Rattle.lawful_books.proofs.Transfers.{transfers_are_lawful}
use Rattle.lawful_books.proofs.histories.lawful_histories_break_no_rule.Goals as goal

pub returns-clause-first : goal.returns-clause-first
returns-clause-first c = first_teams_are_told

pub returns-clause-transfer : goal.returns-clause-transfer
returns-clause-transfer c = transfers_are_lawful

pub returns-clause-season : goal.returns-clause-season
returns-clause-season c = teams_are_in_season
