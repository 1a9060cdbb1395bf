use Rattle.lawful_books.proofs.Keeping.{amendments_are_lawful, granted_are_lawful}
use Rattle.lawful_books.proofs.SeasonKept.{moments_are_lawful, new_seasons_are_lawful}
use Rattle.lawful_books.proofs.facts.facts_stay_lawful.Goals as goal

pub returns-clause-begin : goal.returns-clause-begin
returns-clause-begin c = new_seasons_are_lawful

pub returns-clause-command : goal.returns-clause-command
returns-clause-command c = granted_are_lawful

pub returns-clause-moment : goal.returns-clause-moment
returns-clause-moment c = moments_are_lawful

pub returns-clause-amended : goal.returns-clause-amended
returns-clause-amended c = amendments_are_lawful
