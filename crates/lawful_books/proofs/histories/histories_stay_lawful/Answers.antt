use Rattle.lawful_books.proofs.Amended.{amendments_keep_histories}
use Rattle.lawful_books.proofs.Deeds.{deeds_keep_histories}
use Rattle.lawful_books.proofs.Stay.{changes_keep_histories, empty_is_lawful, moments_keep_histories}
use Rattle.lawful_books.proofs.histories.histories_stay_lawful.Goals as goal

pub returns-clause-empty : goal.returns-clause-empty
returns-clause-empty c = empty_is_lawful

pub returns-clause-change : goal.returns-clause-change
returns-clause-change c = changes_keep_histories

pub returns-clause-moment : goal.returns-clause-moment
returns-clause-moment c = moments_keep_histories

pub returns-clause-deed : goal.returns-clause-deed
returns-clause-deed c = deeds_keep_histories

pub returns-clause-amended : goal.returns-clause-amended
returns-clause-amended c = amendments_keep_histories
