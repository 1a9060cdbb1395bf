use Rattle.season_records.proofs.BookOrder.{empty_is_in_order, moments_keep_order, verdicts_keep_order}
use Rattle.season_records.proofs.RunFacts.{runs_keep_order}
use Rattle.season_records.proofs.laws.books_are_in_order.Goals as goal

pub returns-clause-empty : goal.returns-clause-empty
returns-clause-empty c = empty_is_in_order

pub returns-clause-moment : goal.returns-clause-moment
returns-clause-moment c = moments_keep_order

pub returns-clause-verdict : goal.returns-clause-verdict
returns-clause-verdict c = verdicts_keep_order

pub returns-clause-run : goal.returns-clause-run
returns-clause-run c = runs_keep_order
