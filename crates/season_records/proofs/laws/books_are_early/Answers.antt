use Rattle.season_records.proofs.Early.{empty_is_early, moments_are_early, verdicts_are_early}
use Rattle.season_records.proofs.RunFacts.{runs_are_early}
use Rattle.season_records.proofs.laws.books_are_early.Goals as goal

pub returns-clause-empty : goal.returns-clause-empty
returns-clause-empty c = empty_is_early

pub returns-clause-moment : goal.returns-clause-moment
returns-clause-moment c = moments_are_early

pub returns-clause-verdict : goal.returns-clause-verdict
returns-clause-verdict c = verdicts_are_early

pub returns-clause-run : goal.returns-clause-run
returns-clause-run c = runs_are_early
