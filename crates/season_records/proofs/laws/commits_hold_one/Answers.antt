use Rattle.season_records.proofs.Commits.{commits_hold_one, requests_commit}
use Rattle.season_records.proofs.laws.commits_hold_one.Goals as goal

pub returns-clause-one : goal.returns-clause-one
returns-clause-one c = commits_hold_one

pub returns-clause-request : goal.returns-clause-request
returns-clause-request c = requests_commit
