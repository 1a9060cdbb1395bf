use Rattle.fpl_reports.proofs.FolderOnce.{one_season, season_or_wrong, one_wrong_row}
use Rattle.fpl_reports.proofs.laws.season_files_say_once.Goals as goal

pub returns-clause-season : goal.returns-clause-season
returns-clause-season c = one_season

pub returns-clause-apart : goal.returns-clause-apart
returns-clause-apart c = season_or_wrong

pub returns-clause-wrong : goal.returns-clause-wrong
returns-clause-wrong c = one_wrong_row
