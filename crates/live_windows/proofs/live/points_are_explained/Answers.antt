use Rattle.live_windows.proofs.ExplainLaw as law
use Rattle.live_windows.proofs.live.points_are_explained.Goals as goal

pub returns-clause-explained : goal.returns-clause-explained
returns-clause-explained c = law.points_are_explained

pub returns-clause-his : goal.returns-clause-his
returns-clause-his c = law.points_are_his
