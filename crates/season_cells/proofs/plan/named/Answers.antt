use Rattle.std.proofs.Common.{sym, ◌∙◌}
use Rattle.season_cells.proofs.Found.{found_id}
use Rattle.season_cells.proofs.plan.named.Goals as goal

pub returns-in-Some-clause-same : goal.returns-in-Some-clause-same
returns-in-Some-clause-same c = found_id c.args.season.now.calendar.fixtures c.args.number _ (sym c.fixture.ensures ∙ c.in-Some.is)
