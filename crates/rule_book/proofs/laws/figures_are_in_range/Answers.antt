use Rattle.rule_book.proofs.RangeFacts.{figures_in_range, team_figures_in_range}
use Rattle.rule_book.proofs.laws.figures_are_in_range.Goals as goal

pub returns-clause-player : goal.returns-clause-player
returns-clause-player c = figures_in_range

pub returns-clause-team : goal.returns-clause-team
returns-clause-team c = team_figures_in_range
