use Rattle.std.proofs.Common.{◌≤◌, ◌+◌, subst}
use Rattle.season_book.specs.Book.{Facts}
use Rattle.season_cells.specs.Plans.{lines_named}
use Rattle.season_host.proofs.accepting.change_as.Goals as goal

pub returns-in_err-plan-clause-counted : goal.returns-in_err-plan-clause-counted
returns-in_err-plan-clause-counted g c = subst (λ (f : Facts). c.planned.new.steps ≤ c.args.steps.now + lines_named f c.args.command.now) c.season.ensures c.planned.ensures.counted

pub returns-in_err-made-clause-counted : goal.returns-in_err-made-clause-counted
returns-in_err-made-clause-counted g c = subst (λ (f : Facts). c.planned.new.steps ≤ c.args.steps.now + lines_named f c.args.command.now) c.season.ensures c.planned.ensures.counted

pub returns-clause-counted : goal.returns-clause-counted
returns-clause-counted g c = subst (λ (f : Facts). c.planned.new.steps ≤ c.args.steps.now + lines_named f c.args.command.now) c.season.ensures c.planned.ensures.counted
