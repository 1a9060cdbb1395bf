use Rattle.std.proofs.Common.{◌∙◌, ap}
use Rattle.rule_book.specs.Calendar.{standing}
use Rattle.season_calendar.proofs.Lawful.{list_at}
use Rattle.season_calendar.proofs.season.Calendar.standing.Goals as goal

pub returns-clause-value : goal.returns-clause-value
returns-clause-value c =
    c.get.ensures.value ∙ (list_at _ _ c.args.g c.self.invariant c.get.ensures.from_1 ∙ ap (λ v. standing v c.args.g) c.self.view_is)
