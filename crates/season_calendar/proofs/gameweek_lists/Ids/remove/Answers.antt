use Rattle.std.proofs.Common.{rules, ◌∙◌, ap, not, eqb}
use Rattle.std.proofs.lemmas.Fn.{filter_same}
use Rattle.season_calendar.specs.Kept.{ids_without}
use Rattle.season_calendar.proofs.gameweek_lists.Ids.remove.Goals as goal

pub returns : goal.returns
returns c =
    filter_same _ (λ i. not (eqb i c.args.f)) _ (λ x b q called. search rules) _ _ c.retain.ensures.filtered ∙ ap (ids_without c.args.f) c.self.view_is
