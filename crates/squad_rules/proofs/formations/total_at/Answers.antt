use Rattle.std.proofs.Common.{◌∙◌, List, All, ap, subst, sym}
use Rattle.rule_book.specs.FigureRange.{IsWithin}
use Rattle.squad_rules.specs.Elevens.{Row}
use Rattle.squad_rules.specs.Pools.{first_total}
use Rattle.squad_rules.proofs.Collecting.{near_first}
use Rattle.squad_rules.proofs.formations.total_at.Goals as goal

pub first_total-requires-clause-near : goal.first_total-requires-clause-near
first_total-requires-clause-near c =
    near_first c.args.position c.candidates_at.result.now
    (subst (λ (pool : List Row). All (λ (row : Row). IsWithin 1000000 row.2) pool) (sym c.candidates_at.ensures) (c.requires.near c.args.position))

pub returns-clause-value : goal.returns-clause-value
returns-clause-value c = c.first_total.ensures.value c.args.position ∙ ap (λ (pool : List Row). first_total pool c.args.count) c.candidates_at.ensures
