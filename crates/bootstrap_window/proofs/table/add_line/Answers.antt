use Rattle.std.proofs.Common.{◌==◌, ◌∙◌, ap, sym}
use Rattle.bootstrap_window.specs.Tables.{or_none, totals_in}
use Rattle.bootstrap_window.proofs.TableFacts.{small_all}
use Rattle.bootstrap_window.proofs.table.add_line.Goals as goal

pub returns-clause-small : goal.returns-clause-small
returns-clause-small c =
    let new = c.insert.new.self in
    let updates = c.in_ok-insert.ensures.updates in
    small_all c.args.table.now new c.args.player c.with_line-after.result (ap (totals_in new) (sym c.get.ensures.value) ∙ ap or_none updates.1) c.with_line-after.ensures.small
    (λ p apart. ap or_none (updates.2 p (ap (λ k. k == p) c.get.ensures.value ∙ apart))) c.requires.small
