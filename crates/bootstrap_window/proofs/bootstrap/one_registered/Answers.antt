use Rattle.std.proofs.Common.{◌∙◌, ap, cond}
use Rattle.std.specs.Prelude.{is_some}
use Rattle.bootstrap_window.proofs.Rows.{started_is}
use Rattle.bootstrap_window.proofs.bootstrap.one_registered.Goals as goal

pub returns-clause-value : goal.returns-clause-value
returns-clause-value g c = λ entries are row at.
    let own = c.entry.ensures entries are row at in
    c.one_if.ensures.value ∙ ap (λ b. cond b 1 0) (c.is_some.ensures ∙ ap is_some own.1 ∙ started_is row.history)
