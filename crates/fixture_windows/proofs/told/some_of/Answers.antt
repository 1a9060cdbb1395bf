use Rattle.std.proofs.Common.{◌∙◌, ap, sym}
use Rattle.std.proofs.lemmas.List.{take_all}
use Rattle.fixture_windows.specs.Appeared.{some_told}
use Rattle.fixture_windows.proofs.SomeFacts.{some_less, some_more}
use Rattle.fixture_windows.proofs.told.some_of.Goals as goal
use Rattle.fixture_windows.proofs.told.some_of.Goals.{then-has_some+in_ok-push, else-has_some}

pub loop-row-preserved : goal.loop-row-preserved
loop-row-preserved c =
    elim c.if-has_some.branch [
      | then-has_some+in_ok-push w ↦ rw w.told-is
          (some_more c.args.side c.args.stat c.args.rows.now c.loop-row.row-index c.row-item.result c.loop-row-test.true c.row-item.is w.told_of.result c.loop-row.told.items w.push.new.self.items (sym c.has_some.ensures ∙ w.if-has_some.true) w.told_of.ensures
          c.loop-row.invariant w.in_ok-push.ensures.items)
      | else-has_some w ↦ rw w.told-is (some_less c.args.side c.args.stat c.args.rows.now c.loop-row.row-index c.row-item.result c.loop-row-test.true c.row-item.is c.loop-row.told.items (sym c.has_some.ensures ∙ w.if-has_some.false) c.loop-row.invariant)
    ]

pub returns : goal.returns
returns c =
    c.loop-row.invariant ∙ ap (some_told c.args.side c.args.stat) (take_all c.loop-row.row-index c.args.rows.now c.loop-row-test.false)
