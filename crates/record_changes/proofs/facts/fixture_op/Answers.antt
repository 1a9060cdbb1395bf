use Rattle.std.proofs.Common.{◌∙◌, sym}
use Rattle.record_changes.proofs.Ops.{fixture_kept}
use Rattle.record_changes.proofs.facts.fixture_op.Goals as goal

pub returns-in-Some : goal.returns-in-Some
returns-in-Some c =
    fixture_kept c.args.season.now c.args.fixture c.in-Some.there c.is_finished.result c.put.result (sym c.fixture.ensures ∙ c.in-Some.is) c.is_finished.ensures c.put.ensures
