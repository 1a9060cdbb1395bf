use Rattle.season_records.specs.Read.{HasBytes}
use Rattle.record_fields.proofs.Each.{all_of_them, one_more}
use Rattle.season_records.proofs.records.have_bytes.Goals as goal

pub records-preserved : goal.records-preserved
records-preserved c =
    one_more HasBytes c.args.records.now c.records.row-index c.row-item.result c.records-test.true c.row-item.is c.records.invariant c.has_bytes.ensures

pub returns : goal.returns
returns c = all_of_them HasBytes c.args.records.now c.records.row-index c.records-test.false c.records.invariant
