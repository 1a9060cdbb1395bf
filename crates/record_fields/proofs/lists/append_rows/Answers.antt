use Rattle.record_fields.specs.Lists.{row_bytes}
use Rattle.record_fields.specs.Ranges.{IsRow}
use Rattle.record_fields.proofs.Each.{all_of_them, one_more_written}
use Rattle.record_fields.proofs.lists.append_rows.Goals as goal

pub loop-row-preserved : goal.loop-row-preserved
loop-row-preserved c =
    one_more_written IsRow row_bytes c.args.rows.now c.loop-row.row-index c.row-item.result c.args.bytes.now.items c.loop-row.bytes.items _ c.loop-row-test.true c.row-item.is c.loop-row.invariant c.in_ok-append_row.ensures.written c.in_ok-append_row.ensures.fits

pub returns-clause-fits : goal.returns-clause-fits
returns-clause-fits c = all_of_them IsRow c.args.rows.now c.loop-row.row-index c.loop-row-test.false c.loop-row.invariant.1
