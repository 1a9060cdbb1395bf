use Rattle.std.specs.Int.{w32}
use Rattle.record_fields.specs.Fields.{number}
use Rattle.record_fields.specs.Ranges.{IsId}
use Rattle.record_fields.proofs.Each.{all_of_them, one_more_written}
use Rattle.record_fields.proofs.lists.append_order.Goals as goal

pub loop-entry-preserved : goal.loop-entry-preserved
loop-entry-preserved c =
    one_more_written IsId (number w32) c.args.entries.now c.loop-entry.entry-index c.entry-item.result c.args.bytes.now.items c.loop-entry.bytes.items _ c.loop-entry-test.true c.entry-item.is c.loop-entry.invariant c.in_ok-append_entry.ensures.written c.in_ok-append_entry.ensures.fits

pub returns-clause-fits : goal.returns-clause-fits
returns-clause-fits c = all_of_them IsId c.args.entries.now c.loop-entry.entry-index c.loop-entry-test.false c.loop-entry.invariant.1
