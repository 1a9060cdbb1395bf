use Rattle.std.proofs.Common.{◌∙◌, sym}
use Rattle.csv.specs.Records.{fields_of}
use Rattle.fpl_events.proofs.RowLemmas.{no_event, not_in}
use Rattle.fpl_events.proofs.row.insert_of.Goals as goal

pub returns-in_err-event-clause-row : goal.returns-in_err-event-clause-row
returns-in_err-event-clause-row c =
    rw c.from_residual-in_err-event.ensures (no_event c.args.minutes c.args.count (fields_of c.args.read.now) c.requires.begins c.in_err-event.ensures)

pub returns-else-is_in-clause-row : goal.returns-else-is_in-clause-row
returns-else-is_in-clause-row c =
    not_in c.args.minutes c.args.count (fields_of c.args.read.now) c.in_ok-event.event c.requires.begins c.in_ok-event.ensures (sym c.is_in.ensures ∙ c.if-is_in.false)
