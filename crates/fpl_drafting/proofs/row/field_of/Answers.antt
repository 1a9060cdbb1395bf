use Rattle.csv.specs.Records.{fields_of}
use Rattle.std.proofs.Common.{sym}
use Rattle.fpl_reports.proofs.FieldFacts.{field_there}
use Rattle.fpl_drafting.proofs.row.field_of.Goals as goal

pub unreachable-requires : goal.unreachable-requires
unreachable-requires c = field_there (fields_of c.args.read.now) c.args.place c.requires (sym c.in-None.ensures.value)
