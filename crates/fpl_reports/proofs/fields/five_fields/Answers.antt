use Rattle.std.proofs.Common.{◌≡◌, length, rules}
use Rattle.csv.specs.Records.{fields_of}
use Rattle.fpl_reports.proofs.FieldFacts.{five_are}
use Rattle.fpl_reports.proofs.fields.five_fields.Goals as goal

pub returns : goal.returns
returns c =
    let size : length (fields_of c.args.read.now) ≡ 5 = search rules in
    five_are (fields_of c.args.read.now) _ _ _ _ _ size c.field_of.ensures c.field_of-2.ensures c.field_of-3.ensures c.field_of-4.ensures c.field_of-5.ensures
