use Rattle.std.proofs.Common.{◌≡◌, length, rules}
use Rattle.csv.specs.Records.{fields_of}
use Rattle.fpl_reports.proofs.FieldFacts.{two_are}
use Rattle.fpl_reports.proofs.fields.two_fields.Goals as goal

pub returns : goal.returns
returns c =
    let size : length (fields_of c.args.read.now) ≡ 2 = search rules in
    two_are (fields_of c.args.read.now) _ _ size c.field_of.ensures c.field_of-2.ensures
