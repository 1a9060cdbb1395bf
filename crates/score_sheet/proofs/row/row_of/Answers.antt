use Rattle.csv.specs.Records.{fields_of}
use Rattle.score_sheet.proofs.Fields.{refused_line}
use Rattle.score_sheet.proofs.row.row_of.Goals as goal

pub returns-in-Err-clause-row : goal.returns-in-Err-clause-row
returns-in-Err-clause-row c = λ row spelled fine.
    refused_line (fields_of c.args.record_read.now) _ row.line c.in-Err.field-0 c.in-Err.ensures.judged c.in_ok-figures.ensures.0 spelled.size c.in_ok-figures.ensures.1 spelled.figures fine
