use Rattle.fpl_reports.proofs.ReportFacts.{lines_more}
use Rattle.fpl_reports.proofs.lines.put_lines.Goals as goal

pub loop-line-preserved : goal.loop-line-preserved
loop-line-preserved g c = lines_more g.T.Line.fields c.args.lines.now c.loop-line.line-index c.line-item.result c.args.report c.loop-line.longer _ c.loop-line-test.true c.line-item.is c.loop-line.invariant c.in_ok-longer.ensures
