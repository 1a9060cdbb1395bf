use Rattle.std.proofs.Common.{sym}
use Rattle.match_facts.proofs.ColumnLemmas.{line_here, none_here}
use Rattle.match_facts.proofs.columns.line_at.Goals as goal

pub returns-in-Ok : goal.returns-in-Ok
returns-in-Ok c = sym (line_here c.args.players.now c.args.lines.now c.args.player c.in-Ok.place _ c.requires.ascending c.requires.paired c.in-Ok.ensures)

pub returns-in-Err : goal.returns-in-Err
returns-in-Err c = sym (none_here c.args.players.now c.args.lines.now c.args.player c.in-Err.field-0 c.in-Err.ensures)
