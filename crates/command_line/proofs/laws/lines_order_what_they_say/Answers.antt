use Rattle.command_line.proofs.LineLemmas.{are_read, are_unread}
use Rattle.command_line.proofs.laws.lines_order_what_they_say.Goals as goal

pub returns : goal.returns
returns c = record { read = are_read; unread = are_unread }
