use Rattle.std.specs.List.{zip}
use Rattle.match_facts.proofs.MarkLemmas.{marked_without}
use Rattle.match_facts.proofs.sheet.Sheet.remove.Goals as goal

pub invariant_of-self : goal.invariant_of-self
invariant_of-self c = record {
  columns = c.remove_row.ensures.columns;
  marked = rw c.remove_row.ensures.rows (marked_without c.self.inside.marks c.args.player (zip c.self.inside.players.items c.self.inside.lines.items) c.self.invariant.marked);
}
