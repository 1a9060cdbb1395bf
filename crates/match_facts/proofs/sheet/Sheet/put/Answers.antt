use Rattle.std.specs.List.{zip}
use Rattle.match_facts.proofs.MarkLemmas.{marked_put}
use Rattle.match_facts.proofs.sheet.Sheet.put.Goals as goal

pub invariant_of-self : goal.invariant_of-self
invariant_of-self c =
    let before = zip c.self.inside.players.items c.self.inside.lines.items in
    record {
      columns = c.put_row.ensures.columns;
      marked = rw c.mark.ensures (marked_put c.self.inside.marks c.self.told c.args.player before c.args.line.now c.self.invariant.marked
          (zip c.put_row.new.players.items c.put_row.new.lines.items) c.put_row.result c.put_row.ensures.ok c.put_row.ensures.err);
    }
