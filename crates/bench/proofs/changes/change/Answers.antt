use Rattle.std.proofs.Common.{sym, subst, set, length, length-set, ◌-◌, nat_cmp}
use Rattle.rescore_graph.specs.States.{look}
use Rattle.rescore_graph.specs.Settling.{Sound}
use Rattle.bench.specs.Tree.{tree_graph}
use Rattle.bench.proofs.PlantFacts.{number_changed}
use Rattle.bench.proofs.changes.change.Goals as goal

pub returns-clause-ok : goal.returns-clause-ok
returns-clause-ok c =
    let tree = c.args.tree.now in
    let numbers = set tree.numbers.items (c.args.node - 1) c.args.number in
    let t = look nat_cmp c.mark.new.self in
    subst (λ k. Sound (tree_graph k numbers) t) (sym (length-set tree.numbers.items (c.args.node - 1) c.args.number))
    (number_changed (length tree.numbers.items) tree.numbers.items tree.few (look nat_cmp c.args.cells.now) t c.requires.sound
    c.args.node c.args.number c.requires.low c.requires.high c.in_ok-mark.ensures.ok)
