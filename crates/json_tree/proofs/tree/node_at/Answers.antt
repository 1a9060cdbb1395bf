use Rattle.json.specs.declared.tape.Node.TheVariants.{Object}
use Rattle.json_tree.proofs.NodeLemmas.{here}
use Rattle.json_tree.proofs.tree.node_at.Goals as goal

pub returns : goal.returns
returns c = here c.args.nodes.now c.args.at (Object 0) c.requires
