use Rattle.std.proofs.Common.{arith, inl, inr, refl, sym}
use Rattle.serde_json.specs.Find.{as_bool}
use Rattle.json_tree.specs.Trees.{view}
use Rattle.json_tree.proofs.NodeLemmas.{otherwise}
use Rattle.json_tree.proofs.tree.Tree.as_bool.Goals as goal

pub returns-in_default : goal.returns-in_default
returns-in_default c =
    sym (otherwise as_bool c.node.result (view c.args.self.now) c.node.ensures (inr (λ ms. refl)) (inr (λ ds. refl)) (inr (λ s. refl)) (inr (λ m. refl)) (inl (λ b e. grind arith)) (inr refl))
