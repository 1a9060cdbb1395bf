use Rattle.std.proofs.Common.{ap, arith, inl, inr, is_some, refl, sym}
use Rattle.serde_json.specs.Find.{as_object}
use Rattle.json_tree.specs.Trees.{view}
use Rattle.json_tree.proofs.NodeLemmas.{otherwise}
use Rattle.json_tree.proofs.tree.Tree.is_object.Goals as goal

pub returns-in_default : goal.returns-in_default
returns-in_default c =
    ap is_some (sym (otherwise as_object c.node.result (view c.args.self.now) c.node.ensures (inl (λ a e. grind arith)) (inr (λ ds. refl)) (inr (λ s. refl)) (inr (λ m. refl)) (inr (λ b. refl)) (inr refl)))
