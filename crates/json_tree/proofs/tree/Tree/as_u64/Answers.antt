use Rattle.std.proofs.Common.{arith, inl, inr, refl, sym, option_and_then}
use Rattle.serde_json.specs.Find.{as_number, as_u64}
use Rattle.json_tree.specs.Trees.{view}
use Rattle.json_tree.proofs.NodeLemmas.{otherwise}
use Rattle.json_tree.proofs.tree.Tree.as_u64.Goals as goal

pub returns-in_default : goal.returns-in_default
returns-in_default c =
    sym (otherwise (λ d. option_and_then as_u64 (as_number d)) c.node.result (view c.args.self.now) c.node.ensures (inr (λ ms. refl)) (inr (λ ds. refl)) (inr (λ s. refl)) (inl (λ s e. grind arith)) (inr (λ b. refl)) (inr refl))
