use Rattle.std.proofs.Common.{◌∙◌, ◌+◌, ◌∷◌, ap, arith, drop, inl, inr, map, refl, subst, sym}
use Rattle.json.specs.Tape.{node_token}
use Rattle.serde_json.specs.Find.{as_array}
use Rattle.json_tree.specs.Trees.{HasData, view}
use Rattle.json_tree.proofs.NodeLemmas.{otherwise, within}
use Rattle.json_tree.proofs.TokenLemmas.{first_tells_view, list_inside, some_data}
use Rattle.json_tree.proofs.tree.Tree.as_array.Goals as goal

pub node_at-requires : goal.node_at-requires
node_at-requires c = within c.self.inside.nodes.now c.self.inside.at (λ e. some_data (subst HasData e c.self.invariant.1))

pub invariant_of-result : goal.invariant_of-result
invariant_of-result c =
    let inside = drop (c.self.inside.at + 1) (map node_token c.self.inside.nodes.now) in
    let first = c.node_at.ensures ∙ ap (λ n. node_token n ∷ inside) c.in-Array.is in
    (c.self.invariant.0, (list_inside inside (subst HasData first c.self.invariant.1)).0)

pub returns-in-Array : goal.returns-in-Array
returns-in-Array c =
    let inside = drop (c.self.inside.at + 1) (map node_token c.self.inside.nodes.now) in
    let first = c.node_at.ensures ∙ ap (λ n. node_token n ∷ inside) c.in-Array.is in
    sym (ap (λ l. as_array (view l)) (sym c.self.view_is ∙ first) ∙ ap as_array (list_inside inside (subst HasData first c.self.invariant.1)).1)

pub returns-in_default : goal.returns-in_default
returns-in_default c =
    let t = node_token c.node_at.result in
    let rest = drop (c.self.inside.at + 1) (map node_token c.self.inside.nodes.now) in
    let first = sym c.self.view_is ∙ c.node_at.ensures in
    let tells = first_tells_view t rest (subst HasData c.node_at.ensures c.self.invariant.1) in
    sym (ap (λ l. as_array (view l)) first ∙ otherwise as_array c.node_at.result (view (t ∷ rest)) tells (inr (λ ms. refl)) (inl (λ a e. grind arith)) (inr (λ s. refl)) (inr (λ m. refl)) (inr (λ b. refl)) (inr refl))
