use Rattle.std.proofs.Common.{◌≡◌, ◌∙◌, ◌+◌, ◌∷◌, drop, map, subst, sym}
use Rattle.json.specs.Tape.{node_token}
use Rattle.json_tree.specs.Trees.{HasData, Tells, view}
use Rattle.json_tree.proofs.NodeLemmas.{within}
use Rattle.json_tree.proofs.TokenLemmas.{first_tells_view, some_data}
use Rattle.json_tree.proofs.tree.Tree.node.Goals as goal

pub node_at-requires : goal.node_at-requires
node_at-requires c = within c.self.inside.nodes.now c.self.inside.at (λ e. some_data (subst HasData e c.self.invariant.1))

pub returns : goal.returns
returns c =
    let t = node_token c.node_at.result in
    let rest = drop (c.self.inside.at + 1) (map node_token c.self.inside.nodes.now) in
    let first : c.args.self.now ≡ t ∷ rest = sym c.self.view_is ∙ c.node_at.ensures in
    subst (λ l. Tells t (view l)) (sym first) (first_tells_view t rest (subst HasData c.node_at.ensures c.self.invariant.1))
