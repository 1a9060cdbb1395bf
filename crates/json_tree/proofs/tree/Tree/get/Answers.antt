use Rattle.std.proofs.Common.{◌∙◌, ◌+◌, ◌∷◌, ap, arith, drop, inl, inr, map, refl, subst, sym}
use Rattle.json.specs.Tape.{node_token}
use Rattle.serde_json.specs.Find.{get}
use Rattle.json_tree.specs.Trees.{HasData, view}
use Rattle.json_tree.proofs.NodeLemmas.{otherwise, within}
use Rattle.json_tree.proofs.TokenLemmas.{first_tells_view, object_inside, some_data}
use Rattle.json_tree.proofs.tree.Tree.get.Goals as goal

pub node_at-requires : goal.node_at-requires
node_at-requires c = within c.self.inside.nodes.now c.self.inside.at (λ e. some_data (subst HasData e c.self.invariant.1))

pub find-requires-clause-begins : goal.find-requires-clause-begins
find-requires-clause-begins c =
    let inside = drop (c.self.inside.at + 1) (map node_token c.self.inside.nodes.now) in
    let first = c.node_at.ensures ∙ ap (λ n. node_token n ∷ inside) c.in-Object.is in
    let (ms, rest, begins, is) = object_inside inside (subst HasData first c.self.invariant.1) in
    (ms, rest, begins)

pub invariant_of-result : goal.invariant_of-result
invariant_of-result c =
    let inside = drop (c.self.inside.at + 1) (map node_token c.self.inside.nodes.now) in
    let first = c.node_at.ensures ∙ ap (λ n. node_token n ∷ inside) c.in-Object.is in
    let (ms, rest, begins, is) = object_inside inside (subst HasData first c.self.invariant.1) in
    (c.self.invariant.0, (c.in-Some.ensures ms rest begins).0)

pub returns-in-Some : goal.returns-in-Some
returns-in-Some c =
    let inside = drop (c.self.inside.at + 1) (map node_token c.self.inside.nodes.now) in
    let first = c.node_at.ensures ∙ ap (λ n. node_token n ∷ inside) c.in-Object.is in
    let (ms, rest, begins, is) = object_inside inside (subst HasData first c.self.invariant.1) in
    sym (ap (λ l. get c.args.name.now (view l)) (sym c.self.view_is ∙ first) ∙ ap (get c.args.name.now) is ∙ (c.in-Some.ensures ms rest begins).1)

pub returns-in-None : goal.returns-in-None
returns-in-None c =
    let inside = drop (c.self.inside.at + 1) (map node_token c.self.inside.nodes.now) in
    let first = c.node_at.ensures ∙ ap (λ n. node_token n ∷ inside) c.in-Object.is in
    let (ms, rest, begins, is) = object_inside inside (subst HasData first c.self.invariant.1) in
    sym (ap (λ l. get c.args.name.now (view l)) (sym c.self.view_is ∙ first) ∙ ap (get c.args.name.now) is ∙ c.in-None.ensures ms rest begins)

pub returns-in_default : goal.returns-in_default
returns-in_default c =
    let t = node_token c.node_at.result in
    let rest = drop (c.self.inside.at + 1) (map node_token c.self.inside.nodes.now) in
    let name = c.args.name.now in
    let first = sym c.self.view_is ∙ c.node_at.ensures in
    let tells = first_tells_view t rest (subst HasData c.node_at.ensures c.self.invariant.1) in
    sym (ap (λ l. get name (view l)) first ∙ otherwise (get name) c.node_at.result (view (t ∷ rest)) tells (inl (λ a e. grind arith)) (inr (λ ds. refl)) (inr (λ s. refl)) (inr (λ m. refl)) (inr (λ b. refl)) (inr refl))
