use Rattle.std.proofs.Common.{◌<◌, ◌∙◌, ◌+◌, ◌∷◌, ap, arith, drop, length, length-drop, map, subst, sym}
use Rattle.std.proofs.lemmas.List.{length-map}
use Rattle.json.specs.Tape.{node_token}
use Rattle.json_tree.specs.Trees.{HasItems, seen}
use Rattle.json_tree.proofs.NodeLemmas.{number_split, within}
use Rattle.json_tree.proofs.TokenLemmas.{some_items}
use Rattle.json_tree.proofs.tree.Items.next_number.Goals as goal

pub node_at-requires : goal.node_at-requires
node_at-requires c = within c.self.inside.nodes.now c.self.inside.at (λ e. some_items (subst HasItems e c.self.invariant.1))

pub invariant_of-self : goal.invariant_of-self
invariant_of-self c =
    let rest = drop (c.self.inside.at + 1) (map node_token c.self.inside.nodes.now) in
    let first = c.node_at.ensures ∙ ap (λ n. node_token n ∷ rest) c.in-Number.is in
    (c.self.invariant.0, (number_split c.in-Number.text.now _ rest first c.self.invariant.1).0)

pub returns-in-Number : goal.returns-in-Number
returns-in-Number c =
    let all = map node_token c.self.inside.nodes.now in
    let rest = drop (c.self.inside.at + 1) all in
    let first = c.node_at.ensures ∙ ap (λ n. node_token n ∷ rest) c.in-Number.is in
    let (others, (d, is, whole)) = number_split c.in-Number.text.now _ rest first c.self.invariant.1 in
    let inside : c.self.inside.at < length c.self.inside.nodes.now = within c.self.inside.nodes.now c.self.inside.at (λ e. some_items (subst HasItems e c.self.invariant.1)) in
    record {
      next = (d, ap seen (sym c.self.view_is) ∙ is, c.whole_of.ensures ∙ whole);
      fewer = omega (arith, length-drop (c.self.inside.at + 1) all, length-drop c.self.inside.at all, length-map c.self.inside.nodes.now node_token, ap length c.self.view_is);
      stays = tt;
    }
