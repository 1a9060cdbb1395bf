use Rattle.std.proofs.Common.{◌<◌, ◌∙◌, ◌+◌, ◌∷◌, ap, arith, drop, length, length-drop, map, subst, sym}
use Rattle.std.proofs.lemmas.List.{length-map}
use Rattle.json.specs.Tape.{node_token}
use Rattle.serde_json.specs.Data.{item}
use Rattle.json_tree.specs.Trees.{HasItems, seen, view}
use Rattle.json_tree.proofs.NodeLemmas.{items_split_here, within}
use Rattle.json_tree.proofs.TokenLemmas.{items_over, some_items}
use Rattle.json_tree.proofs.tree.Items.next.Goals as goal

pub node_at-requires : goal.node_at-requires
node_at-requires c = within c.self.inside.nodes.now c.self.inside.at (λ e. some_items (subst HasItems e c.self.invariant.1))

pub returns-in-EndArray-clause-next : goal.returns-in-EndArray-clause-next
returns-in-EndArray-clause-next c =
    let rest = drop (c.self.inside.at + 1) (map node_token c.self.inside.nodes.now) in
    let closing = c.node_at.ensures ∙ ap (λ n. node_token n ∷ rest) c.in-EndArray.is in
    ap seen (sym c.self.view_is ∙ closing) ∙ items_over rest (subst HasItems closing c.self.invariant.1)

pub after-self-inside-requires : goal.after-self-inside-requires
after-self-inside-requires c =
    record {
      within = within c.self.inside.nodes.now c.self.inside.at (λ e. some_items (subst HasItems e c.self.invariant.1));
      links = c.self.invariant.0;
    }

pub invariant_of-result : goal.invariant_of-result
invariant_of-result c =
    let (j, rest, whole, begins, others, parts) = items_split_here c.node_at.result _ _ c.node_at.ensures c.in_default.not-EndArray c.self.invariant.1 in
    (c.self.invariant.0, begins)

pub invariant_of-self : goal.invariant_of-self
invariant_of-self c =
    let (j, rest, whole, begins, others, parts) = items_split_here c.node_at.result _ _ c.node_at.ensures c.in_default.not-EndArray c.self.invariant.1 in
    (c.self.invariant.0, subst HasItems (sym (c.after-self-inside.ensures.value j rest whole)) others)

pub returns : goal.returns
returns c =
    let all = map node_token c.self.inside.nodes.now in
    let (j, rest, whole, begins, others, parts) = items_split_here c.node_at.result _ _ c.node_at.ensures c.in_default.not-EndArray c.self.invariant.1 in
    let inside : c.self.inside.at < length c.self.inside.nodes.now = within c.self.inside.nodes.now c.self.inside.at (λ e. some_items (subst HasItems e c.self.invariant.1)) in
    record {
      next = ap seen (sym c.self.view_is) ∙ parts ∙ ap (λ l. item (view (drop c.self.inside.at all)) (seen l)) (sym (c.after-self-inside.ensures.value j rest whole));
      fewer =
          omega (arith, length-drop c.after-self-inside.result all, length-drop c.self.inside.at all, length-map c.self.inside.nodes.now node_token, ap length c.self.view_is, c.after-self-inside.ensures.later);
      stays = tt;
    }
