use Rattle.std.proofs.Common.{◌≡◌, ◌∙◌, ◌+◌, ◌∷◌, true, false, None, Some, ap, arith, drop, map, subst, sym}
use Rattle.std.specs.Prelude.{MatchOption}
use Rattle.std.specs.Str.{bytes_eq}
use Rattle.json.specs.Tape.{node_token}
use Rattle.json.specs.Token.{key}
use Rattle.serde_json.specs.Data.{put}
use Rattle.serde_json.specs.Find.{get_member}
use Rattle.json_tree.specs.Trees.{BeginsMembers, HasData, view}
use Rattle.json_tree.proofs.NodeLemmas.{token_is_of, within}
use Rattle.json_tree.proofs.TokenLemmas.{members_over, members_split, put_found, put_other, some_data, some_members}
use Rattle.json_tree.proofs.tree.find.Goals as goal

pub node_at-requires : goal.node_at-requires
node_at-requires c =
    let (ms, rest, begins) = c.requires.begins in
    let (old, left, found) = c.members.invariant ms rest begins in
    within c.args.nodes.now c.members.at (λ e. some_members old ms rest (subst (λ l. BeginsMembers l old ms rest) e left))

pub after-at-requires-clause-within : goal.after-at-requires-clause-within
after-at-requires-clause-within c =
    let (ms, rest, begins) = c.requires.begins in
    let (old, left, found) = c.members.invariant ms rest begins in
    let inside = drop (c.members.at + 1) (map node_token c.args.nodes.now) in
    let named = c.node_at.ensures ∙ ap (λ n. node_token n ∷ inside) c.in-Key.is in
    let (j, more, whole, value, others) = members_split c.in-Key.key.now inside old ms rest (subst (λ l. BeginsMembers l old ms rest) named left) in
    within c.args.nodes.now (c.members.at + 1) (λ e. some_data (subst HasData e value))

pub members-preserved-then-eq : goal.members-preserved-then-eq
members-preserved-then-eq c ms rest begins =
    let (old, left, found) = c.members.invariant ms rest begins in
    let inside = drop (c.members.at + 1) (map node_token c.args.nodes.now) in
    let k = c.in-Key.key.now in
    let named = c.node_at.ensures ∙ ap (λ n. node_token n ∷ inside) c.in-Key.is in
    let (j, more, whole, value, others) = members_split k inside old ms rest (subst (λ l. BeginsMembers l old ms rest) named left) in
    let new = put k (view inside) old in
    let same : bytes_eq k c.args.name.now ≡ true = grind arith in
    (new, subst (λ l. BeginsMembers l new ms rest) (sym (c.after-at.ensures.value j more whole)) others, (value, put_found c.args.name.now k (view inside) old same))

pub members-preserved : goal.members-preserved
members-preserved c ms rest begins =
    let (old, left, found) = c.members.invariant ms rest begins in
    let all = map node_token c.args.nodes.now in
    let inside = drop (c.members.at + 1) all in
    let k = c.in-Key.key.now in
    let named = c.node_at.ensures ∙ ap (λ n. node_token n ∷ inside) c.in-Key.is in
    let (j, more, whole, value, others) = members_split k inside old ms rest (subst (λ l. BeginsMembers l old ms rest) named left) in
    let new = put k (view inside) old in
    let other : bytes_eq k c.args.name.now ≡ false = grind arith in (
      new,
      subst (λ l. BeginsMembers l new ms rest) (sym (c.after-at.ensures.value j more whole)) others,
      subst (λ o. MatchOption c.members.found (o ≡ None) (λ i. HasData (drop i all) × (o ≡ Some (view (drop i all))))) (sym (put_other c.args.name.now k (view inside) old other)) found,
    )

pub returns : goal.returns
returns c ms rest begins =
    let (old, left, found) = c.members.invariant ms rest begins in
    let all = map node_token c.args.nodes.now in
    let n = c.node_at.result in
    let same : ms ≡ old =
    members_over (node_token n) (drop (c.members.at + 1) all) old ms rest
    (λ k e. let (x, is) = token_is_of n (key k) e in grind arith)
    (subst (λ l. BeginsMembers l old ms rest) c.node_at.ensures left) in
    subst (λ m. MatchOption c.members.found (get_member c.args.name.now m ≡ None) (λ i. HasData (drop i all) × (get_member c.args.name.now m ≡ Some (view (drop i all))))) (sym same) found
