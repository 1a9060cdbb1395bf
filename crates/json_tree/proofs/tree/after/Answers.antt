use Rattle.std.proofs.Common.{◌+◌, ◌≢◌, map, drop, get_or, sym, ◌∙◌, subst, arith, ⊎_elim}
use Rattle.std.proofs.lemmas.List.{get_or_default}
use Rattle.json.specs.Tape.{node_token, LinkAt, Passes}
use Rattle.json.specs.Token.{begin_array, begin_object}
use Rattle.json.specs.declared.tape.Node.TheVariants.{Array, Null, Object}
use Rattle.json_tree.proofs.NodeLemmas.{by_link, here, token_is_of}
use Rattle.json_tree.proofs.TokenLemmas.{alone}
use Rattle.json_tree.proofs.tree.after.Goals as goal

pub returns-in_default : goal.returns-in_default
returns-in_default c =
    let ns = c.args.nodes.now in
    let i = c.args.i in
    let n = get_or ns i (Object 0) in
    let other : (a : _) → n ≢ Object a = λ a e. grind arith in
    let others : (a : _) → n ≢ Array a = λ a e. grind arith in
    let no_object : node_token n ≢ begin_object = λ e. let (a, is) = token_is_of n begin_object e in other a is in
    let no_array : node_token n ≢ begin_array = λ e. let (a, is) = token_is_of n begin_array e in others a is in
    record {
      value = λ j rest e. alone (node_token n) (drop (i + 1) (map node_token ns)) j rest no_object no_array (sym (here ns i (Object 0) c.requires.within) ∙ e);
      later = omega arith;
    }

pub returns-in-Object : goal.returns-in-Object
returns-in-Object c =
    let ns = c.args.nodes.now in
    let all = map node_token ns in
    let i = c.args.i in
    let end = c.in-Object.end in
    let linked = subst (LinkAt all i) (get_or_default ns i Null (Object 0) c.requires.within) (c.requires.links i (omega arith) c.requires.within) in
    let passes : Passes all i end = ⊎_elim (λ is. subst (LinkAt all i) is linked) (λ is. subst (LinkAt all i) is linked) c.in-Object.is in
    record { value = λ j rest e. by_link all i end j rest passes e; later = passes.2 }

pub returns-in-Object-2 : goal.returns-in-Object-2
returns-in-Object-2 c =
    let ns = c.args.nodes.now in
    let all = map node_token ns in
    let i = c.args.i in
    let end = c.in-Object.end in
    let linked = subst (LinkAt all i) (get_or_default ns i Null (Object 0) c.requires.within) (c.requires.links i (omega arith) c.requires.within) in
    let passes : Passes all i end = ⊎_elim (λ is. subst (LinkAt all i) is linked) (λ is. subst (LinkAt all i) is linked) c.in-Object.is in
    record { value = λ j rest e. by_link all i end j rest passes e; later = passes.2 }
